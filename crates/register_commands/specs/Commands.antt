-- Which command a line is.
use Rattle.std.specs.Prelude.{ℕ, cond, List, [], ◌∷◌, Some, None, codes, Option}
use Rattle.std.specs.Option.{option_map, option_and_then}
use Rattle.std.specs.Str.{bytes_eq}
use Rattle.console.specs.Numbers.{number}
use Rattle.register_commands.specs.declared.command.Name.{Name}
use Rattle.register_commands.specs.declared.command.Name.TheVariants.{New, Read, Write, Acknowledge, End, Deactivate, Line}
use Rattle.register_commands.specs.declared.command.Command.{Command}
use Rattle.register_commands.specs.declared.command.Command.TheVariants.{New as new, Read as read, Write as write, Acknowledge as acknowledge, End as end, Deactivate as deactivate, Line as line}

-- the name that a word is
abbrev pub name_of : List ℕ → Option Name
name_of w =
    cond (bytes_eq w (codes "new")) (Some New)
    (cond (bytes_eq w (codes "read")) (Some Read)
    (cond (bytes_eq w (codes "write")) (Some Write)
    (cond (bytes_eq w (codes "acknowledge")) (Some Acknowledge)
    (cond (bytes_eq w (codes "end")) (Some End)
    (cond (bytes_eq w (codes "deactivate")) (Some Deactivate)
    (cond (bytes_eq w (codes "line")) (Some Line) None))))))

-- out of the words after its name: a command without a number, with one, and with two

abbrev pub takes_none : Command → List (List ℕ) → Option Command
takes_none command [] = Some command
takes_none command (w ∷ ws) = None

abbrev pub takes_one : (ℕ → Command) → List (List ℕ) → Option Command
takes_one command [] = None
takes_one command (a ∷ []) = option_map command (number a)
takes_one command (a ∷ b ∷ ws) = None

abbrev pub takes_two : (ℕ → ℕ → Command) → List (List ℕ) → Option Command
takes_two command [] = None
takes_two command (a ∷ []) = None
takes_two command (a ∷ b ∷ []) = option_and_then (λ n. option_map (command n) (number b)) (number a)
takes_two command (a ∷ b ∷ c ∷ ws) = None

-- the command of a name and the words after it
abbrev pub named : Name → List (List ℕ) → Option Command
named New = takes_one new
named Read = takes_one read
named Write = takes_two write
named Acknowledge = takes_none acknowledge
named End = takes_one end
named Deactivate = takes_one deactivate
named Line = takes_none line

-- the command that the words of a line are, if they are one
abbrev pub command_of : List (List ℕ) → Option Command
command_of [] = None
command_of (name ∷ ws) = option_and_then (λ n. named n ws) (name_of name)
