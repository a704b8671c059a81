-- What a command does to a register device, and how it is answered.
use Rattle.std.specs.Prelude.{◌≡◌, ℕ, List, Some, None, Ok, Err, Option, Result}
use Rattle.refusal.specs.declared.Refusal.{Refusal}
use Rattle.list_register.specs.Meaning.{Meaning}
use Rattle.list_register.specs.Calls.{making, line_up, Acknowledges, ended, deactivated}
use Rattle.register_file.specs.Picking.{Prefers}
use Rattle.register_device.specs.Access.{word_read, word_written, word_said}
use Rattle.register_device.specs.Meaning.{Below}
use Rattle.console.specs.declared.answer.Answer.{Answer}
use Rattle.console.specs.declared.answer.Answer.TheVariants.{Done, Word, Taken, Line}
use Rattle.console.specs.Answers.{answer_line, unreadable_line}
use Rattle.console.specs.Words.{words}
use Rattle.register_commands.specs.declared.command.Command.{Command}
use Rattle.register_commands.specs.declared.command.Command.TheVariants.{New as new, Read as read, Write as write, Acknowledge as acknowledge, End as end, Deactivate as deactivate, Line as line}
use Rattle.register_commands.specs.Commands.{command_of}

-- what is answered where a call had nothing to say, and where it gave a word

abbrev pub on_done : {A : Type 0} → Result A Refusal → Result Answer Refusal
on_done (Ok a) = Ok Done
on_done (Err r) = Err r

abbrev pub on_word : Result ℕ Refusal → Result Answer Refusal
on_word (Ok w) = Ok (Word w)
on_word (Err r) = Err r

-- a new device in place of the old one, which stays where that is refused
abbrev pub replaced : Meaning → Result Meaning Refusal → Meaning
replaced m (Ok n) = n
replaced m (Err r) = m

-- a command that found a device meaning m, left it meaning after, and was answered a
abbrev pub Performs : Command → Meaning → Meaning → Result Answer Refusal → Type 0
Performs (new n) m after a = (after ≡ replaced m (making n)) × (a ≡ on_done (making n))
Performs (read o) m after a = (after ≡ m) × (a ≡ on_word (word_read o m))
Performs (write o w) m after a = (after ≡ word_written o w m) × (a ≡ on_done (word_said o w m))
Performs acknowledge m after a = (n : Option ℕ) × (Acknowledges m n after) × (Prefers Below m n) × (a ≡ Ok (Taken n))
Performs (end w) m after a = (after ≡ ended w m) × (a ≡ Ok Done)
Performs (deactivate w) m after a = (after ≡ deactivated w m) × (a ≡ Ok Done)
Performs line m after a = (after ≡ m) × (a ≡ Ok (Line (line_up m)))

-- the answer to a command, or to a line that is none
abbrev pub RespondsTo : Option Command → List ℕ → Meaning → Meaning → List ℕ → Type 0
RespondsTo None text m after answer = (after ≡ m) × (answer ≡ unreadable_line text)
RespondsTo (Some c) text m after answer = (a : Result Answer Refusal) × (Performs c m after a) × (answer ≡ answer_line a)

-- a line that found a device meaning m, left it meaning after, and was answered by a line
abbrev pub Responds : List ℕ → Meaning → Meaning → List ℕ → Type 0
Responds text m after answer = RespondsTo (command_of (words text)) text m after answer
