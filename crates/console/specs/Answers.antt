-- The lines of answers.
use Rattle.std.specs.Prelude.{◌≡◌, ℕ, zero, suc, ◌+◌, ◌/◌, ◌%◌, ◌^◌, cond, List, [], ◌∷◌, ◌++◌, Some, None, Ok, Err, Result, codes, decimal, nat_lt}
use Rattle.refusal.specs.declared.Refusal.{Refusal}
use Rattle.refusal.specs.Numbers.{refusal_number}
use Rattle.console.specs.declared.answer.Answer.{Answer}
use Rattle.console.specs.declared.answer.Answer.TheVariants.{Done, Word, Taken, Line}

-- a hexadecimal digit, in capitals
abbrev pub hex_digit : ℕ → ℕ
hex_digit d = cond (nat_lt d 10) (48 + d) (55 + d)

-- the lowest k hexadecimal digits of n, the highest of them first
abbrev pub hex_digits : ℕ → ℕ → List ℕ
hex_digits zero n = []
hex_digits (suc k) n = hex_digit (n / 16 ^ k % 16) ∷ hex_digits k n

-- a register's value: `0x` and eight digits
abbrev pub hex_word : ℕ → List ℕ
hex_word n = codes "0x" ++ hex_digits 8 n

-- every line ends in byte 10
abbrev pub ended : List ℕ → List ℕ
ended text = text ++ (10 ∷ [])

-- what is shown of each answer
abbrev pub answer_shown : Answer → List ℕ
answer_shown Done = codes "ok"
answer_shown (Word n) = hex_word n
answer_shown (Taken (Some n)) = decimal n
answer_shown (Taken None) = codes "none"
answer_shown (Line up) = cond up (codes "up") (codes "down")

-- the line of a refusal of this number
abbrev pub refused_line : ℕ → List ℕ
refused_line n = ended (codes "no " ++ decimal n)

-- the line of what was said to a command: its answer, or `no` and the number of the refusal
abbrev pub answer_line : Result Answer Refusal → List ℕ
answer_line (Ok answer) = ended (answer_shown answer)
answer_line (Err r) = refused_line (refusal_number r)

-- the same, where a refusal is given as whatever has a number
abbrev pub Says : {R : Type 0} → (R → ℕ → Type 0) → Result Answer R → List ℕ → Type 0
Says numbered (Ok answer) line = line ≡ answer_line (Ok answer)
Says numbered (Err r) line = (n : ℕ) × (numbered r n) × (line ≡ refused_line n)

-- the answer to a line that is no command: the line as it was, byte for byte
abbrev pub unreadable_line : List ℕ → List ℕ
unreadable_line line = ended (codes "? " ++ line)
