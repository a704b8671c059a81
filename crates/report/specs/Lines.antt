-- The lines of a report.
use Rattle.std.specs.Prelude.{◌≡◌, ℕ, List, [], ◌∷◌, ◌++◌, length, drop, Some, None, Ok, Err, codes, decimal, Option}
use Rattle.refusal.specs.declared.Refusal.{Refusal}
use Rattle.refusal.specs.Numbers.{refusal_number}
use Rattle.guest.specs.Replies.{done, changed, acknowledged, Said}

-- an area with a text at its front, and past the text what it held before
abbrev pub onto : List ℕ → List ℕ → List ℕ
onto text area = text ++ drop (length text) area

-- n bytes of this text were written at the front of an area, which held old and is left holding new
pub record Puts (text old new : List ℕ) (n : ℕ) : Type 0 where
  pub value : n ≡ length text
  pub after : new ≡ onto text old

-- every line ends in byte 10
abbrev pub newline : List ℕ
newline = 10 ∷ []

-- two numbers in plain decimal, and what stands between them
abbrev pub number_line : ℕ → List ℕ → ℕ → List ℕ
number_line first between second = decimal first ++ (between ++ (decimal second ++ newline))

-- `time ack number` or `time ack none`
abbrev pub ack_line : ℕ → Option ℕ → List ℕ
ack_line time None = decimal time ++ (codes " ack none" ++ newline)
ack_line time (Some n) = number_line time (codes " ack ") n

-- `time no refusal`
abbrev pub no_line : ℕ → Refusal → List ℕ
no_line time refusal = number_line time (codes " no ") (refusal_number refusal)

-- `done`, how many acknowledgements named a number, and how many events were declined
abbrev pub done_line : ℕ → ℕ → List ℕ
done_line acknowledgements declined = codes "done " ++ number_line acknowledgements (codes " ") declined

-- the line of an event at this time that got this answer: one for each granted acknowledge and for each declined event
abbrev pub line_of : ℕ → Said → List ℕ
line_of time (Ok done) = []
line_of time (Ok (changed v)) = []
line_of time (Ok (acknowledged taken)) = ack_line time taken
line_of time (Err refusal) = no_line time refusal
