-- What a call says: a granted call's answer, or a refusal.
use Rattle.std.specs.Prelude.{ℕ, Bool, true, false, Some, None, Ok, Err, Option, Result}
use Rattle.std.specs.Option.{option_map}
use Rattle.refusal.specs.declared.Refusal.{Refusal}
use Rattle.interrupt.specs.declared.id.InterruptId.{InterruptId}
use Rattle.interrupt.specs.Meaning.{id_of}
use Rattle.guest.specs.declared.call.Answer.{Answer}
use Rattle.guest.specs.declared.call.Answer.TheVariants.{Done, Changed, Acknowledged}

-- an answer: none is named, whether a flag changed, or which interrupt was acknowledged
pub data Reply : Type 0 where
  done : Reply
  changed : Bool → Reply
  acknowledged : Option ℕ → Reply

-- the number of each answer
abbrev pub reply_number : Reply → ℕ
reply_number done = 0
reply_number (changed true) = 1
reply_number (changed false) = 0
reply_number (acknowledged None) = 1023
reply_number (acknowledged (Some n)) = n

abbrev pub Said : Type 0
Said = Result Reply Refusal

-- what the results of the code's calls say

abbrev pub number_of : Option InterruptId → Option ℕ
number_of o = option_map id_of o

abbrev pub as_done : {A : Type 0} → Result A Refusal → Said
as_done (Ok a) = Ok done
as_done (Err r) = Err r

abbrev pub as_changed : Result Bool Refusal → Said
as_changed (Ok v) = Ok (changed v)
as_changed (Err r) = Err r

abbrev pub as_acknowledged : Result (Option InterruptId) Refusal → Said
as_acknowledged (Ok o) = Ok (acknowledged (number_of o))
as_acknowledged (Err r) = Err r

abbrev pub reply_of : Answer → Reply
reply_of Done = done
reply_of (Changed v) = changed v
reply_of (Acknowledged o) = acknowledged (number_of o)

abbrev pub as_reply : Result Answer Refusal → Said
as_reply (Ok a) = Ok (reply_of a)
as_reply (Err r) = Err r
