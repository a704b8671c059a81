-- When a call is declined: its rows, in the order in which they are judged, and the first that applies.
use Rattle.std.specs.Prelude.{Bool, cond, List, [], ◌∷◌, Some, None, Ok, Err, Option, Result}
use Rattle.refusal.specs.declared.Refusal.{Refusal}

pub record Row : Type 0 where
  pub refusal : Refusal
  pub applies : Bool

infix 60 ◌when◌
abbrev pub ◌when◌ : Refusal → Bool → Row
r when t = record { refusal = r; applies = t }

-- the first row that applies
abbrev pub first_row : List Row → Option Refusal
first_row [] = None
first_row (r ∷ rs) = cond r.applies (Some r.refusal) (first_row rs)

-- what is so where a call is declined, or else granted
abbrev pub unless : {A : Type 0} → Option Refusal → A → A → A
unless None declined granted = granted
unless (Some r) declined granted = declined

-- what a call says: its answer, or the refusal
abbrev pub say : {A : Type 0} → Option Refusal → A → Result A Refusal
say None a = Ok a
say (Some r) a = Err r
