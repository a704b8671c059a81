-- What one list register holds: an entry.
use Rattle.std.specs.Prelude.{ℕ, Bool, true, false, cond, ◌||◌, ◌==◌, nat_lt}
use Rattle.list_register.specs.declared.state.State.{State}
use Rattle.list_register.specs.declared.state.State.TheVariants.{Empty, Pending, Active, Both}
use Rattle.list_register.specs.declared.entry.RawEntry.{RawEntry}

-- the number of each state
abbrev pub state_number : State → ℕ
state_number Empty = 0
state_number Pending = 1
state_number Active = 2
state_number Both = 3

-- a state, a priority of 0 to 31 and an interrupt's number
pub record Entry : Type 0 where
  pub state : State
  pub priority : ℕ
  pub number : ℕ

-- what a register of a new device holds
abbrev pub nothing : Entry
nothing = record { state = Empty; priority = 0; number = 0 }

-- a register is valid if its state is not 0
abbrev pub is_valid : State → Bool
is_valid Empty = false
is_valid Pending = true
is_valid Active = true
is_valid Both = true

-- state 1
abbrev pub is_pending : State → Bool
is_pending Empty = false
is_pending Pending = true
is_pending Active = false
is_pending Both = false

-- state 2 or 3
abbrev pub is_active : State → Bool
is_active Empty = false
is_active Pending = false
is_active Active = true
is_active Both = true

-- no longer active: from 2 to 0, or from 3 to 1
abbrev pub inactive : State → State
inactive Empty = Empty
inactive Pending = Pending
inactive Active = Empty
inactive Both = Pending

abbrev pub with_state : State → Entry → Entry
with_state s e = record { state = s; priority = e.priority; number = e.number }

-- a valid register with this number
abbrev pub holds : ℕ → Entry → Bool
holds n e = cond (is_valid e.state) (e.number == n) false

-- both valid, and of one number
abbrev pub twins : Entry → Entry → Bool
twins d e = cond (is_valid d.state) (holds d.number e) false

-- an entry as it is asked for, with numbers that may be out of range

-- a state above 3, a priority above 31 or a number above 1019
abbrev pub out_of_range : RawEntry → Bool
out_of_range r = nat_lt 3 r.state || (nat_lt 31 r.priority || nat_lt 1019 r.number)

-- the state of each number up to 3
abbrev pub state_of : ℕ → State
state_of n = cond (n == 0) Empty (cond (n == 1) Pending (cond (n == 2) Active Both))

-- the entry that is asked for
abbrev pub asked : RawEntry → Entry
asked r = record { state = state_of r.state; priority = r.priority; number = r.number }
