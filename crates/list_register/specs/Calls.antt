-- What each call of a list-register device does, answers and refuses.
use Rattle.std.specs.Prelude.{◌≡◌, ℕ, ◌+◌, ◌<◌, ◌≤◌, min, Bool, true, false, cond, not, ◌&&◌, List, [], ◌∷◌, Some, None, Option, Result, ◌==◌, nat_lt}
use Rattle.refusal.specs.declared.Refusal.{Refusal}
use Rattle.refusal.specs.declared.Refusal.TheVariants.{PriorityRange, UnknownRegister, BadLayout, DuplicateNumber}
use Rattle.refusal.specs.Rows.{Row, ◌when◌, first_row, unless, say}
use Rattle.interrupt.specs.Cpu.{running_priority, admits, by_mode, with_mask, with_active}
use Rattle.interrupt.specs.Sets.{some}
use Rattle.list_register.specs.declared.state.State.TheVariants.{Active}
use Rattle.list_register.specs.declared.entry.RawEntry.{RawEntry}
use Rattle.list_register.specs.Entries.{Entry, is_valid, is_pending, is_active, inactive, with_state, holds, out_of_range, asked}
use Rattle.list_register.specs.Meaning.{Meaning, blank, with_cpu, with_stray, with_entries, with_entry}

-- a call that may be declined, by the rows that are judged: what it leaves, and what it says
abbrev pub Does : {A : Type 0} → List Row → Meaning → Meaning → A → Meaning → Result A Refusal → Type 0
Does rows m granted answer after r = (after ≡ unless (first_row rows) m granted) × (r ≡ say (first_row rows) answer)

-- as many registers as a device may have, 1 to 64
abbrev pub fits : ℕ → Bool
fits n = nat_lt 0 n && nat_lt n 65

-- a new device of n registers
abbrev pub making : ℕ → Result Meaning Refusal
making n = say (first_row ((UnknownRegister when not (fits n)) ∷ [])) (blank n)

-- reading and writing an entry, and the mask

abbrev pub unknown : ℕ → Meaning → Bool
unknown k m = not (nat_lt k m.count)

abbrev pub reading : ℕ → Meaning → Result Entry Refusal
reading k m = say (first_row ((UnknownRegister when unknown k m) ∷ [])) (m.at k)

-- some valid register but k has the number of the entry, which is valid too
abbrev pub clashes : ℕ → Entry → Meaning → Bool
clashes k e m = is_valid e.state && some m.count (λ j. not (j == k) && holds e.number (m.at j))

abbrev pub write_rows : ℕ → RawEntry → Meaning → List Row
write_rows k e m = (UnknownRegister when unknown k m) ∷ (BadLayout when out_of_range e) ∷ (DuplicateNumber when clashes k (asked e) m) ∷ []

-- writing e to register k, which then holds it
abbrev pub Writes : ℕ → RawEntry → Meaning → Meaning → Result (Unit {0}) Refusal → Type 0
Writes k e m after r = Does (write_rows k e m) m (with_entry k (asked e) m) tt after r

abbrev pub Masks : ℕ → Meaning → Meaning → Result (Unit {0}) Refusal → Type 0
Masks p m after r = Does ((PriorityRange when nat_lt 31 p) ∷ []) m (with_cpu (with_mask p m.cpu) m) tt after r

-- the line, and acknowledge

-- register k is in state 1, the device is open, and the register's priority is below both mask and running priority
abbrev pub ready : Meaning → ℕ → Bool
ready m k = is_pending (m.at k).state && admits m.cpu (m.at k).priority

-- the line is up: the device is live, and some register is ready
abbrev pub line_up : Meaning → Bool
line_up m = m.live && some m.count (ready m)

-- an acknowledge may pick register k: it is ready, and none that is ready has a lower priority number
pub record Pick (m : Meaning) (k : ℕ) : Type 0 where
  pub within : k < m.count
  pub can : ready m k ≡ true
  pub lowest : (j : ℕ) → j < m.count → ready m j ≡ true → (m.at k).priority ≤ (m.at j).priority

-- register k goes to state 2, and its priority becomes active
abbrev pub taken : ℕ → Meaning → Meaning
taken k m = with_entry k (with_state Active (m.at k)) (with_cpu (with_active (m.at k).priority true m.cpu) m)

-- an acknowledge that found m, answered r and left after: nothing if the line is down, else one of the picks
pub record Acknowledges (m : Meaning) (r : Option ℕ) (after : Meaning) : Type 0 where
  pub down : line_up m ≡ false → (r ≡ None) × (after ≡ m)
  pub up : line_up m ≡ true → (k : ℕ) × (Pick m k) × (r ≡ Some (m.at k).number) × (after ≡ taken k m)

-- end and deactivate

-- register k has number w and is in state 2 or 3
abbrev pub active_with : ℕ → Meaning → ℕ → Bool
active_with w m k = is_active (m.at k).state && (m.at k).number == w

-- one more, up to 31
abbrev pub risen : ℕ → ℕ
risen n = min 31 (n + 1)

-- the register with number w that is in 2 or 3 goes to 0 or 1; if there is none, the stray count rises
abbrev pub released : ℕ → Meaning → Meaning
released w m = cond (some m.count (active_with w m))
    (with_entries (λ k. cond (active_with w m k) (with_state (inactive (m.at k).state) (m.at k)) (m.at k)) m)
    (with_stray (risen m.stray) m)

-- the lowest active priority leaves
abbrev pub dropped : Meaning → Meaning
dropped m = with_cpu (with_active (running_priority m.cpu) false m.cpu) m

-- some priority is active
abbrev pub handling : Meaning → Bool
handling m = nat_lt (running_priority m.cpu) 32

-- an end of word w: nothing if the device is not live or no priority is active
abbrev pub ended : ℕ → Meaning → Meaning
ended w m = cond (m.live && handling m) (by_mode m.cpu.mode (released w (dropped m)) (dropped m)) m

-- a deactivation of word w: nothing unless the device is live and split
abbrev pub deactivated : ℕ → Meaning → Meaning
deactivated w m = cond m.live (by_mode m.cpu.mode m (released w m)) m
