-- Setups and events, played one after another from a guest that means b.
use Rattle.std.specs.Prelude.{◌≡◌, ℕ, ◌+◌, Bool, true, false, cond, List, [], ◌∷◌, ◌++◌, length, is_some, Some, None, Ok, Err, Option}
use Rattle.std.specs.Option.{option_map}
use Rattle.refusal.specs.declared.Refusal.{Refusal}
use Rattle.refusal.specs.Rows.{unless}
use Rattle.guest.specs.declared.call.Call.{Call}
use Rattle.guest.specs.declared.call.Call.TheVariants.{Configure, Enable}
use Rattle.guest.specs.Book.{Book}
use Rattle.guest.specs.Calls.{next, says, refusal_of}
use Rattle.guest.specs.Replies.{done, changed, acknowledged, Said}
use Rattle.fault.specs.declared.Fault.{Fault}
use Rattle.fault.specs.declared.GuestFault.{GuestFault}
use Rattle.records.specs.declared.record.Setup.{Setup}
use Rattle.records.specs.declared.record.Event.{Event}
use Rattle.trace.specs.declared.placed.Placed.{Placed}
use Rattle.fault.specs.Faults.{declined, of_guest}
use Rattle.report.specs.declared.play.Tally.{Tally}
use Rattle.report.specs.Lines.{onto, line_of}

-- the setups

abbrev pub configuring : Setup → Call
configuring u = Configure u.number u.kind u.priority

-- a setup configures its interrupt, and then enables it if it says so
abbrev pub set_up : Setup → Book → Book
set_up u b = cond u.enabled (next (Enable u.number) (next (configuring u) b)) (next (configuring u) b)

-- the fault of a setup that the guest declines, or else what follows
abbrev pub declined_or : Option Refusal → ℕ → Option Fault → Option Fault
declined_or (Some r) place other = Some (declined r place)
declined_or None place other = other

-- the fault of the first setup that the guest declines
abbrev pub setup_declined : Book → List (Placed Setup) → Option Fault
setup_declined b [] = None
setup_declined b (p ∷ ps) = declined_or (refusal_of (configuring p.value) b) p.place (setup_declined (set_up p.value b) ps)

-- what the guest means after the setups, or after those before the first declined one
abbrev pub after_setups : Book → List (Placed Setup) → Book
after_setups b [] = b
after_setups b (p ∷ ps) = unless (refusal_of (configuring p.value) b) b (after_setups (set_up p.value b) ps)

-- these setups were played from a guest meaning b: what it means after them, and the fault of the one that it declined, if any
pub record SetupsPlayed (b : Book) (setups : List (Placed Setup)) (after : Book) (e : Option GuestFault) : Type 0 where
  pub means : after ≡ after_setups b setups
  pub fault : setup_declined b setups ≡ option_map of_guest e

-- the events

abbrev pub after_events : Book → List Event → Book
after_events b [] = b
after_events b (e ∷ es) = after_events (next e.call b) es

-- their lines
abbrev pub lines : Book → List Event → List ℕ
lines b [] = []
lines b (e ∷ es) = line_of e.time (says e.call b) ++ lines (next e.call b) es

-- an acknowledgement that named a number
abbrev pub names_number : Said → Bool
names_number (Ok done) = false
names_number (Ok (changed v)) = false
names_number (Ok (acknowledged taken)) = is_some taken
names_number (Err r) = false

abbrev pub was_declined : Said → Bool
was_declined (Ok a) = false
was_declined (Err r) = true

-- how many events got such an answer
abbrev pub count_of : (Said → Bool) → Book → List Event → ℕ
count_of such b [] = 0
count_of such b (e ∷ es) = cond (such (says e.call b)) 1 0 + count_of such (next e.call b) es

-- these events were played from a guest meaning b: what it means after them, their lines at the area's front, and the tally
pub record EventsPlayed (b : Book) (events : List Event) (after : Book) (area left : List ℕ) (t : Tally) : Type 0 where
  pub means : after ≡ after_events b events
  pub written : left ≡ onto (lines b events) area
  pub used : t.used ≡ length (lines b events)
  pub acknowledged : t.acknowledged ≡ count_of names_number b events
  pub declined : t.declined ≡ count_of was_declined b events
