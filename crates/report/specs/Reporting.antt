-- The report of a trace on a guest.
use Rattle.std.specs.Prelude.{◌≡◌, ℕ, ◌+◌, ◌*◌, ◌<◌, ◌≤◌, List, ◌++◌, length, Some, None, Ok, Err, Result}
use Rattle.guest.specs.Book.{Book}
use Rattle.trace.specs.declared.section.Section.{Section}
use Rattle.fault.specs.declared.Fault.{Fault}
use Rattle.trace.specs.declared.placed.Placed.{Placed}
use Rattle.records.specs.declared.record.Setup.{Setup}
use Rattle.records.specs.declared.record.Event.{Event}
use Rattle.fault.specs.Faults.{area_too_small}
use Rattle.report.specs.Lines.{onto, done_line}
use Rattle.report.specs.Playing.{setup_declined, after_setups, after_events, lines, names_number, was_declined, count_of}

-- the lines of the events, and the last line
abbrev pub report_text : Book → List Event → List ℕ
report_text b es = lines b es ++ done_line (count_of names_number b es) (count_of was_declined b es)

-- 20 bytes for each event record, and 20 more
abbrev pub room_for : Section → ℕ
room_for s = 20 * (s.count + 1)

-- a report of these setups and events, in an area that needs this room: found a guest meaning b and left it meaning after,
-- found this area and left it so, and answered r
pub record Reports (room : ℕ) (setups : List (Placed Setup)) (events : List Event) (b after : Book) (area left : List ℕ) (r : Result ℕ Fault) : Type 0 where
  -- an area that is too small is refused before anything runs
  pub small : length area < room → (r ≡ Err area_too_small) × (after ≡ b) × (left ≡ area)
  -- a declined setup is a fault with its place
  pub stopped : (f : Fault) → room ≤ length area → setup_declined b setups ≡ Some f → (r ≡ Err f) × (after ≡ after_setups b setups) × (left ≡ area)
  -- otherwise the events run, and the area's front is the report
  pub done :
      room ≤ length area → setup_declined b setups ≡ None →
      let ready : Book = after_setups b setups in
      (r ≡ Ok (length (report_text ready events))) × (after ≡ after_events ready events) × (left ≡ onto (report_text ready events) area)
