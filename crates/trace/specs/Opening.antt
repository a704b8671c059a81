-- Which files open, which fault any other has, and what an open trace holds.
use Rattle.std.specs.Prelude.{◌≡◌, ℕ, ◌+◌, ◌-◌, ◌*◌, ◌<◌, ◌≤◌, true, not, ◌⊎◌, List, length, is_some, None, Option, nat_lt}
use Rattle.fault.specs.declared.Fault.{Fault}
use Rattle.trace.specs.declared.section.Section.{Section}
use Rattle.records.specs.declared.record.Setup.{Setup}
use Rattle.records.specs.declared.record.Event.{Event}
use Rattle.records.specs.Bytes.{le32, record_at, held_by}
use Rattle.trace.specs.Contents.{setups_section, events_section, contents_fault}
use Rattle.fault.specs.Faults.{bad_field, time_falls, ◌unless◌, ◌else◌, first_fault}
use Rattle.records.specs.Records.{setup_of, event_of}

-- where record k of a section lies
abbrev pub place : Section → ℕ → ℕ
place s k = s.start + 8 * k

-- there is no record k in the section, or the file ends before it does
abbrev pub Absent : List ℕ → Section → ℕ → Type 0
Absent file s k = (s.count ≤ k) ⊎ (length file < place s k + 8)

-- record k of the section is whole in the file, and these are its offset and its bytes
abbrev pub Found : List ℕ → Section → ℕ → ℕ → List ℕ → Type 0
Found file s k offset bytes = (k < s.count) × (place s k + 8 ≤ length file) × (offset ≡ place s k) × (bytes ≡ record_at file (place s k))

abbrev pub setup_at : List ℕ → Section → ℕ → Option Setup
setup_at file s k = setup_of (record_at file (place s k))

abbrev pub event_at : List ℕ → Section → ℕ → Option Event
event_at file s k = event_of (record_at file (place s k))

abbrev pub time_at : List ℕ → Section → ℕ → ℕ
time_at file s k = le32 (record_at file (place s k)) 0

abbrev pub setup_fault : List ℕ → Section → ℕ → Option Fault
setup_fault file s k = bad_field (place s k) unless is_some (setup_at file s k)

-- its letter and fields first, then its time against that of the one before (the first has none: k - 1 is then k)
abbrev pub event_fault : List ℕ → Section → ℕ → Option Fault
event_fault file s k =
    (bad_field (place s k) unless is_some (event_at file s k)) else (time_falls (place s k) unless not (nat_lt (time_at file s k) (time_at file s (k - 1))))

abbrev pub setups_fault : List ℕ → Section → Option Fault
setups_fault file s = first_fault s.count (setup_fault file s)

abbrev pub events_fault : List ℕ → Section → Option Fault
events_fault file s = first_fault s.count (event_fault file s)

-- the fault of a file, if it has one: its contents are judged first, then every record in the file's order
abbrev pub fault_of : List ℕ → Option Fault
fault_of file = contents_fault file else setups_fault file (setups_section file) else events_fault file (events_section file)

-- a file that opens
abbrev pub WellFormed : List ℕ → Type 0
WellFormed file = fault_of file ≡ None

-- every record of a section holds something, by what its bytes do
abbrev pub Readable : {A : Type 0} → (List ℕ → Option A) → List ℕ → Section → Type 0
Readable held file s = (k : ℕ) → k < s.count → is_some (held (record_at file (place s k))) ≡ true

-- every record of the file is a setup or an event
pub record AllRead (file : List ℕ) : Type 0 where
  pub setups : Readable setup_of file (setups_section file)
  pub events : Readable event_of file (events_section file)

-- the events of a section
abbrev pub events_in : List ℕ → Section → List Event
events_in file s = held_by s.count (event_at file s)
