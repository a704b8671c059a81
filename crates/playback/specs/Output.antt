-- What `run` writes for a file.
use Rattle.std.specs.Prelude.{◌≡◌, ℕ, List, [], ◌∷◌, ◌++◌, Some, None, Option}
use Rattle.guest.specs.Book.{start}
use Rattle.fault.specs.declared.Fault.{Fault}
use Rattle.trace.specs.Contents.{setups_section, events_section}
use Rattle.fault.specs.Faults.{fault_text, ◌else◌}
use Rattle.trace.specs.Opening.{fault_of, events_in}
use Rattle.playback.specs.declared.failure.Failure.{Failure}
use Rattle.playback.specs.declared.failure.Failure.TheVariants.{Faulty, Memory}
use Rattle.report.specs.Playing.{setup_declined, after_setups}
use Rattle.trace.specs.Walking.{placed_in}
use Rattle.report.specs.Reporting.{report_text}

-- `fault layer cause place`, and the line's end
abbrev pub fault_line : Fault → List ℕ
fault_line f = fault_text f ++ (10 ∷ [])

-- the fault of the file, or else of the first setup that a new guest declines
abbrev pub fault_in : List ℕ → Option Fault
fault_in file = fault_of file else setup_declined start (placed_in file (setups_section file))

-- the report of the file's events on a new guest, after its setups
abbrev pub report_in : List ℕ → List ℕ
report_in file = report_text (after_setups start (placed_in file (setups_section file))) (events_in file (events_section file))

abbrev pub fault_or : Option Fault → List ℕ → List ℕ
fault_or (Some f) report = fault_line f
fault_or None report = report

abbrev pub output_of : List ℕ → List ℕ
output_of file = fault_or (fault_in file) (report_in file)

-- why a file has no report: its fault, or else memory ran out, of which the file says nothing
abbrev pub Explains : List ℕ → Failure → Type 0
Explains file (Faulty f) = fault_in file ≡ Some f
Explains file Memory = Unit {0}

-- what is written for it
abbrev pub Tells : Failure → List ℕ → Type 0
Tells (Faulty f) text = text ≡ fault_line f
Tells Memory text = ⊥
