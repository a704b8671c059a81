-- Where no record has a fault, each of them can be read.
use Rattle.std.proofs.Common.{◌≡◌, ℕ, ◌-◌, Bool, true, false, not, ltb, List, is_some, None, refl, arith}
use Rattle.fault.specs.declared.Fault.{Fault}
use Rattle.trace.specs.declared.section.Section.{Section}
use Rattle.fault.specs.Faults.{bad_field, time_falls, ◌unless◌}
use Rattle.records.specs.Records.{setup_of, event_of}
use Rattle.trace.specs.Opening.{place, setup_at, event_at, time_at, setup_fault, event_fault, setups_fault, events_fault, Readable}
use Rattle.fault.proofs.Faults.{else_none, first_all}

right : (f : Fault) (b : Bool) → (f unless b) ≡ None → b ≡ true
right f true e = refl
right f false e = absurd (let z : ◌≡◌ {A = ℕ} 0 1 = cc in omega arith)

pub setups_read : (file : List ℕ) (s : Section) → setups_fault file s ≡ None → Readable setup_of file s
setups_read file s e k h = right (bad_field (place s k)) (is_some (setup_at file s k)) (first_all k s.count (setup_fault file s) e h)

pub events_read : (file : List ℕ) (s : Section) → events_fault file s ≡ None → Readable event_of file s
events_read file s e k h =
    right (bad_field (place s k)) (is_some (event_at file s k)) (else_none _ (time_falls (place s k) unless not (ltb (time_at file s k) (time_at file s (k - 1)))) (first_all k s.count (event_fault file s) e h)).0
