use Rattle.std.proofs.Common.{◌≡◌, None}
use Rattle.fault.specs.Faults.{first_fault}
use Rattle.trace.specs.Opening.{event_fault}
use Rattle.trace.proofs.Records.{time_before}
use Rattle.trace.proofs.check.check_events.Given as goal

-- no event so far has a fault, and the time is that of the last one
abbrev pub invariant-loop-k : goal.invariant-loop-k
invariant-loop-k l =
    (first_fault l.k (event_fault l.file l.events) ≡ None)
    × (l.time ≡ time_before l.file l.events l.k)
