use Rattle.std.proofs.Common.{◌≡◌, None}
use Rattle.fault.specs.Faults.{first_fault}
use Rattle.trace.specs.Opening.{setup_fault}
use Rattle.trace.proofs.check.check_setups.Given as goal

-- no setup so far has a fault
abbrev pub invariant-loop-k : goal.invariant-loop-k
invariant-loop-k l = first_fault l.k (setup_fault l.file l.setups) ≡ None
