use Rattle.std.proofs.Common.{rules}
use Rattle.fault.specs.Faults.{of_record}
use Rattle.fault.proofs.Faults.{first_exit}
use Rattle.trace.proofs.check.check_setups.Goals as goal

pub returns-in_err-ok_or-clause-fault : goal.returns-in_err-ok_or-clause-fault
returns-in_err-ok_or-clause-fault c = first_exit of_record c.loop-k.k _ _ c.in_err-ok_or.field-0.0 _ c.loop-k-test.true c.loop-k.invariant (search rules) c.from_residual.ensures.1
