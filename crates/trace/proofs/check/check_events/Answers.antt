use Rattle.std.proofs.Common.{rules}
use Rattle.fault.specs.Faults.{of_record}
use Rattle.fault.proofs.Faults.{first_exit}
use Rattle.trace.proofs.Opened.{events_read}
use Rattle.trace.proofs.check.check_events.Goals as goal

pub returns-in_err-time-clause-fault : goal.returns-in_err-time-clause-fault
returns-in_err-time-clause-fault c = first_exit of_record c.loop-k.k _ _ c.in_err-time.field-0.0 _ c.loop-k-test.true c.loop-k.invariant.0 c.in_err-time.ensures.fault c.from_residual.ensures.1

pub returns-clause-reads : goal.returns-clause-reads
returns-clause-reads c = events_read c.args.file.now c.args.events (search rules)
