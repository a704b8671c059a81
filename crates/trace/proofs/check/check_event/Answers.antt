use Rattle.trace.proofs.Records.{event_early, event_in_time}
use Rattle.trace.proofs.check.check_event.Goals as goal

pub returns-then-event-before-clause-fault : goal.returns-then-event-before-clause-fault
returns-then-event-before-clause-fault c =
    event_early c.args.file.now c.args.events c.args.k _ _ _ _ c.requires.since c.place-place.ensures c.read.ensures c.in_ok-event.ensures.ok_part c.if-event-before.true

pub returns-clause-fault : goal.returns-clause-fault
returns-clause-fault c = event_in_time c.args.file.now c.args.events c.args.k _ _ _ c.requires.since c.read.ensures c.in_ok-event.ensures.ok_part c.if-event-before.false
