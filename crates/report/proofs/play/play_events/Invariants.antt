use Rattle.std.proofs.Common.{map}
use Rattle.records.specs.Records.{event_of}
use Rattle.trace.specs.Opening.{events_in}
use Rattle.trace.specs.Walking.{left}
use Rattle.report.proofs.Plays.{Played}
use Rattle.report.proofs.play.play_events.Given as goal

abbrev pub invariant-loop-placed : goal.invariant-loop-placed
invariant-loop-placed g l =
    let it = l.placed-iterator in
    Played (g.G.Guest.book l.initial.guest) (events_in l.trace.file.now l.trace.events) l.initial.area (g.G.Guest.book l.guest) (map (λ p. p.value) (left event_of it.file.now it.section it.next)) l.area l.trace.events.count l.tally
