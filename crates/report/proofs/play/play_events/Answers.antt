use Rattle.std.proofs.Common.{length, map, refl, ap, arith}
use Rattle.trace.specs.Opening.{event_at}
use Rattle.trace.proofs.Held.{length_held}
use Rattle.report.proofs.Plays.{none_played, at_most_one, declined_is_err, one_more}
use Rattle.report.proofs.play.play_events.Goals as goal

pub loop-placed-init : goal.loop-placed-init
loop-placed-init g c =
    let t = c.args.trace.now in
    none_played _ _ _ _ _ (rw c.into_iter-placed-iterator.ensures.into_iter_gives c.events-placed-items.ensures.values) (length_held t.events.count (event_at t.file.now t.events))

pub overflow_add-tally-in-loop-placed : goal.overflow_add-tally-in-loop-placed
overflow_add-tally-in-loop-placed g c =
    omega (arith, c.from.ensures, at_most_one c.names_number.result, ap (λ ps. length (map (λ p. p.value) ps)) c.in-Some.ensures.steps, c.loop-placed.invariant.some_acks)

pub overflow_add-tally-in-loop-placed-2 : goal.overflow_add-tally-in-loop-placed-2
overflow_add-tally-in-loop-placed-2 g c =
    omega (arith, c.from-in-loop-placed.ensures, at_most_one c.is_err.result, ap (λ ps. length (map (λ p. p.value) ps)) c.in-Some.ensures.steps, c.loop-placed.invariant.some_nos)

pub loop-placed-preserved : goal.loop-placed-preserved
loop-placed-preserved g c =
    one_more _ _ _ _ _ c.in-Some.placed.value _ _ _ _ _ _ _ _ _ _ _ c.loop-placed.invariant (ap (map (λ p. p.value)) c.in-Some.ensures.steps) c.perform-said.ensures refl
    c.put_line.ensures.line c.put_line.ensures.bound
    (rw (← c.names_number.ensures) c.from.ensures)
    (rw (declined_is_err c.perform-said.result, ← c.is_err.ensures.value) c.from-in-loop-placed.ensures)
