use Rattle.std.proofs.Common.{refl, sym, ◌∙◌}
use Rattle.trace.specs.Walking.{placed_at}
use Rattle.trace.proofs.Held.{held_end, held_skip, held_step}
use Rattle.trace.proofs.walk.WalkIterator.next.Goals as goal

pub loop-k-init : goal.loop-k-init
loop-k-init g c = (refl, refl, refl, refl)

pub returns-in-Some-clause-steps : goal.returns-in-Some-clause-steps
returns-in-Some-clause-steps g c =
    let s = c.args.self.now in
    let i = c.loop-k.invariant in
    let p = sym c.in-Some.is ∙ (rw (i.0, i.1) at c.placed.ensures) in
    rw (i.0, i.1) (i.3 ∙ held_step c.loop-k.k s.section.count (placed_at g.T.FromRecord.held s.file.now s.section) c.in-Some.placed c.loop-k-test.true p)

pub loop-k-preserved : goal.loop-k-preserved
loop-k-preserved g c =
    let s = c.args.self.now in
    let i = c.loop-k.invariant in
    let p = sym c.in_default.is ∙ (rw (i.0, i.1) at c.placed.ensures) in
    (i.0, i.1, refl, i.3 ∙ held_skip c.loop-k.k s.section.count (placed_at g.T.FromRecord.held s.file.now s.section) c.loop-k-test.true p)

pub returns-clause-steps : goal.returns-clause-steps
returns-clause-steps g c =
    let s = c.args.self.now in
    let i = c.loop-k.invariant in
    let e = held_end s.section.count c.loop-k.k (placed_at g.T.FromRecord.held s.file.now s.section) c.loop-k-test.false in
    (i.3 ∙ e, rw (i.0, i.1, i.2) e)
