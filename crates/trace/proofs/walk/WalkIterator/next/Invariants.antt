use Rattle.std.proofs.Common.{◌≡◌}
use Rattle.trace.specs.Walking.{left}
use Rattle.trace.proofs.walk.WalkIterator.next.Given as goal

-- the records before the next one hold nothing
abbrev pub invariant-loop-k : goal.invariant-loop-k
invariant-loop-k g l =
    let old = l.initial.self in
    (l.self.file ≡ old.file)
    × (l.self.section ≡ old.section)
    × (l.self.next ≡ l.k)
    × (left g.T.FromRecord.held old.file.now old.section old.next ≡ left g.T.FromRecord.held old.file.now old.section l.k)
