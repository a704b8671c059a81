use Rattle.records.specs.Records.{setup_of}
use Rattle.trace.specs.Walking.{placed_in, left}
use Rattle.report.proofs.Plays.{SetUp}
use Rattle.report.proofs.play.play_setups.Given as goal

abbrev pub invariant-loop-placed : goal.invariant-loop-placed
invariant-loop-placed g l =
    let it = l.placed-iterator in
    SetUp (g.G.Guest.book l.initial.guest) (placed_in l.trace.file.now l.trace.setups) (g.G.Guest.book l.guest) (left setup_of it.file.now it.section it.next)
