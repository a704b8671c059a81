use Rattle.register_file.proofs.Lines.{taken_does, taken_prefers}
use Rattle.register_file.proofs.steps.take.Goals as goal

pub returns : goal.returns
returns g c =
    let m = g.F.RegisterFile.meaning c.args.file.now in
    let done = c.activate.ensures in
    record {
      does = taken_does g.F.RegisterFile.before m c.args.k _ _ c.requires.live c.requires.chosen done.number done.does;
      prefers = taken_prefers g.F.RegisterFile.before m c.args.k _ (g.met.F.RegisterFile.formed c.args.file.now).apart c.requires.chosen done.number;
    }
