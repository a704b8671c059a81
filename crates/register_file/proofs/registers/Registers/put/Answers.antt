use Rattle.std.proofs.Common.{take, sym, subst, arith, length-set}
use Rattle.list_register.specs.Meaning.{Apart}
use Rattle.list_register.specs.Shown.{entry_of}
use Rattle.register_file.specs.Registers.{entries_of}
use Rattle.register_file.proofs.Kept.{apart_put}
use Rattle.register_file.proofs.Places.{at_put}
use Rattle.register_file.proofs.registers.Registers.put.Goals as goal

pub invariant_of-self : goal.invariant_of-self
invariant_of-self g c =
    let s = c.args.self.now in
    let held = g.R.ListRegister.held in
    let e = at_put held s.room s.count c.args.k c.holding.result (entry_of c.args.entry) c.requires.within (omega (arith, s.sized, s.most)) c.holding.ensures in
    record {
      sized = rw length-set s.sized;
      some = s.some;
      most = s.most;
      apart = subst Apart (sym e) (apart_put c.args.k (entry_of c.args.entry) (entries_of held (take s.count s.room)) c.requires.alone s.apart);
    }

pub returns-clause-entries : goal.returns-clause-entries
returns-clause-entries g c =
    let s = c.args.self.now in
    at_put g.R.ListRegister.held s.room s.count c.args.k c.holding.result (entry_of c.args.entry) c.requires.within (omega (arith, s.sized, s.most)) c.holding.ensures
