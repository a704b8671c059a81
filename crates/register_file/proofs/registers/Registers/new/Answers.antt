use Rattle.std.proofs.Common.{refl, ◌∙◌, arith}
use Rattle.register_file.proofs.Kept.{apart_new}
use Rattle.register_file.proofs.Places.{at_new}
use Rattle.register_file.proofs.registers.Registers.new.Goals as goal

pub invariant_of-result : goal.invariant_of-result
invariant_of-result g c =
    let e = at_new g.R.ListRegister.held c.args.count 64 c.holding.result (omega arith) (c.holding.ensures ∙ c.nothing.ensures) in
    record { sized = refl; some = omega arith; most = omega arith; apart = apart_new _ e }

pub returns : goal.returns
returns g c = (refl, at_new g.R.ListRegister.held c.args.count 64 c.holding.result (omega arith) (c.holding.ensures ∙ c.nothing.ensures))
