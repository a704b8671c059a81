use Rattle.std.proofs.Common.{◌∙◌, sym, arith}
use Rattle.layout.proofs.Offsets.{list_none, list_numbered}
use Rattle.layout.proofs.register.list_register_at.Goals as goal

pub returns-in_err-k-clause-value : goal.returns-in_err-k-clause-value
returns-in_err-k-clause-value c = c.from_residual.ensures ∙ sym (list_none c.args.count c.args.offset (λ k l. c.in_err-k.ensures k (omega (arith, c.ranges.count.fits))))

pub returns-clause-value : goal.returns-clause-value
returns-clause-value c = c.then_some.ensures ∙ sym (list_numbered c.args.count c.args.offset c.in_ok-k.k c.in_ok-k.ensures)
