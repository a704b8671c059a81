use Rattle.std.proofs.lemmas.Result.{err_from_is_err_and}
use Rattle.guest.proofs.Outcomes.{declined}
use Rattle.report.specs.Playing.{configuring}
use Rattle.report.proofs.play.set_up.Goals as goal

pub returns-in_err-configure : goal.returns-in_err-configure
returns-in_err-configure g c =
    let p = err_from_is_err_and c.from_residual.result c.from_residual.ensures.1 in
    let d = declined (configuring c.args.setup) _ _ _ (rw (c.from-number.ensures, c.from.ensures) at c.in_err-configure.ensures) in
    rw (p.1, p.2) (record { refusal = d.0; does = d.1 })
