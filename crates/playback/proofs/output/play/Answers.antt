use Rattle.std.proofs.Common.{◌≤◌, length, take, ap, ◌∙◌, arith}
use Rattle.std.proofs.lemmas.List.{take_at}
use Rattle.std.proofs.lemmas.Result.{err_from_is_err_and}
use Rattle.trace.specs.Contents.{events_section}
use Rattle.report.specs.Reporting.{room_for}
use Rattle.playback.proofs.Played.{written, stopped}
use Rattle.playback.proofs.output.play.Goals as goal

pub returns-in_err-used : goal.returns-in_err-used
returns-in_err-used c =
    let p = err_from_is_err_and c.from_residual-in_err-used.result c.from_residual-in_err-used.ensures.1 in
    let o = c.in_ok-trace.ensures in
    let room : room_for (events_section c.args.file.now) ≤ length c.as_mut_slice.result.now = omega (arith, ap room_for o.holds.2, c.as_mut_slice.ensures.len, c.in_ok-area.ensures.len) in
    rw (p.1, p.2) (stopped c.args.file.now _ _ _ o.fault room _ (rw (o.holds.0, o.holds.1, o.holds.2, c.new-guest.ensures) at c.in_err-used.ensures))

pub returns : goal.returns
returns c =
    let o = c.in_ok-trace.ensures in
    let room : room_for (events_section c.args.file.now) ≤ length c.as_mut_slice.result.now = omega (arith, ap room_for o.holds.2, c.as_mut_slice.ensures.len, c.in_ok-area.ensures.len) in
    let w = written c.args.file.now _ _ _ o.fault room _ (rw (o.holds.0, o.holds.1, o.holds.2, c.new-guest.ensures) at c.in_ok-used.ensures) in
    (w.0, c.truncate.ensures.items ∙ ap (take c.in_ok-used.used) (take_at c.report.new.area _ c.in_ok-area.area.len (omega (arith, c.report.auto.area, c.as_mut_slice.ensures.len))) ∙ w.1)
