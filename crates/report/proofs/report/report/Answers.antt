use Rattle.std.proofs.Common.{refl}
use Rattle.report.proofs.Reports.{all_played}
use Rattle.report.proofs.report.report.Goals as goal

pub returns : goal.returns
returns g c =
    let s = c.in_ok-play_setups.ensures in
    all_played _ _ _ _ _ _ _ _ _ _ _ _ c.in_ok-check_room.ensures s.fault s.means c.play_events-tally.ensures.played refl c.put_done.ensures.line
