use Rattle.std.proofs.Common.{arith}
use Rattle.std.proofs.lemmas.Bool.Decides.{nat_tests}
use Rattle.plain.specs.Table.{actives}
use Rattle.interrupt.proofs.Counting.{count_none}
use Rattle.plain.proofs.plain_guest.PlainGuest.any_active.Goals as goal

pub returns : goal.returns
returns c =
    let s = c.args.self.now in
    let none = count_none 1020 (actives s.table) in
    let counted = s.counted in
    grind (arith, nat_tests)
