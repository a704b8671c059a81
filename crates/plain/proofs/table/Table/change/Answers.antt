use Rattle.std.proofs.Common.{refl, arith, rules}
use Rattle.interrupt.specs.Meaning.{id_of}
use Rattle.plain.specs.Sources.{means}
use Rattle.plain.specs.Table.{at_of}
use Rattle.plain.proofs.Tables.{read, written}
use Rattle.plain.proofs.table.Table.change.Goals as goal

pub change-requires : goal.change-requires
unfolding at_of
change-requires g c = search (rules, read)

pub returns : goal.returns
unfolding at_of
returns g c =
    let sources = c.args.self.now.sources in let n = id_of c.args.id in let new = c.change.new.self in
    (means new, (_, new, read sources n c.place.result _ c.place.ensures.value (omega arith), c.change.ensures, refl), written sources n c.place.result new c.place.ensures.value (omega arith))
