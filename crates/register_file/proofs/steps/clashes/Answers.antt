use Rattle.std.proofs.Common.{sym, ◌∙◌, rules}
use Rattle.list_register.specs.Shown.{entry_of}
use Rattle.register_file.proofs.Holders.{clash_found}
use Rattle.register_file.proofs.steps.clashes.Goals as goal

pub returns-then-is_valid : goal.returns-then-is_valid
returns-then-is_valid g c = clash_found (g.F.RegisterFile.meaning c.args.file.now) c.args.k c.from-number.result (entry_of c.args.entry) c.find.result c.is_some_and.result
    (g.met.F.RegisterFile.formed c.args.file.now).apart (sym c.is_valid.ensures ∙ c.if-is_valid.true) (c.from-number.ensures ∙ c.number.ensures) c.find.ensures (search rules)
