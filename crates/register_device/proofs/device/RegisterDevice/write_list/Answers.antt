use Rattle.std.proofs.Common.{sym, ◌∙◌}
use Rattle.list_register.specs.Shown.{entry_of}
use Rattle.register_file.proofs.Entries.{ends}
use Rattle.register_file.proofs.Holders.{alone_of}
use Rattle.register_device.specs.Meaning.{register_device}
use Rattle.register_device.proofs.device.RegisterDevice.write_list.Goals as goal

pub put-requires-clause-alone : goal.put-requires-clause-alone
put-requires-clause-alone c =
    let d = c.args.self.now in
    alone_of (register_device d) c.from-place.result (entry_of c.entry-entry.result) (ends d.list) (sym c.clashes.ensures ∙ c.if-clashes.false)
