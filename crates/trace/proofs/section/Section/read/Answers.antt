use Rattle.std.proofs.Common.{sym, ◌∙◌}
use Rattle.records.specs.Bytes.{record_at}
use Rattle.trace.specs.Opening.{place}
use Rattle.trace.proofs.Records.{not_whole}
use Rattle.trace.proofs.section.Section.read.Goals as goal

pub returns-in_err-record : goal.returns-in_err-record
returns-in_err-record g c =
    let file = c.args.file.now in
    let s = c.args.self in
    c.from_residual.ensures ∙ sym (g.met.T.FromRecord.cut (record_at file (place s c.args.k)) (not_whole file s c.args.k c.requires c.in_err-record.ensures))
