use Rattle.std.proofs.Common.{Bool, sym, ap, ◌∙◌, arith}
use Rattle.interrupt.specs.Meaning.{members}
use Rattle.interrupt.specs.Sets.{put, some}
use Rattle.mask_device.proofs.Sets.{summed_set, some_put}
use Rattle.mask_device.proofs.pending.PendingSets.insert.Goals as goal

pub invariant_of-self : goal.invariant_of-self
invariant_of-self c = record {
  summed = summed_set c.args.self.now.sets (members c.args.self.now.levels) (members c.insert.new.self) c.args.priority.level c.from-p.result c.with.result (c.from-p.ensures ∙ c.level.ensures.value) (omega arith) c.args.self.now.summed
      (c.insert.ensures ∙ ap (λ (t : Bool). put c.args.priority.level t (members c.args.self.now.levels)) (sym (ap (some 64) c.with.ensures ∙ some_put c.args.register.index _ c.args.register.within)));
}
