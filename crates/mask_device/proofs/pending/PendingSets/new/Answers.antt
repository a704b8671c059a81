use Rattle.std.proofs.Common.{replicate}
use Rattle.interrupt.specs.Meaning.{members}
use Rattle.mask_device.proofs.Sets.{none_in, summed_none}
use Rattle.mask_device.proofs.pending.PendingSets.new.Goals as goal

pub invariant_of-result : goal.invariant_of-result
invariant_of-result c =
    record { summed = summed_none (members c.empty-2.result) (replicate 32 c.empty.result) c.empty-2.ensures (none_in 32 c.empty.result c.empty.ensures) }

pub returns : goal.returns
returns c = none_in 32 c.empty.result c.empty.ensures
