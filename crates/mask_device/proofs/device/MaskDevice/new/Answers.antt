use Rattle.mask_device.proofs.Steps.{steps_new}
use Rattle.mask_device.proofs.device.MaskDevice.new.Goals as goal

pub invariant_of-result : goal.invariant_of-result
invariant_of-result c = record { step = steps_new _ _ c.in_ok-new.ensures.1 c.new-3.ensures }
