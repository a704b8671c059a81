use Rattle.std.proofs.Common.{◌+◌, ◌∙◌}
use lib.Count.{ones}
use Rattle.register_device.specs.Access.{free}
use Rattle.register_device.specs.Meaning.{register_device}
use Rattle.register_device.proofs.Empties.{free_count}
use Rattle.register_device.proofs.device.RegisterDevice.status_ones.Goals as goal

pub returns : goal.returns
returns c = (λ i. ones (c.empty_low.ensures i) + ones (c.empty_high.ensures i)) ∙ free_count (free (register_device c.args.self.now))
