use Rattle.std.proofs.Common.{◌∙◌}
use Rattle.register_device.proofs.Choosing.{View}
use Rattle.register_device.proofs.Empties.{status_low}
use Rattle.register_device.proofs.device.RegisterDevice.empty_low.Goals as goal

pub returns : goal.returns
returns c =
    let v : View c.args.self.now c.as_slice-list.result.now = record { value = c.as_slice-list.ensures.value; len = c.as_slice-list.ensures.len } in
    c.empty_word.ensures ∙ status_low c.args.self.now c.as_slice-list.result.now c.min.result v c.min.ensures
