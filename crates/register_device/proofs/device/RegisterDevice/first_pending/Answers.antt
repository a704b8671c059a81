use Rattle.std.proofs.Common.{ℕ, Option, sym, ap, ◌∙◌, subst}
use Rattle.interrupt.specs.Cpu.{Cpu, first_admitted}
use Rattle.interrupt.specs.Meaning.{members}
use Rattle.register_file.specs.Picking.{Chosen}
use Rattle.register_file.proofs.Lines.{chosen_none}
use Rattle.register_device.specs.Meaning.{Below, register_device}
use Rattle.register_device.proofs.Choosing.{View, levels_in, chosen_in}
use Rattle.register_device.proofs.device.RegisterDevice.first_pending.Goals as goal

pub returns-in_err-priority : goal.returns-in_err-priority
returns-in_err-priority c =
    let d = c.args.self.now in
    let levels = members c.pending_levels.result in
    let chosen_so : Option ℕ → Type 0 = λ o. Chosen Below (register_device d) o in
    let v : View d c.as_slice.result.now = record { value = c.as_slice.ensures.value; len = c.as_slice.ensures.len } in
    subst chosen_so (sym c.from_residual.ensures)
    (chosen_none Below (register_device d) levels (levels_in d c.as_slice.result.now levels v c.pending_levels.ensures) (ap (λ (u : Cpu). first_admitted u levels) (sym c.settings.ensures.cpu) ∙ sym c.in_err-priority.ensures))

pub returns : goal.returns
returns c =
    let d = c.args.self.now in
    let levels = members c.pending_levels.result in
    let v : View d c.as_slice.result.now = record { value = c.as_slice.ensures.value; len = c.as_slice.ensures.len } in
    let u : View d c.as_slice-2.result.now = record { value = c.as_slice-2.ensures.value; len = c.as_slice-2.ensures.len } in
    chosen_in d c.as_slice-2.result.now levels c.in_ok-priority.priority.level c.first_pending.result u (levels_in d c.as_slice.result.now levels v c.pending_levels.ensures)
    (ap (λ (w : Cpu). first_admitted w levels) (sym c.settings.ensures.cpu) ∙ sym c.in_ok-priority.ensures) c.first_pending.ensures
