use Rattle.std.proofs.Common.{ℕ, Option, sym, subst}
use Rattle.interrupt.specs.Meaning.{members}
use Rattle.register_file.specs.Picking.{Chosen}
use Rattle.register_file.proofs.Lines.{chosen_none}
use Rattle.mask_device.specs.Meaning.{Above, mask_device}
use Rattle.mask_device.proofs.Steps.{levels_in, chosen_in}
use Rattle.mask_device.proofs.device.MaskDevice.first_pending.Goals as goal

pub returns-in_err-priority : goal.returns-in_err-priority
returns-in_err-priority c =
    let s = c.args.self.now in
    let chosen_so : Option ℕ → Type 0 = λ o. Chosen Above (mask_device s) o in
    subst chosen_so (sym c.from_residual.ensures) (chosen_none Above (mask_device s) (members c.levels.result) (levels_in s (members c.levels.result) c.levels.ensures) (sym c.in_err-priority.ensures))

pub returns : goal.returns
returns c =
    chosen_in c.args.self.now (members c.levels.result) c.in_ok-priority.priority.level c.highest.result c.levels.ensures (sym c.in_ok-priority.ensures) c.highest.ensures
