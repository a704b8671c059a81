use Rattle.std.proofs.Common.{ℕ, sym, ap, ◌∙◌, subst}
use Rattle.interrupt.specs.Sets.{put}
use Rattle.list_register.specs.Entries.{Entry}
use Rattle.list_register.specs.Shown.{entry_of}
use Rattle.mask_device.specs.Meaning.{mask_device}
use Rattle.mask_device.specs.Pending.{pending_in}
use Rattle.mask_device.specs.Step.{InStep}
use Rattle.mask_device.proofs.Steps.{steps_put}
use Rattle.mask_device.proofs.device.MaskDevice.replace.Goals as goal

pub invariant_of-self : goal.invariant_of-self
invariant_of-self c =
    let s = c.args.self.now in
    let e = entry_of c.args.entry in
    let at = (mask_device s).at in
    let sets = pending_in c.enter.new.self in
    let stepping : (ℕ → Entry) → Type 0 = λ f. InStep f sets in
    record { step = subst stepping (ap (λ (j : ℕ). put j e at) c.new-place.ensures ∙ sym c.put.ensures.entries) (steps_put c.new-place.result.index e at _ _ sets s.step c.leave.ensures c.enter.ensures) }
