use Rattle.std.proofs.Common.{◌≡◌, ℕ, Bool, false, ap, ◌∙◌}
use Rattle.interrupt.specs.Sets.{member}
use Rattle.interrupt.proofs.Bits.{no_member}
use Rattle.interrupt.proofs.Words.{highest}
use Rattle.mask_device.proofs.register_set.RegisterSet.highest.Goals as goal

pub returns-in_err-k : goal.returns-in_err-k
returns-in_err-k c = let none : (k : ℕ) → member c.args.self.word k ≡ false = λ k. ap (λ (w : ℕ). member w k) c.in_err-k.ensures.none ∙ ap (λ (g : ℕ → Bool). g k) no_member in rw c.from_residual.ensures none

pub returns : goal.returns
returns c =
    let e = c.in_ok-k.ensures in
    let top = highest c.args.self.word c.in_ok-k.k e.power_le e.next_power_gt in
    (e.bound, top.0, top.1)
