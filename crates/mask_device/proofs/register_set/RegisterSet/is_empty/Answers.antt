use Rattle.std.proofs.Common.{◌≡◌, ℕ, Bool, true, false, not, is_some, Some, None, Option, sym, ◌∙◌, arith}
use Rattle.std.proofs.lemmas.Bool.Decides.{nat_tests}
use Rattle.interrupt.specs.Sets.{some}
use Rattle.interrupt.proofs.Lowest.{some_none, some_at}
use Rattle.mask_device.specs.Highest.{Highest}
use Rattle.mask_device.proofs.register_set.RegisterSet.is_empty.Goals as goal

-- there is a highest exactly where there is any
any : (s : ℕ → Bool) (o : Option ℕ) → Highest s o → is_some o ≡ some 64 s
any s None h = sym (some_none 64 s (λ k l. h k))
any s (Some k) h = sym (some_at 64 s k h.0 h.1)

negated : (x y : Bool) → x ≡ not y → y ≡ not x
negated true y h = grind (arith, nat_tests)
negated false y h = grind (arith, nat_tests)

pub returns : goal.returns
returns c = negated _ _ (sym (any _ c.highest.result c.highest.ensures) ∙ c.is_none.ensures)
