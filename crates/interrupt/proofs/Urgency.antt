-- The laws of what may preempt what: all that its callers use of it.
use Rattle.std.proofs.Common.{◌≡◌, ℕ, ◌<◌, ◌≤◌, Bool, true, false, cond, ◌&&◌, ltb, Some, None, sym, refl, ap, ◌∙◌, arith}
use Rattle.std.proofs.lemmas.Bool.Decides.{nat_tests}
use Rattle.interrupt.specs.Cpu.{Cpu, admits, first_admitted, running_priority}
use Rattle.interrupt.specs.Preemption.{may_preempt}
use Rattle.interrupt.specs.Sets.{lowest}

-- what is less urgent may not preempt where something more urgent may not
pub less_urgent : (p q mask running : ℕ) → p ≤ q → may_preempt p mask running ≡ false → may_preempt q mask running ≡ false
unfolding may_preempt
less_urgent p q mask running h e = grind (arith, nat_tests)

-- and so a CPU interface that does not admit a priority admits none that is less urgent
pub admits_less : (c : Cpu) (p q : ℕ) → p ≤ q → admits c p ≡ false → admits c q ≡ false
admits_less c p q h e = go c.opened e
  where
    go : (t : Bool) → (t && may_preempt p c.mask (running_priority c)) ≡ false → (t && may_preempt q c.mask (running_priority c)) ≡ false
    go true f = less_urgent p q c.mask (running_priority c) h f
    go false f = refl

-- what it says that the lowest of some priorities is admitted, and that it is not
pub first_some : (c : Cpu) (levels : ℕ → Bool) (p : ℕ) → first_admitted c levels ≡ Some p → (lowest 32 levels ≡ p) × (p < 32) × (admits c p ≡ true)
first_some c levels p e = go (ltb (lowest 32 levels) 32) refl (admits c (lowest 32 levels)) refl e
  where
    go : (s : Bool) → ltb (lowest 32 levels) 32 ≡ s → (t : Bool) → admits c (lowest 32 levels) ≡ t → cond (s && t) (Some (lowest 32 levels)) None ≡ Some p → (lowest 32 levels ≡ p) × (p < 32) × (admits c p ≡ true)
    go true a true b f = let same : lowest 32 levels ≡ p = cc in (same, (let l : lowest 32 levels < 32 = grind (arith, nat_tests) in omega arith), ap (admits c) (sym same) ∙ b)
    go true a false b f = absurd (let z : ◌≡◌ {A = ℕ} 0 1 = cc in omega arith)
    go false a t b f = absurd (let z : ◌≡◌ {A = ℕ} 0 1 = cc in omega arith)

pub first_none : (c : Cpu) (levels : ℕ → Bool) → first_admitted c levels ≡ None → lowest 32 levels < 32 → admits c (lowest 32 levels) ≡ false
first_none c levels e l = go (admits c (lowest 32 levels)) refl (let s : ltb (lowest 32 levels) 32 ≡ true = grind (arith, nat_tests) in rw s at e)
  where
    go : (t : Bool) → admits c (lowest 32 levels) ≡ t → cond (true && t) (Some (lowest 32 levels)) None ≡ None → t ≡ false
    go false a f = refl
    go true a f = absurd (let z : ◌≡◌ {A = ℕ} 0 1 = cc in omega arith)
