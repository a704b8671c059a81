-- One set among those of all priorities, and the summary of which are not empty.
use Rattle.std.proofs.Common.{◌≡◌, ℕ, ◌<◌, ◌≤◌, Bool, true, false, cond, eqb, List, length, set, replicate, sym, refl, ap, ◌∙◌, ⊎_elim, arith, get_or-set_other, get_or-set_same}
use lib.ListN.{get_or-replicate, length-replicate}
use Rattle.std.proofs.lemmas.List.{get_or_past}
use Rattle.std.proofs.lemmas.Bool.{eqb-true, eqb-false, cases_lt}
use Rattle.interrupt.specs.Sets.{put, some}
use Rattle.interrupt.proofs.Bits.{no_member}
use Rattle.interrupt.proofs.Lowest.{some_none, some_at, some_not}
use Rattle.mask_device.specs.declared.register_set.RegisterSet.{RegisterSet}
use Rattle.mask_device.specs.Sets.{registers_in, no_registers, in_set}

-- the set of priority p becomes s
set_in : (sets : List RegisterSet) (p : ℕ) (s : RegisterSet) → p < length sets → (q k : ℕ) → in_set (set sets p s) q k ≡ cond (eqb q p) (registers_in s k) (in_set sets q k)
set_in sets p s h q k = go (eqb q p) refl
  where
    go : (t : Bool) → eqb q p ≡ t → in_set (set sets p s) q k ≡ cond t (registers_in s k) (in_set sets q k)
    go true e = ap (λ (r : ℕ). in_set (set sets p s) r k) (eqb-true q p e) ∙ ap (λ (t : RegisterSet). registers_in t k) (get_or-set_same sets p s no_registers h)
    go false e = ap (λ (t : RegisterSet). registers_in t k) (get_or-set_other sets p q s no_registers (eqb-false q p e))

-- which sets are not empty
abbrev pub Summed : (ℕ → Bool) → List RegisterSet → Type 0
Summed levels sets = (p : ℕ) → p < 32 → levels p ≡ some 64 (in_set sets p)

pub summed_set : (sets : List RegisterSet) (levels after : ℕ → Bool) (p l : ℕ) (s : RegisterSet) → l ≡ p → l < length sets → Summed levels sets → after ≡ put p (some 64 (registers_in s)) levels → Summed after (set sets l s)
summed_set sets levels after p l s e h summed f q b =
    ap (λ (g : ℕ → Bool). g q) f ∙ ap (λ (r : ℕ). put r (some 64 (registers_in s)) levels q) (sym e) ∙ go (eqb q l) refl ∙ ap (some 64) (λ i k. sym (set_in sets l s h q k) i)
  where
    go : (t : Bool) → eqb q l ≡ t → cond t (some 64 (registers_in s)) (levels q) ≡ some 64 (λ k. cond t (registers_in s k) (in_set sets q k))
    go true a = refl
    go false a = summed q b

-- the set is as empty as it was
pub put_same : (p : ℕ) (v : Bool) (f : ℕ → Bool) → f p ≡ v → f ≡ put p v f
put_same p v f e = λ i q. go q (eqb q p) refl i
  where
    go : (q : ℕ) (t : Bool) → eqb q p ≡ t → f q ≡ cond t v (f q)
    go q true a = ap f (eqb-true q p a) ∙ e
    go q false a = refl

-- a register that enters is in the set
pub some_put : (k : ℕ) (s : ℕ → Bool) → k < 64 → some 64 (put k true s) ≡ true
some_put k s h = some_at 64 (put k true s) k h (go (eqb k k) refl)
  where
    go : (t : Bool) → eqb k k ≡ t → cond t true (s k) ≡ true
    go true a = refl
    go false a = absurd (eqb-false k k a refl)

-- new sets
pub none_in : (n : ℕ) (s : RegisterSet) → registers_in s ≡ (λ _. false) → (p k : ℕ) → in_set (replicate n s) p k ≡ false
none_in n s e p k = ⊎_elim
    (λ (h : p < n). ap (λ (t : RegisterSet). registers_in t k) (get_or-replicate n p s no_registers h) ∙ ap (λ (g : ℕ → Bool). g k) e)
    (λ (h : n ≤ p). ap (λ (t : RegisterSet). registers_in t k) (get_or_past (replicate n s) p no_registers (rw length-replicate h)) ∙ ap (λ (g : ℕ → Bool). g k) no_member)
    (cases_lt p n)

pub summed_none : (levels : ℕ → Bool) (sets : List RegisterSet) → levels ≡ (λ _. false) → ((p k : ℕ) → in_set sets p k ≡ false) → Summed levels sets
summed_none levels sets e f p h = ap (λ (g : ℕ → Bool). g p) e ∙ sym (some_none 64 (in_set sets p) (λ k l. f p k))

-- and where one stays after another left, there was one
pub some_left : (k : ℕ) (s : ℕ → Bool) → some 64 (put k false s) ≡ true → some 64 s ≡ true
some_left k s e = go (some 64 s) refl
  where
    each : (q : ℕ) (t : Bool) → eqb q k ≡ t → s q ≡ false → cond t false (s q) ≡ false
    each q true a f = refl
    each q false a f = f

    go : (t : Bool) → some 64 s ≡ t → t ≡ true
    go true a = refl
    go false a = absurd (let n = some_none 64 (put k false s) (λ q l. each q (eqb q k) refl (some_not 64 s a q l)) in let z : ◌≡◌ {A = ℕ} 0 1 = cc in omega arith)
