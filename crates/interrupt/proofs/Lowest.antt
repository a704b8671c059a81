-- The lowest member of a set.
use Rattle.std.proofs.Common.{◌≡◌, ℕ, zero, suc, ◌+◌, ◌<◌, ◌≤◌, Bool, true, false, cond, ◌||◌, sym, refl, ap, ◌∙◌, ⊎_elim, zero-le, add-one, arith}
use Rattle.std.proofs.lemmas.Bool.{cases_lt}
use Rattle.interrupt.specs.Sets.{some, lowest}

-- r is the lowest of the numbers below k that are in s, and k where none is
pub record Lowest (k : ℕ) (s : ℕ → Bool) (r : ℕ) : Type 0 where
  pub within : r ≤ k
  pub below : (p : ℕ) → p < r → s p ≡ false
  pub here : r < k → s r ≡ true

pub some_none : (k : ℕ) (s : ℕ → Bool) → ((p : ℕ) → p < k → s p ≡ false) → some k s ≡ false
unfolding some
some_none zero s h = refl
some_none (suc k) s h = let a = some_none k s (λ p l. h p (omega arith)) in let b = h k (omega arith) in rw a b

pub some_at : (k : ℕ) (s : ℕ → Bool) (p : ℕ) → p < k → s p ≡ true → some k s ≡ true
unfolding some
some_at zero s p l e = absurd (omega arith)
some_at (suc k) s p l e = ⊎_elim (λ (h : p < k). let a = some_at k s p h e in rw a refl) (λ (h : k ≤ p). let same : p ≡ k = omega arith in let a : s k ≡ true = ap s (sym same) ∙ e in last (some k s) (s k) a) (cases_lt p k)
  where
    last : (x y : Bool) → y ≡ true → (x || y) ≡ true
    last true y h = refl
    last false y h = h

pub some_not : (k : ℕ) (s : ℕ → Bool) → some k s ≡ false → (p : ℕ) → p < k → s p ≡ false
some_not k s e p l = go (s p) refl
  where
    go : (t : Bool) → s p ≡ t → t ≡ false
    go false h = refl
    go true h = sym (some_at k s p l h) ∙ e

-- one number more
pub some_more : (k : ℕ) (s : ℕ → Bool) → some (k + 1) s ≡ (some k s || s k)
unfolding some
some_more k s = rw add-one refl

pub some_found : (k : ℕ) (s : ℕ → Bool) → some k s ≡ true → (p : ℕ) × (p < k) × (s p ≡ true)
unfolding some
some_found zero s e = absurd (let z : ◌≡◌ {A = ℕ} 0 1 = cc in omega arith)
some_found (suc k) s e = go (some_found k s) (some k s) refl e
  where
    go : (some k s ≡ true → (p : ℕ) × (p < k) × (s p ≡ true)) → (t : Bool) → some k s ≡ t → (t || s k) ≡ true → (p : ℕ) × (p < suc k) × (s p ≡ true)
    go ih true a b = let f = ih a in (f.0, omega (arith, f.1), f.2)
    go ih false a b = (k, omega arith, b)

pub lowest_of : (k : ℕ) (s : ℕ → Bool) → Lowest k s (lowest k s)
unfolding lowest some
lowest_of zero s = record { within = zero-le; below = λ p h. absurd (omega arith); here = λ h. absurd (omega arith) }
lowest_of (suc k) s = go (lowest_of k s) (some k s) (s k) refl refl
  where
    go : Lowest k s (lowest k s) → (x y : Bool) → some k s ≡ x → s k ≡ y → Lowest (suc k) s (cond x (lowest k s) (cond y k (suc k)))
    go r true y a b =
        let w : lowest k s < k = ⊎_elim (λ (h : lowest k s < k). h) (λ (h : k ≤ lowest k s). absurd (let n = some_none k s (λ p l. r.below p (omega arith)) in let z : ◌≡◌ {A = Bool} true false = cc in let o : ◌≡◌ {A = ℕ} 0 1 = cc in omega arith)) (cases_lt (lowest k s) k) in
        record { within = omega arith; below = r.below; here = λ _. r.here w }
    go r false true a b = record { within = omega arith; below = some_not k s a; here = λ _. b }
    go r false false a b = record { within = omega arith; below = λ p h. ⊎_elim (λ (l : p < k). some_not k s a p l) (λ (l : k ≤ p). let e : p ≡ k = omega arith in ap s e ∙ b) (cases_lt p k); here = λ h. absurd (omega arith) }

-- there is only one
pub lowest_is : (k : ℕ) (s : ℕ → Bool) (r q : ℕ) → Lowest k s r → Lowest k s q → r ≡ q
lowest_is k s r q a b = ⊎_elim (λ (h : r < q). absurd (clash r (a.here (let w = b.within in omega arith)) (b.below r h)))
    (λ (h : q ≤ r). ⊎_elim (λ (l : q < r). absurd (clash q (b.here (let w = a.within in omega arith)) (a.below q l))) (λ (l : r ≤ q). omega arith) (cases_lt q r)) (cases_lt r q)
  where
    clash : (p : ℕ) → s p ≡ true → s p ≡ false → ⊥
    clash p e f = let z : ◌≡◌ {A = ℕ} 0 1 = cc in omega arith
