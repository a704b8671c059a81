-- What places hold, one after another from one of them on.
use Rattle.std.proofs.Common.{◌≡◌, ℕ, ◌≤◌, zero, suc, ◌+◌, ◌-◌, ◌<◌, [], ◌∷◌, ◌++◌, length, None, Some, Option, sym, refl, ap, ◌∙◌, append_assoc, append-nil, add-one, arith, length-append}
use Rattle.std.specs.Option.{option_to_list}
use Rattle.records.specs.Bytes.{held_by}
use Rattle.trace.specs.Walking.{held_next}

held_more : {A : Type 0} (n : ℕ) (f : ℕ → Option A) → held_by (n + 1) f ≡ held_by n f ++ option_to_list (f n)
unfolding held_by
held_more n f = rw add-one refl

onward : {A : Type 0} (m k : ℕ) (f : ℕ → Option A) → held_by (k + m) f ≡ held_by k f ++ held_next m k f
unfolding held_next
onward zero k f = let e : k + 0 ≡ k = omega arith in rw (e, append-nil)
onward (suc m) k f =
    let e : k + suc m ≡ k + 1 + m = omega arith in rw (e, onward m (k + 1) f, held_more k f, append_assoc)

-- from the first of n places on: all that they hold
pub held_all : {A : Type 0} (n : ℕ) (f : ℕ → Option A) → held_next (n - 0) 0 f ≡ held_by n f
unfolding held_by
held_all n f = let e : n - 0 ≡ n = omega arith in let z : 0 + n ≡ n = omega arith in rw e (sym (onward n 0 f) ∙ ap (λ (i : ℕ). held_by i f) z)

-- nothing is to come past the last
pub held_end : {A : Type 0} (n k : ℕ) (f : ℕ → Option A) → n ≤ k → held_next (n - k) k f ≡ []
unfolding held_next
held_end n k f h = let e : n - k ≡ 0 = omega arith in rw e refl

-- the first of what is to come, and what comes after it
pub held_step : {A : Type 0} (k n : ℕ) (f : ℕ → Option A) (x : A) → k < n → Some x ≡ f k → held_next (n - k) k f ≡ x ∷ held_next (n - (k + 1)) (k + 1) f
unfolding held_next
held_step k n f x h p = let e : n - k ≡ suc (n - (k + 1)) = omega arith in rw (e, ← p) refl

-- one that holds nothing is passed over
pub held_skip : {A : Type 0} (k n : ℕ) (f : ℕ → Option A) → k < n → None ≡ f k → held_next (n - k) k f ≡ held_next (n - (k + 1)) (k + 1) f
unfolding held_next
held_skip k n f h p = let e : n - k ≡ suc (n - (k + 1)) = omega arith in rw (e, ← p) refl

length_one : {A : Type 0} (o : Option A) → length (option_to_list o) ≤ 1
length_one None = omega arith
length_one (Some x) = omega arith

-- no more than there are places
pub length_held : {A : Type 0} (n : ℕ) (f : ℕ → Option A) → length (held_by n f) ≤ n
unfolding held_by
length_held zero f = omega arith
length_held (suc n) f = let h = length_held n f in let o = length_one (f n) in simp length-append (omega arith)
