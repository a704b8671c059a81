-- Counting the members of a set.
use Rattle.std.proofs.Common.{◌≡◌, ℕ, zero, suc, ◌+◌, ◌<◌, ◌≤◌, Bool, true, false, not, ◌||◌, eqb, refl, ap, ◌∙◌, ⊎_elim, add-zero, add-suc, arith}
use Rattle.std.proofs.lemmas.Bool.{cases_lt}
use Rattle.std.proofs.lemmas.Bool.Decides.{nat_tests}
use Rattle.interrupt.specs.Counts.{one_if, count}
use Rattle.interrupt.specs.Sets.{put, some}

one_if_le : (t : Bool) → one_if t ≤ 1
one_if_le true = omega arith
one_if_le false = omega arith

pub count_le : (k : ℕ) (f : ℕ → Bool) → count k f ≤ k
unfolding count
count_le zero f = omega arith
count_le (suc k) f = omega (arith, count_le k f, one_if_le (f k))

-- what lies past the range does not count
count_past : (k n : ℕ) (v : Bool) (f : ℕ → Bool) → k ≤ n → count k (put n v f) ≡ count k f
unfolding count
count_past zero n v f h = refl
count_past (suc k) n v f h =
    let e : eqb k n ≡ false = grind (arith, nat_tests) in
    let r = count_past k n v f (omega arith) in
    rw e (ap (λ (m : ℕ). m + one_if (f k)) r)

-- one member more, or one less
pub count_put : (k n : ℕ) (v : Bool) (f : ℕ → Bool) → n < k → count k (put n v f) + one_if (f n) ≡ count k f + one_if v
unfolding count
count_put zero n v f h = absurd (omega arith)
count_put (suc k) n v f h = ⊎_elim
    (λ (l : n < k).
    let e : eqb k n ≡ false = grind (arith, nat_tests) in
    let r = count_put k n v f l in
    rw e (omega (arith, r)))
    (λ (l : k ≤ n).
    let same : n ≡ k = omega arith in
    let e : eqb k n ≡ true = grind (arith, nat_tests) in
    let r = count_past k n v f l in
    let s : f n ≡ f k = ap f same in
    rw e (rw s (omega (arith, r))))
    (cases_lt n k)

-- none counts exactly where none is there
pub count_none : (k : ℕ) (f : ℕ → Bool) → eqb (count k f) 0 ≡ not (some k f)
unfolding count some
count_none zero f = refl
count_none (suc k) f = go (f k) (some k f) (count k f) (count_none k f)
  where
    go : (t s : Bool) (n : ℕ) → eqb n 0 ≡ not s → eqb (n + one_if t) 0 ≡ not (s || t)
    go true true n h = grind (arith, nat_tests)
    go true false n h = grind (arith, nat_tests)
    go false true n h = grind (arith, nat_tests)
    go false false n h = grind (arith, nat_tests)

-- a member counts
pub count_some : (k n : ℕ) (f : ℕ → Bool) → n < k → f n ≡ true → 1 ≤ count k f
count_some k n f h e = let p = count_put k n false f h in let o = ap one_if e in omega arith

pub count_empty : (k : ℕ) → count k (λ _. false) ≡ 0
unfolding count
count_empty zero = refl
count_empty (suc k) = omega (arith, count_empty k)

-- below j, and from j up
pub count_split : (j k : ℕ) (f : ℕ → Bool) → count (j + k) f ≡ count j f + count k (λ i. f (j + i))
unfolding count
count_split j zero f = omega (arith, ap (λ (n : ℕ). count n f) (add-zero j))
count_split j (suc k) f = ap (λ (n : ℕ). count n f) (add-suc j k) ∙ omega (arith, count_split j k f)

-- only the numbers below k count
pub count_same : (k : ℕ) (f g : ℕ → Bool) → ((p : ℕ) → p < k → f p ≡ g p) → count k f ≡ count k g
unfolding count
count_same zero f g h = refl
count_same (suc k) f g h = let e = count_same k f g (λ p l. h p (omega arith)) in let s = h k (omega arith) in rw s (rw e refl)
