-- The word of a set: its bits, its value, and how many of them are set.
use Rattle.std.proofs.Common.{◌≡◌, ℕ, zero, suc, ◌+◌, ◌*◌, ◌/◌, ◌%◌, ◌^◌, ◌<◌, ◌≤◌, Bool, true, false, cond, eqb, sym, refl, ap, ◌∙◌, ⊎_elim, le_of_suc-le-suc, not-suc-le-zero, mod-eq_of_lt, one-mul, add-one, one-add, arith}
use native.Mathlib.Nat.{pow-succ', div-eq_of_lt-le}
use lib.Bits.{bit_or, or_shifted_r}
use lib.Count.{ones, ones_step}
use Rattle.std.proofs.lemmas.Nat.{mod-pow-add, one_shl}
use Rattle.std.proofs.lemmas.Bool.{cases_lt}
use Rattle.std.proofs.lemmas.Bool.Decides.{nat_tests}
use Rattle.interrupt.specs.declared.priority_set.PrioritySet.{PrioritySet}
use Rattle.interrupt.specs.Counts.{one_if, count}
use Rattle.interrupt.specs.Meaning.{members}
use Rattle.std.specs.Int.{bit_at}
use Rattle.std.proofs.lemmas.Nat.Bits.{bit_at_lowest, bit_at-suc, bit_at_above}
use Rattle.interrupt.specs.Sets.{member, word_of}
use Rattle.interrupt.proofs.Bits.{with_bit}

-- bit p of a word is one where p is a member
bit_member : (w p : ℕ) → bit_at w p ≡ one_if (member w p)
unfolding member
bit_member w p = grind (arith, nat_tests)

-- a word of a set of k numbers has k bits
pub word_below : (k : ℕ) (s : ℕ → Bool) → word_of k s < 2 ^ k
unfolding word_of
word_below zero s = omega arith
word_below (suc k) s = go (word_below k s) (s k)
  where
    go : word_of k s < 2 ^ k → (t : Bool) → word_of k s + cond t (2 ^ k) 0 < 2 ^ suc k
    go h true = omega (arith, pow-succ' 2 k)
    go h false = omega (arith, pow-succ' 2 k)

-- only the numbers below k count
pub word_same : (k : ℕ) (s t : ℕ → Bool) → ((p : ℕ) → p < k → s p ≡ t p) → word_of k s ≡ word_of k t
unfolding word_of
word_same zero s t h = refl
word_same (suc k) s t h = let e = word_same k s t (λ p l. h p (omega arith)) in let f = h k (omega arith) in rw f (rw e refl)

-- the next bit
pub word_push : (k w : ℕ) → w < 2 ^ k → bit_or w (2 ^ k) ≡ w + 2 ^ k
word_push k w h = ap (bit_or w) (sym (one-mul (2 ^ k))) ∙ or_shifted_r 1 k w h ∙ omega (arith, one-mul (2 ^ k))

-- one number more
pub word_more : (k : ℕ) (s : ℕ → Bool) → word_of (k + 1) s ≡ word_of k s + cond (s k) (2 ^ k) 0
unfolding word_of
word_more k s = rw add-one refl

-- as the code adds it at a width of n
pub word_then : (n k w v : ℕ) (s : ℕ → Bool) → k < n → w ≡ word_of k s → s k ≡ true → v ≡ bit_or w (1 * 2 ^ k % 2 ^ n) → v ≡ word_of (k + 1) s
word_then n k w v s h e f g =
    g ∙ (λ i. bit_or (e i) (one_shl k n h i)) ∙ word_push k (word_of k s) (word_below k s)
    ∙ sym (word_more k s ∙ ap (λ (t : Bool). word_of k s + cond t (2 ^ k) 0) f)

pub word_else : (k w : ℕ) (s : ℕ → Bool) → w ≡ word_of k s → s k ≡ false → w ≡ word_of (k + 1) s
word_else k w s e f = e ∙ sym (word_more k s ∙ ap (λ (t : Bool). word_of k s + cond t (2 ^ k) 0) f ∙ omega arith)

-- numbers past k that are not in the set
pub word_wider : (k n : ℕ) (s : ℕ → Bool) → k ≤ n → ((p : ℕ) → k ≤ p → p < n → s p ≡ false) → word_of k s ≡ word_of n s
unfolding word_of
word_wider k zero s h none = let e : k ≡ 0 = omega arith in ap (λ (j : ℕ). word_of j s) e
word_wider k (suc n) s h none = ⊎_elim
    (λ (l : k < suc n). word_wider k n s (omega arith) (λ p a b. none p a (omega arith)) ∙ (let f = none n (omega arith) (omega arith) in rw f (omega arith)))
    (λ (l : suc n ≤ k). let e : k ≡ suc n = omega arith in ap (λ (j : ℕ). word_of j s) e) (cases_lt k (suc n))

-- past its bits a word has no member
pub member_past : (k w q : ℕ) → w < 2 ^ k → k ≤ q → member w q ≡ false
unfolding member
member_past k w q h l = ap (λ (n : ℕ). eqb n 1) (bit_at_above w k q h l)

-- the members of the word of a set are the set's
pub member_word : (k : ℕ) (s : ℕ → Bool) (p : ℕ) → p < k → member (word_of k s) p ≡ s p
unfolding word_of
member_word zero s p h = absurd (not-suc-le-zero h)
member_word (suc k) s p h = go (s k) refl (member_word k s p)
  where
    last : (t : Bool) → s k ≡ t → member (word_of k s + cond t (2 ^ k) 0) k ≡ t
    last true e = ap (λ (w : ℕ). member w k) (sym (word_push k (word_of k s) (word_below k s))) ∙ ap (λ (f : ℕ → Bool). f k) (with_bit (word_of k s) k) ∙ (let r : eqb k k ≡ true = grind (arith, nat_tests) in rw r refl)
    last false e = let z : word_of k s + 0 ≡ word_of k s = omega arith in rw z (member_past k (word_of k s) k (word_below k s) (omega arith))

    early : (p < k → member (word_of k s) p ≡ s p) → (t : Bool) → p < k → member (word_of k s + cond t (2 ^ k) 0) p ≡ s p
    early ih true l = ap (λ (w : ℕ). member w p) (sym (word_push k (word_of k s) (word_below k s))) ∙ ap (λ (f : ℕ → Bool). f p) (with_bit (word_of k s) k) ∙ (let r : eqb p k ≡ false = grind (arith, nat_tests) in rw r (ih l))
    early ih false l = let z : word_of k s + 0 ≡ word_of k s = omega arith in rw z (ih l)

    go : (t : Bool) → s k ≡ t → (p < k → member (word_of k s) p ≡ s p) → member (word_of k s + cond t (2 ^ k) 0) p ≡ s p
    go t e ih = ⊎_elim (λ (l : p < k). early ih t l) (λ (l : k ≤ p). let same : p ≡ k = omega arith in rw same (last t e ∙ sym e)) (cases_lt p k)

-- a word is the word of its members
word_mod : (k w : ℕ) → word_of k (member w) ≡ w % 2 ^ k
unfolding word_of
word_mod zero w = omega arith
word_mod (suc k) w = go (word_mod k w) (member w k) refl
  where
    step : w % 2 ^ suc k ≡ bit_at w k * 2 ^ k + w % 2 ^ k
    step = ap (λ (n : ℕ). w % 2 ^ n) (sym (one-add k)) ∙ mod-pow-add w 1 k

    go : word_of k (member w) ≡ w % 2 ^ k → (t : Bool) → member w k ≡ t → word_of k (member w) + cond t (2 ^ k) 0 ≡ w % 2 ^ suc k
    go ih true e = let b : bit_at w k ≡ 1 = bit_member w k ∙ ap one_if e in omega (arith, step, ap (λ (n : ℕ). n * 2 ^ k) b)
    go ih false e = let b : bit_at w k ≡ 0 = bit_member w k ∙ ap one_if e in omega (arith, step, ap (λ (n : ℕ). n * 2 ^ k) b)

pub word_of_member : (k w : ℕ) → w < 2 ^ k → word_of k (member w) ≡ w
word_of_member k w h = word_mod k w ∙ mod-eq_of_lt h

-- how many bits are set

count_shift : (k w : ℕ) → count (suc k) (member w) ≡ bit_at w 0 + count k (member (w / 2))
unfolding count
count_shift zero w = omega (arith, bit_member w 0)
count_shift (suc k) w = omega (arith, bit_member w (suc k), bit_member (w / 2) k, bit_at-suc w k, count_shift k w)

-- the ones of a word of k bits are the members of its set
pub ones_count : (k w : ℕ) → w < 2 ^ k → ones w ≡ count k (member w)
unfolding ones count
ones_count zero zero h = refl
ones_count zero (suc w) h = absurd (not-suc-le-zero (le_of_suc-le-suc h))
ones_count (suc k) w h =
    ones_step w ∙ omega (arith, bit_at_lowest w, count_shift k w, ones_count k (w / 2) (omega (arith, pow-succ' 2 k)))

-- the highest set bit

top_bit : (w j : ℕ) → 2 ^ j ≤ w → w < 2 ^ suc j → bit_at w j ≡ 1
top_bit w j l h = ap (λ (n : ℕ). n % 2) (div-eq_of_lt-le {k = 1} (2 ^ j) {m = w} (omega arith) (omega (arith, pow-succ' 2 j)))

-- the highest member of a word that is not 0
pub highest : (w r : ℕ) → 2 ^ r ≤ w → w < 2 * 2 ^ r → (member w r ≡ true) × ((q : ℕ) → r < q → member w q ≡ false)
unfolding member
highest w r l h =
    let s : w < 2 ^ suc r = omega (arith, pow-succ' 2 r) in
    (ap (λ (n : ℕ). eqb n 1) (top_bit w r l s), λ q m. member_past (suc r) w q s m)

-- a set of priorities has none past 31
pub members_past : (s : PrioritySet) (p : ℕ) → 32 ≤ p → members s p ≡ false
members_past s p h = member_past 32 s.word p s.narrow h
