-- Words as sets, at any width.
use Rattle.std.proofs.Common.{◌≡◌, ℕ, zero, suc, ◌*◌, ◌%◌, ◌^◌, ◌<◌, Bool, true, false, cond, eqb, refl, ap, ◌∙◌, ⊎_elim, arith}
use mir.Val.{bits}
use Rattle.std.specs.Int.{Width, bit_at, bit_not, trailing_zeros}
use Rattle.std.specs.Int.Count.{trailing_of_zero}
use Rattle.std.specs.Int.RustNames.{bit_and, bit_or}
use Rattle.std.proofs.lemmas.Bool.{cases_lt, eqb-true, eqb-false}
use Rattle.std.proofs.lemmas.Nat.Bits.{bit_at-zero, bit_at_or, bit_at_and, bit_at-pow_same, bit_at-pow_other, bit_at_set_same, bit_at_set_other, bit_at_clear_same, bit_at_clear_other, bit_at-trailing_zeros, bit_at_above}
use Rattle.interrupt.specs.Sets.{member, put, lowest}
use Rattle.interrupt.proofs.Lowest.{Lowest, lowest_of, lowest_is}

-- a set and one member more, or one less

changed : (w r p v : ℕ) (t : Bool) → eqb v 1 ≡ t → bit_at r p ≡ v → ((q : ℕ) → (q ≡ p → ⊥) → bit_at r q ≡ bit_at w q) → member r ≡ put p t (member w)
unfolding member
changed w r p v t e own others = λ i q. each q (eqb q p) refl i
  where
    each : (q : ℕ) (s : Bool) → eqb q p ≡ s → eqb (bit_at r q) 1 ≡ cond s t (eqb (bit_at w q) 1)
    each q true h = ap (λ (n : ℕ). eqb (bit_at r n) 1) (eqb-true q p h) ∙ ap (λ (n : ℕ). eqb n 1) own ∙ e
    each q false h = ap (λ (n : ℕ). eqb n 1) (others q (eqb-false q p h))

pub with_bit : (w p : ℕ) → member (bit_or w (2 ^ p)) ≡ put p true (member w)
with_bit w p = changed w _ p 1 true refl
    (bit_at_or w (2 ^ p) p ∙ omega (arith, bit_at-pow_same p))
    (λ q h. bit_at_or w (2 ^ p) q ∙ omega (arith, bit_at-pow_other p q h))

-- as the code writes them at a width
pub inserted : (w : Width) (n p l : ℕ) → l ≡ p → l < bits w → member (bit_or n (1 * 2 ^ l % 2 ^ bits w)) ≡ put p true (member n)
inserted w n p l e h =
    changed n _ l 1 true refl (bit_at_set_same w n l h) (bit_at_set_other w n l h)
    ∙ ap (λ (k : ℕ). put k true (member n)) e

pub removed : (w : Width) (n p l : ℕ) → l ≡ p → l < bits w → n < 2 ^ bits w → member (bit_and n (bit_not w (1 * 2 ^ l % 2 ^ bits w))) ≡ put p false (member n)
removed w n p l e h b =
    changed n _ l 0 false refl (bit_at_clear_same w n l h) others
    ∙ ap (λ (k : ℕ). put k false (member n)) e
  where
    others : (q : ℕ) → (q ≡ l → ⊥) → bit_at (bit_and n (bit_not w (1 * 2 ^ l % 2 ^ bits w))) q ≡ bit_at n q
    others q ne = ⊎_elim (λ s. bit_at_clear_other w n l h q s ne) (λ s. bit_at_and n _ q ∙ omega (arith, bit_at_above n (bits w) q b s)) (cases_lt q (bits w))

pub no_member : member 0 ≡ (λ _. false)
unfolding member
no_member = λ i q. ap (λ (n : ℕ). eqb n 1) (bit_at-zero q) i

-- the lowest set bit

trailing : (w : Width) (n : ℕ) → n < 2 ^ bits w → Lowest (bits w) (member n) (trailing_zeros w n)
unfolding member
trailing w zero b = rw (trailing_of_zero (bits w)) (record { within = omega arith; below = λ p h. ap (λ (n : ℕ). eqb n 1) (bit_at-zero p); here = λ h. absurd (omega arith) })
trailing w (suc n) b =
    let t = bit_at-trailing_zeros w (suc n) (omega arith) b in
    record { within = omega (arith, t.0); below = λ p h. ap (λ (m : ℕ). eqb m 1) (t.2 p h); here = λ h. ap (λ (m : ℕ). eqb m 1) t.1 }

pub trailing_lowest : (w : Width) (n : ℕ) → n < 2 ^ bits w → trailing_zeros w n ≡ lowest (bits w) (member n)
trailing_lowest w n b = lowest_is (bits w) (member n) _ _ (trailing w n b) (lowest_of (bits w) (member n))
