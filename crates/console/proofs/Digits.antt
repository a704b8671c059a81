-- Digits, read one at a time.
use Rattle.std.proofs.Common.{◌≡◌, ℕ, ◌+◌, ◌-◌, ◌*◌, ◌^◌, ◌<◌, ◌≤◌, Bool, true, false, cond, eqb, ltb, ◌⊎◌, List, [], ◌∷◌, length, get_or, take, drop, Some, None, sym, refl, ap, ◌∙◌, inl, inr, le-mul_of_pos_right, arith}
use Rattle.std.specs.Char.{digit_value}
use Rattle.std.proofs.lemmas.List.{take_rest, at_drop_more, at_drop_all}
use Rattle.std.proofs.lemmas.Bool.{cond-true, cond-false, lt-ltb, le-ltb, cases_lt}
use Rattle.console.specs.Numbers.{read_on, numeral, number}

-- a number that is too large stays so
too_large : (base n : ℕ) (cs : List ℕ) → 0 < base → 2 ^ 32 ≤ n → read_on base n cs ≡ None
too_large base n [] b h = cond-false (ltb n (2 ^ 32)) (Some n) None (le-ltb n (2 ^ 32) h)
too_large base n (c ∷ cs) b h = go (ltb (digit_value c) base) (too_large base (n * base + digit_value c) cs b (omega (arith, le-mul_of_pos_right n b)))
  where
    go : (t : Bool) → read_on base (n * base + digit_value c) cs ≡ None → cond t (read_on base (n * base + digit_value c) cs) None ≡ None
    go true e = e
    go false e = refl

module _ (base : ℕ) (digits : List ℕ) where
  -- n is what the first i digits write
  pub record Read (i n : ℕ) : Type 0 where
    pub small : n < 2 ^ 32
    pub left : read_on base n (drop i digits) ≡ read_on base 0 digits

  pub read_none : Read 0 0
  read_none = record { small = omega arith; left = refl }

  -- the number with digit i
  abbrev with : ℕ → ℕ → ℕ
  with i n = n * base + digit_value (get_or digits i 0)

  at_digit : (i n : ℕ) → Read i n → i < length digits → digit_value (get_or digits i 0) < base → read_on base (with i n) (drop (i + 1) digits) ≡ read_on base 0 digits
  at_digit i n r h d =
      sym (cond-true (ltb (digit_value (get_or digits i 0)) base) (read_on base (with i n) (drop (i + 1) digits)) None (lt-ltb (digit_value (get_or digits i 0)) base d))
      ∙ sym (at_drop_more (read_on base n) digits i 0 h)
      ∙ r.left

  at_other : (i n : ℕ) → Read i n → i < length digits → base ≤ digit_value (get_or digits i 0) → None ≡ read_on base 0 digits
  at_other i n r h d =
      sym (cond-false (ltb (digit_value (get_or digits i 0)) base) (read_on base (with i n) (drop (i + 1) digits)) None (le-ltb (digit_value (get_or digits i 0)) base d))
      ∙ sym (at_drop_more (read_on base n) digits i 0 h)
      ∙ r.left

  pub read_more : (i n m : ℕ) → Read i n → i < length digits → ((digit_value (get_or digits i 0) < base) × (with i n < 2 ^ 32)) × (m ≡ with i n) → Read (i + 1) m
  read_more i n m r h e = record { small = omega arith; left = ap (λ (k : ℕ). read_on base k (drop (i + 1) digits)) e.1 ∙ at_digit i n r h e.0.0 }

  pub read_stop : (i n : ℕ) → 0 < base → Read i n → i < length digits → ((digit_value (get_or digits i 0) < base) × (with i n < 2 ^ 32) → ⊥) → None ≡ read_on base 0 digits
  read_stop i n b r h never = go (cases_lt (digit_value (get_or digits i 0)) base) (cases_lt (with i n) (2 ^ 32))
    where
      go : (digit_value (get_or digits i 0) < base) ⊎ (base ≤ digit_value (get_or digits i 0)) → (with i n < 2 ^ 32) ⊎ (2 ^ 32 ≤ with i n) → None ≡ read_on base 0 digits
      go (inl d) (inl s) = absurd (never (d, s))
      go (inl d) (inr s) = sym (too_large base (with i n) (drop (i + 1) digits) b s) ∙ at_digit i n r h d
      go (inr d) s = at_other i n r h d

  pub read_all : (i n : ℕ) → Read i n → length digits ≤ i → Some n ≡ read_on base 0 digits
  read_all i n r h = sym (cond-true (ltb n (2 ^ 32)) (Some n) None (lt-ltb n (2 ^ 32) r.small)) ∙ sym (at_drop_all (read_on base n) digits i h) ∙ r.left

  -- there is a digit
  pub of_some : false ≡ eqb (length digits) 0 → read_on base 0 digits ≡ numeral base digits
  of_some e = sym (cond-false (eqb (length digits) 0) None (read_on base 0 digits) (sym e))

-- a hexadecimal number
pub after_prefix : (word : List ℕ) → 2 ≤ length word → get_or word 0 0 ≡ 48 → get_or word 1 0 ≡ 120 → number word ≡ numeral 16 (take (length word - 2) (drop 2 word))
after_prefix [] l x y = absurd (omega arith)
after_prefix (a ∷ []) l x y = absurd (omega arith)
after_prefix (a ∷ b ∷ cs) l x y = rw (take_rest, x, y)

-- what a loop over digits and its ends come to
pub ruleset reading = (read_none, read_more, read_stop, read_all, of_some)
