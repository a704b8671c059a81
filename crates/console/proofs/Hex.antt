-- Eight hexadecimal digits: what a format writes of a word, padded with zeros.
use Rattle.std.proofs.Common.{◌≡◌, ℕ, zero, suc, ◌+◌, ◌-◌, ◌/◌, ◌%◌, ◌^◌, ◌<◌, ◌≤◌, Bool, true, false, cond, eqb, List, [], ◌∷◌, ◌++◌, length, sym, refl, ap, ◌∙◌, append_assoc, append-nil, arith}
use Rattle.std.proofs.Math.ListN.{replicate}
use Rattle.std.proofs.Math.Nat.{div-div-eq-div-mul, pow-succ'}
use Rattle.std.proofs.lemmas.Bool.{eqb-true, eqb-false}
use Rattle.std.specs.Fmt.{digits, digits_onto, before_digits, padded_integral, char_count, format_spec}
use Rattle.console.specs.Answers.{hex_digit, hex_digits}

-- the last digit stands apart
hex_last : (k n : ℕ) → hex_digits (suc k) n ≡ hex_digits k (n / 16) ++ (hex_digit (n % 16) ∷ [])
hex_last zero n = ap (λ (m : ℕ). hex_digit (m % 16) ∷ []) (omega arith)
hex_last (suc k) n =
    let e : n / 16 ^ suc k ≡ n / 16 / 16 ^ k = ap (λ (w : ℕ). n / w) (pow-succ' 16 k) ∙ sym (div-div-eq-div-mul n 16 (16 ^ k)) in
    (λ i. hex_digit (e i % 16) ∷ hex_last k n i)

hex_zeros : (k : ℕ) → hex_digits k 0 ≡ replicate k 48
hex_zeros zero = refl
hex_zeros (suc k) =
    let e : 0 / 16 ^ k ≡ 0 = omega arith in
    (λ i. hex_digit (e i % 16) ∷ hex_zeros k i)

-- more than one digit
several : (k n : ℕ) → n < 16 ^ suc k → (n / 16 ≡ 0 → ⊥) → 0 < k
several zero n small more = absurd (more (omega arith))
several (suc k) n small more = omega arith

-- the digits of n before acc, with zeros in front where there are fewer than k of them
record Filled (k n : ℕ) (acc text : List ℕ) : Type 0 where
  pub most : length text ≤ k + length acc
  pub same : replicate (k + length acc - length text) 48 ++ text ≡ hex_digits k n ++ acc

filled : (k j n : ℕ) (acc : List ℕ) → n < 16 ^ k → k ≤ j → 0 < k → Filled k n acc (digits_onto j 16 true n acc)
filled zero j n acc small le some = absurd (omega arith)
filled (suc k) zero n acc small le some = absurd (omega arith)
filled (suc k) (suc j) n acc small le some =
    let h = pow-succ' 16 k in
    go (eqb (n / 16) 0) refl (filled k j (n / 16) (hex_digit (n % 16) ∷ acc) (omega arith) (omega arith))
  where
    next : List ℕ
    next = hex_digit (n % 16) ∷ acc

    more : List ℕ
    more = digits_onto j 16 true (n / 16) next

    last : hex_digits (suc k) n ++ acc ≡ hex_digits k (n / 16) ++ next
    last = ap (λ (xs : List ℕ). xs ++ acc) (hex_last k n) ∙ append_assoc (hex_digits k (n / 16)) (hex_digit (n % 16) ∷ []) acc

    go : (t : Bool) → eqb (n / 16) 0 ≡ t → (0 < k → Filled k (n / 16) next more) → Filled (suc k) n acc (cond t next more)
    go true e f =
        let z : n / 16 ≡ 0 = eqb-true (n / 16) 0 e in
        let many : suc k + length acc - length next ≡ k = omega arith in
        record {
          most = omega arith;
          same = ap (λ (m : ℕ). replicate m 48 ++ next) many ∙ ap (λ (xs : List ℕ). xs ++ next) (sym (hex_zeros k)) ∙ ap (λ (m : ℕ). hex_digits k m ++ next) (sym z) ∙ sym last;
        }
    go false e f =
        let g = f (several k n small (eqb-false (n / 16) 0 e)) in
        let many : suc k + length acc - length more ≡ k + length next - length more = omega arith in
        record {
          most = omega (arith, g.most);
          same = ap (λ (m : ℕ). replicate m 48 ++ more) many ∙ g.same ∙ sym last;
        }

zeros : (len : ℕ) → before_digits (format_spec 32 0 4 8 (2 ^ 64 - 1)) false [] len ≡ replicate (8 - len) 48
unfolding char_count
zeros len = ap (λ (m : ℕ). replicate m 48) {x = 8 - len - 0 - 0} {y = 8 - len} (omega arith)

-- what `{:08X}` writes of a word
pub word_digits : (n : ℕ) → n < 2 ^ 32 → padded_integral (format_spec 32 0 4 8 (2 ^ 64 - 1)) false [] (digits 16 true n) ≡ hex_digits 8 n
unfolding padded_integral digits
word_digits n small =
    let ds : List ℕ = digits_onto 64 16 true n [] in
    let f = filled 8 64 n [] (omega arith) (omega arith) (omega arith) in
    ap (λ (xs : List ℕ). before_digits (format_spec 32 0 4 8 (2 ^ 64 - 1)) false [] (length ds) ++ xs) (append-nil ds) ∙ ap (λ (xs : List ℕ). xs ++ ds) (zeros (length ds)) ∙ f.same ∙ append-nil (hex_digits 8 n)
