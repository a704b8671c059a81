-- The list register at an offset.
use Rattle.std.proofs.Common.{◌≡◌, ℕ, ◌<◌, ◌≤◌, Bool, true, false, eqb, ltb, Some, None, refl, ap, ◌∙◌, arith}
use Rattle.std.specs.Bool.{then_some}
use Rattle.std.proofs.lemmas.Bool.Decides.{nat_tests}
use Rattle.interrupt.proofs.Lowest.{lowest_of, lowest_is}
use Rattle.layout.specs.declared.register.Register.TheVariants.{Lr}
use Rattle.layout.specs.Offsets.{offset_of, numbered, list_at}

list_there : (n o k : ℕ) → o ≡ offset_of (Lr k) → k < n → list_at n o ≡ Some (Lr k)
list_there n o k e h =
    let s : ℕ → Bool = λ j. eqb o (offset_of (Lr j)) in
    let low = lowest_is n s _ _ (lowest_of n s) (record { within = omega arith; below = λ j l. other j l; here = λ _. own }) in
    ap (numbered n) low ∙ (let t : ltb k n ≡ true = grind (arith, nat_tests) in rw t refl)
  where
    other : (j : ℕ) → j < k → eqb o (offset_of (Lr j)) ≡ false
    other j l = grind (arith, nat_tests)

    own : eqb o (offset_of (Lr k)) ≡ true
    own = grind (arith, nat_tests)

pub list_none : (n o : ℕ) → ((k : ℕ) → k < n → o ≡ offset_of (Lr k) → ⊥) → list_at n o ≡ None
list_none n o h =
    let s : ℕ → Bool = λ j. eqb o (offset_of (Lr j)) in
    let low = lowest_is n s _ _ (lowest_of n s) (record { within = omega arith; below = λ j l. other j (h j l); here = λ l. absurd (omega arith) }) in
    ap (numbered n) low ∙ (let t : ltb n n ≡ false = grind (arith, nat_tests) in rw t refl)
  where
    other : (j : ℕ) → (o ≡ offset_of (Lr j) → ⊥) → eqb o (offset_of (Lr j)) ≡ false
    other j ne = grind (arith, nat_tests)

pub list_numbered : (n o k : ℕ) → o ≡ offset_of (Lr k) → list_at n o ≡ then_some (ltb k n) (Lr k)
list_numbered n o k e = by_test (ltb k n) refl
  where
    by_test : (t : Bool) → ltb k n ≡ t → list_at n o ≡ then_some t (Lr k)
    by_test true h = list_there n o k e (grind (arith, nat_tests))
    by_test false h = list_none n o (λ j l f. let le : n ≤ k = grind (arith, nat_tests) in omega arith)
