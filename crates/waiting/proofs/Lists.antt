-- Lists of numbers: one pushed at the end, one taken out, and those that pass.
use Rattle.std.proofs.Common.{◌≡◌, ℕ, Bool, true, false, cond, ◌&&◌, ◌||◌, eqb, List, [], ◌∷◌, ◌++◌, refl, ◌∙◌, arith}
use Rattle.std.proofs.lemmas.Bool.Decides.{nat_tests}
use Rattle.interrupt.specs.Lists.{has, without, those}
use Rattle.waiting.specs.Order.{of_priority}

pub has_push : (m : ℕ) (xs : List ℕ) (n : ℕ) → has m (xs ++ n ∷ []) ≡ (has m xs || eqb n m)
has_push m [] n = grind (arith, nat_tests)
has_push m (x ∷ xs) n = let ih = has_push m xs n in grind (arith, nat_tests)

pub has_without : (m n : ℕ) (xs : List ℕ) → has m (without n xs) ≡ cond (eqb m n) false (has m xs)
has_without m n [] = grind (arith, nat_tests)
has_without m n (x ∷ xs) = let ih = has_without m n xs in grind (arith, nat_tests)

-- where n is not there, nothing is taken out
pub without_none : (n : ℕ) (xs : List ℕ) → has n xs ≡ false → without n xs ≡ xs
without_none n [] h = refl
without_none n (x ∷ xs) h = let ih = without_none n xs in grind (arith, nat_tests)

-- those that pass a test

pub has_those : (f : ℕ → Bool) (n : ℕ) (xs : List ℕ) → has n (those f xs) ≡ (f n && has n xs)
has_those f n [] = grind (arith, nat_tests)
has_those f n (x ∷ xs) = let ih = has_those f n xs in grind (arith, nat_tests)

those_push : (f : ℕ → Bool) (xs : List ℕ) (n : ℕ) → those f (xs ++ n ∷ []) ≡ cond (f n) (those f xs ++ n ∷ []) (those f xs)
those_push f [] n = refl
those_push f (x ∷ xs) n = let ih = those_push f xs n in grind (arith, nat_tests)

those_without : (f : ℕ → Bool) (n : ℕ) (xs : List ℕ) → those f (without n xs) ≡ without n (those f xs)
those_without f n [] = refl
those_without f n (x ∷ xs) = let ih = those_without f n xs in grind (arith, nat_tests)

-- two tests that agree on the list pass the same
pub those_same : (f g : ℕ → Bool) (xs : List ℕ) → ((m : ℕ) → has m xs ≡ true → f m ≡ g m) → those f xs ≡ those g xs
those_same f g [] h = refl
those_same f g (x ∷ xs) h =
    let ih = those_same f g xs (λ m e. h m (grind (arith, nat_tests))) in
    let k = h x (grind (arith, nat_tests)) in grind (arith, nat_tests)

-- those of priority p, once n has come at priority r, or has gone

pub of_priority_push : (rank rank' : ℕ → ℕ) (p : ℕ) (xs : List ℕ) (n r : ℕ) → has n xs ≡ false → ((m : ℕ) → rank' m ≡ cond (eqb m n) r (rank m)) → of_priority rank' p (xs ++ n ∷ []) ≡ cond (eqb p r) (of_priority rank p xs ++ n ∷ []) (of_priority rank p xs)
of_priority_push rank rank' p xs n r h c =
    let a = those_push (λ m. eqb (rank' m) p) xs n in
    let b = those_same (λ m. eqb (rank' m) p) (λ m. eqb (rank m) p) xs (λ m e. let d = c m in grind (arith, nat_tests)) in
    let d = c n in grind (arith, nat_tests)

pub of_priority_without : (rank rank' : ℕ → ℕ) (p : ℕ) (xs : List ℕ) (n : ℕ) → ((m : ℕ) → eqb m n ≡ false → rank' m ≡ rank m) → of_priority rank' p (without n xs) ≡ without n (of_priority rank p xs)
of_priority_without rank rank' p xs n c =
    those_same (λ m. eqb (rank' m) p) (λ m. eqb (rank m) p) (without n xs) (λ m e. let d = c m in let f = has_without m n xs in grind (arith, nat_tests))
    ∙ those_without (λ m. eqb (rank m) p) n xs
