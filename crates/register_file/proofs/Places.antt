-- Registers in their places: reading one, writing one, what stands past the last, and new ones.
use Rattle.std.proofs.Common.{◌≡◌, ℕ, zero, suc, ◌<◌, ◌≤◌, Bool, true, false, cond, eqb, List, [], ◌∷◌, map, length, ltb, position, Some, None, Option, MatchOption, get_or, take, set, replicate, sym, refl, ap, ◌∙◌, ⊎_elim, arith, length-take, get_or-set_other, get_or-set_same}
use lib.ListN.{get_or-replicate, length-replicate}
use Rattle.std.proofs.lemmas.List.{get_or-map, get_or_past, length-map, map-set, length-take-le, take-replicate}
use Rattle.std.proofs.lemmas.List.Quantifiers.{position-Some}
use Rattle.std.proofs.lemmas.List.Sums.{fails_before_first}
use Rattle.std.specs.List.{position_or_len}
use Rattle.std.proofs.lemmas.Bool.{eqb-true, eqb-false, cases_lt}
use Rattle.std.proofs.lemmas.Bool.Decides.{nat_tests}
use Rattle.interrupt.specs.Sets.{put}
use Rattle.list_register.specs.Entries.{Entry, nothing}
use Rattle.list_register.specs.Meaning.{Ends, InRange}
use Rattle.register_file.specs.Registers.{entries_of}

-- what is read at place k is what register k holds
pub at_place : {R : Type 0} (held : R → Entry) (registers : List R) (k : ℕ) (r : R) → r ≡ get_or registers k r → k < length registers → entries_of held registers k ≡ held r
at_place held registers k r e h = get_or-map held registers k r nothing h ∙ ap held (sym e)

take_set : {R : Type 0} (n k : ℕ) (rs : List R) (r : R) → take n (set rs k r) ≡ set (take n rs) k r
take_set zero k rs r = refl
take_set (suc n) k [] r = refl
take_set (suc n) zero (x ∷ rs) r = refl
take_set {R = R} (suc n) (suc k) (x ∷ rs) r = ap (λ (l : List R). x ∷ l) (take_set n k rs r)

-- register k becomes r
set_at : {R : Type 0} (held : R → Entry) (registers : List R) (k : ℕ) (r : R) → k < length registers → entries_of held (set registers k r) ≡ put k (held r) (entries_of held registers)
set_at held registers k r h = λ i j. each j (eqb j k) refl i
  where
    each : (j : ℕ) (t : Bool) → eqb j k ≡ t → entries_of held (set registers k r) j ≡ cond t (held r) (entries_of held registers j)
    each j true e =
        ap (entries_of held (set registers k r)) (eqb-true j k e)
        ∙ ap (λ (es : List Entry). get_or es k nothing) (map-set held registers k r)
        ∙ get_or-set_same (map held registers) k (held r) nothing (rw length-map h)
    each j false e =
        ap (λ (es : List Entry). get_or es j nothing) (map-set held registers k r)
        ∙ get_or-set_other (map held registers) k j (held r) nothing (eqb-false j k e)

-- and so do the first n
pub at_set : {R : Type 0} (held : R → Entry) (registers : List R) (n k : ℕ) (r : R) → k < n → n ≤ length registers →
    entries_of held (take n (set registers k r)) ≡ put k (held r) (entries_of held (take n registers))
at_set held registers n k r h l = ap (entries_of held) (take_set n k registers r) ∙ set_at held (take n registers) k r (let e = length-take-le n registers l in omega arith)

-- which holds e
pub at_put : {R : Type 0} (held : R → Entry) (registers : List R) (n k : ℕ) (r : R) (e : Entry) → k < n → n ≤ length registers → held r ≡ e →
    entries_of held (take n (set registers k r)) ≡ put k e (entries_of held (take n registers))
at_put held registers n k r e h l same = at_set held registers n k r h l ∙ ap (λ (d : Entry). put k d (entries_of held (take n registers))) same

-- past the first n there is nothing
pub at_past : {R : Type 0} (held : R → Entry) (registers : List R) (n : ℕ) → Ends n (entries_of held (take n registers))
at_past held registers n k h = get_or_past (map held (take n registers)) k nothing (rw length-map (rw length-take (omega arith)))

-- new registers
pub at_new : {R : Type 0} (held : R → Entry) (n m : ℕ) (r : R) → n ≤ m → held r ≡ nothing → entries_of held (take n (replicate m r)) ≡ (λ _. nothing)
at_new held n m r l e = ap (entries_of held) (take-replicate n m r l) ∙ (λ i k. each k i)
  where
    each : (k : ℕ) → entries_of held (replicate n r) k ≡ nothing
    each k = ⊎_elim
        (λ (h : k < n). get_or-map held (replicate n r) k r nothing (rw length-replicate h) ∙ ap held (get_or-replicate n k r r h) ∙ e)
        (λ (h : n ≤ k). get_or_past (map held (replicate n r)) k nothing (rw length-map (rw length-replicate h)))
        (cases_lt k n)

-- every field is in its range
pub at_ranges : {R : Type 0} (held : R → Entry) → ((r : R) → InRange (held r)) → (registers : List R) (k : ℕ) → InRange (entries_of held registers k)
at_ranges held each [] k = record { priority = omega arith; number = omega arith }
at_ranges held each (r ∷ registers) zero = each r
at_ranges held each (r ∷ registers) (suc k) = at_ranges held each registers k

-- the first of n places where p is true, if there is one
abbrev pub First : ℕ → (ℕ → Bool) → Option ℕ → Type 0
First n p o = MatchOption o ((k : ℕ) → k < n → p k ≡ false) (λ k. (k < n) × (p k ≡ true) × ((j : ℕ) → j < k → p j ≡ false))

pub first_at : {R : Type 0} (held : R → Entry) (p : Entry → Bool) (registers : List R) (o : Option ℕ) → o ≡ position (λ r. p (held r)) registers → First (length registers) (λ k. p (entries_of held registers k)) o
first_at held p [] None e = λ k h. absurd (omega arith)
first_at held p (r ∷ rs) None e = λ k h. read k h ∙ fails_before_first (λ d. p (held d)) (r ∷ rs) k r (past (ltb n (length (r ∷ rs))) refl k h)
  where
    n : ℕ
    n = position_or_len (λ d. p (held d)) (r ∷ rs)

    read : (k : ℕ) → k < length (r ∷ rs) → p (entries_of held (r ∷ rs) k) ≡ p (held (get_or (r ∷ rs) k r))
    read k h = ap p (get_or-map held (r ∷ rs) k r nothing h)

    past : (t : Bool) → ltb n (length (r ∷ rs)) ≡ t → (k : ℕ) → k < length (r ∷ rs) → k < n
    past false f k h = grind (arith, nat_tests)
    past true f k h = absurd (grind (arith, nat_tests, e, f))
first_at held p registers (Some k) e = go registers e
  where
    go : (rs : List _) → Some k ≡ position (λ r. p (held r)) rs → First (length rs) (λ j. p (entries_of held rs j)) (Some k)
    go [] f = absurd (grind (arith, nat_tests, f))
    go (r ∷ rs) f =
        let s = position-Some (λ d. p (held d)) (r ∷ rs) k r (sym f) in
        let read : (j : ℕ) → j < length (r ∷ rs) → p (entries_of held (r ∷ rs) j) ≡ p (held (get_or (r ∷ rs) j r)) = λ j h. ap p (get_or-map held (r ∷ rs) j r nothing h) in
        (s.0, read k s.0 ∙ s.1, λ j h. read j (omega (arith, s.0)) ∙ s.2 j h)
