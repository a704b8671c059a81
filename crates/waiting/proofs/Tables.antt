-- A table, read by a function of what stands in each place.
use Rattle.std.proofs.Common.{◌≡◌, ℕ, ◌<◌, Bool, true, false, cond, eqb, List, length, get_or, set, sym, refl, ap, ◌∙◌, get_or-set_other, get_or-set_same}
use Rattle.std.proofs.lemmas.Bool.{eqb-true, eqb-false}
use Rattle.std.proofs.lemmas.List.{get_or_default}
use Rattle.interrupt.specs.Sets.{put}

-- what f says of each place, and of d past the end
abbrev pub column : {A B : Type 0} → (A → B) → List A → A → ℕ → B
column f xs d m = f (get_or xs m d)

-- what the code reads at place k of n
pub read_at : {A B : Type 0} → (f : A → B) (xs : List A) (n k : ℕ) (d e : A) → k ≡ n → k < length xs → f (get_or xs k d) ≡ f (get_or xs n e)
read_at f xs n k d e h l = ap f (get_or_default xs k d e l ∙ ap (λ (i : ℕ). get_or xs i e) h)

-- where it writes x at place k of n, place n changes, and no other
pub read_set : {A B : Type 0} → (f : A → B) (xs : List A) (n k : ℕ) (x d : A) → k ≡ n → k < length xs → column f (set xs k x) d ≡ put n (f x) (column f xs d)
read_set f xs n k x d h l = λ j m. each m (eqb m n) refl j
  where
    each : (m : ℕ) (t : Bool) → eqb m n ≡ t → f (get_or (set xs k x) m d) ≡ cond t (f x) (f (get_or xs m d))
    each m true e = ap f (ap (λ (i : ℕ). get_or (set xs k x) i d) (eqb-true m n e ∙ sym h) ∙ get_or-set_same xs k x d l)
    each m false e = ap f (get_or-set_other xs k m x d (λ c. eqb-false m n e (c ∙ h)))

-- and none changes where f cannot tell the new from the old
pub read_kept : {A B : Type 0} → (f : A → B) (xs : List A) (k : ℕ) (x d e : A) → k < length xs → f x ≡ f (get_or xs k e) → column f (set xs k x) d ≡ column f xs d
read_kept f xs k x d e l same = read_set f xs k k x d refl l ∙ own
  where
    each : (m : ℕ) (t : Bool) → eqb m k ≡ t → cond t (f x) (f (get_or xs m d)) ≡ f (get_or xs m d)
    each m true g = same ∙ read_at f xs m k e d (sym (eqb-true m k g)) l
    each m false g = refl

    own : put k (f x) (column f xs d) ≡ column f xs d
    own = λ j m. each m (eqb m k) refl j
