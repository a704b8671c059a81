-- Lists of interrupts, the earliest first.
use Rattle.std.specs.Prelude.{ℕ, Bool, true, false, cond, ◌||◌, List, [], ◌∷◌, Some, None, Option, ◌==◌}

-- n is in the list
abbrev pub has : ℕ → List ℕ → Bool
has n [] = false
has n (x ∷ xs) = x == n || has n xs

-- the list with n taken out
abbrev pub without : ℕ → List ℕ → List ℕ
without n [] = []
without n (x ∷ xs) = cond (x == n) (without n xs) (x ∷ without n xs)

-- those that pass, in their order
abbrev pub those : (ℕ → Bool) → List ℕ → List ℕ
those fit [] = []
those fit (x ∷ xs) = cond (fit x) (x ∷ those fit xs) (those fit xs)

-- the earliest
abbrev pub first : List ℕ → Option ℕ
first [] = None
first (x ∷ xs) = Some x

-- not empty
abbrev pub filled : List ℕ → Bool
filled [] = false
filled (x ∷ xs) = true
