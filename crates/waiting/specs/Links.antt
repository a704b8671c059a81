-- Rings of links: the place after each place, next, and the place before it, prev.
use Rattle.std.specs.Prelude.{◌≡◌, ℕ, zero, suc, ◌<◌, Bool, true, cond, not, ◌&&◌, List, [], ◌∷◌, ◌==◌, slice_index_or}
use Rattle.std.proofs.Common.{lit<}
use Rattle.interrupt.specs.Lists.{has}
use Rattle.waiting.specs.Places.{interrupts, end_of}
use Rattle.waiting.specs.declared.links.Link.{Link}
use Rattle.waiting.specs.declared.links.Links.{Links}

-- what stands past the last place
abbrev pub no_link : Link
no_link = record { next = record { number = 0; within = lit< tt }; prev = record { number = 0; within = lit< tt } }

-- what comes after place i, and what before it
unfoldable pub next_of : Links → ℕ → ℕ
next_of l i = (slice_index_or l.links i no_link).next.number

unfoldable pub prev_of : Links → ℕ → ℕ
prev_of l i = (slice_index_or l.links i no_link).prev.number

-- what comes after a, up to the place `end`, and at most k of it
unfoldable pub walk : (ℕ → ℕ) → ℕ → ℕ → ℕ → List ℕ
walk next end zero a = []
walk next end (suc k) a = cond (next a == end) [] (next a ∷ walk next end k (next a))

-- who is in ring p, in order
abbrev pub ring : (ℕ → ℕ) → ℕ → List ℕ
ring next p = walk next (end_of p) interrupts (end_of p)

-- from a, along xs, to b, and back
abbrev pub chained : (ℕ → ℕ) → (ℕ → ℕ) → ℕ → List ℕ → ℕ → Bool
chained next prev a [] b = next a == b && prev b == a
chained next prev a (x ∷ xs) b = next a == x && prev x == a && chained next prev x xs b

-- none twice
abbrev pub apart : List ℕ → Bool
apart [] = true
apart (x ∷ xs) = not (has x xs) && apart xs

-- each ring is linked both ways
abbrev pub Linked : Links → Type 0
Linked l = (p : ℕ) → p < 32 → chained (next_of l) (prev_of l) (end_of p) (ring (next_of l) p) (end_of p) ≡ true

-- none is in a ring twice
abbrev pub Once : Links → Type 0
Once l = (p : ℕ) → p < 32 → apart (ring (next_of l) p) ≡ true

-- whoever is in a ring is an interrupt
abbrev pub Named : Links → Type 0
Named l = (p : ℕ) → p < 32 → (x : ℕ) → has x (ring (next_of l) p) ≡ true → x < interrupts
