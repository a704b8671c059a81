-- The highest register of a set.
use Rattle.std.specs.Prelude.{◌≡◌, ℕ, ◌<◌, Bool, true, false, Option, MatchOption}

-- none where the set has none, and otherwise a member with none above it
abbrev pub Highest : (ℕ → Bool) → Option ℕ → Type 0
Highest s r = MatchOption r ((k : ℕ) → s k ≡ false) (λ k. (k < 64) × (s k ≡ true) × ((q : ℕ) → k < q → s q ≡ false))
