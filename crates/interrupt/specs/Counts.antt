-- How many numbers are in a set.
use Rattle.std.specs.Prelude.{ℕ, zero, suc, ◌+◌, Bool, cond}

abbrev pub one_if : Bool → ℕ
one_if t = cond t 1 0

-- how many numbers below k are in the set
unfoldable pub count : ℕ → (ℕ → Bool) → ℕ
count zero s = 0
count (suc k) s = count k s + one_if (s k)
