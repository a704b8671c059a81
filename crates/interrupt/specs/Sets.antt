-- Sets of numbers, as functions from a number to whether it is in the set, and as words.
use Rattle.std.specs.Int.{bit_at}
use Rattle.std.specs.Prelude.{ℕ, zero, suc, ◌+◌, ◌^◌, Bool, false, cond, ◌||◌, ◌==◌}

-- the set that a word stands for: p is in it where bit p is set
unfoldable pub member : ℕ → ℕ → Bool
member w p = bit_at w p == 1

-- the word of a set: bit p, for each p below k, is set where p is in the set
unfoldable pub word_of : ℕ → (ℕ → Bool) → ℕ
word_of zero s = 0
word_of (suc k) s = word_of k s + cond (s k) (2 ^ k) 0

-- f, but for n, where it is a
abbrev pub put : {A : Type 0} → ℕ → A → (ℕ → A) → ℕ → A
put n a f m = cond (m == n) a (f m)

-- some number below k is in the set
unfoldable pub some : ℕ → (ℕ → Bool) → Bool
some zero s = false
some (suc k) s = some k s || s k

-- the lowest number below k that is in the set, or else k
unfoldable pub lowest : ℕ → (ℕ → Bool) → ℕ
lowest zero s = 0
lowest (suc k) s = cond (some k s) (lowest k s) (cond (s k) k (suc k))
