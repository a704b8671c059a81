-- What the pending sets mean.
use Rattle.std.specs.Prelude.{◌≡◌, ℕ, Bool, cond, ◌&&◌, ◌==◌}
use Rattle.mask_device.specs.declared.pending.PendingSets.{PendingSets}
use Rattle.mask_device.specs.Sets.{in_set}

-- register k is pending at priority p
abbrev pub pending_in : PendingSets → ℕ → ℕ → Bool
pending_in s = in_set s.sets

-- at priority p register k becomes v, and nothing else changes
abbrev pub Replaced : ℕ → ℕ → Bool → (ℕ → ℕ → Bool) → (ℕ → ℕ → Bool) → Type 0
Replaced p k v before after = (q j : ℕ) → after q j ≡ cond (q == p && j == k) v (before q j)
