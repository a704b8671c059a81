-- A mask, as the code makes it, keeps the low bits.
use Rattle.std.proofs.Common.{◌≡◌, ℕ, ◌-◌, ◌*◌, ◌%◌, ◌^◌, ◌<◌, ap, ◌∙◌}
use lib.Bits.{bit_and}
use Rattle.std.proofs.lemmas.Nat.{and_mask, one_shl}

-- a mask of k bits
pub masked : (w k : ℕ) → k < 32 → bit_and w (1 * 2 ^ k % 2 ^ 32 - 1) ≡ w % 2 ^ k
masked w k h = ap (λ (n : ℕ). bit_and w (n - 1)) (one_shl k 32 h) ∙ and_mask w k
