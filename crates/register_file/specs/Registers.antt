-- Registers, in whatever form.
use Rattle.std.specs.Prelude.{◌≡◌, ℕ, ◌<◌, Bool, true, false, ◌&&◌, List, map, Some, None, Option, ◌==◌, slice_index_or}
use Rattle.list_register.specs.Entries.{Entry, nothing, is_pending, holds, twins}

-- what each of these registers holds, and nothing past the last
abbrev pub entries_of : {R : Type 0} → (R → Entry) → List R → ℕ → Entry
entries_of held registers k = slice_index_or (map held registers) k nothing

-- the valid register with number w among the first n, if there is one
abbrev pub Finds : ℕ → (ℕ → Entry) → ℕ → Option ℕ → Type 0
Finds n at w None = (k : ℕ) → k < n → holds w (at k) ≡ false
Finds n at w (Some k) = (k < n) × (holds w (at k) ≡ true)

-- no register but k is valid and has the number of e, where that is valid too
abbrev pub Alone : ℕ → Entry → (ℕ → Entry) → Type 0
Alone k e at = (j : ℕ) → twins e (at j) ≡ true → j ≡ k

-- an entry is pending at priority p
abbrev pub pending_entry : Entry → ℕ → Bool
pending_entry e p = is_pending e.state && e.priority == p

-- register k is pending at priority p
abbrev pub pending_at : (ℕ → Entry) → ℕ → ℕ → Bool
pending_at at p k = pending_entry (at k) p
