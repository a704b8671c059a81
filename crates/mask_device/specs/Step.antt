-- The pending sets are in step with the entries.
use Rattle.std.specs.Prelude.{◌≡◌, ℕ, ◌<◌, Bool}
use Rattle.list_register.specs.Entries.{Entry}
use Rattle.register_file.specs.Registers.{pending_entry}

-- just the registers whose entries are pending at a priority are in its set
abbrev pub InStep : (ℕ → Entry) → (ℕ → ℕ → Bool) → Type 0
InStep at sets = (p k : ℕ) → k < 64 → sets p k ≡ pending_entry (at k) p
