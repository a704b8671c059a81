-- The records of a section, one after another, each with its place.
use Rattle.std.specs.Prelude.{ℕ, zero, suc, ◌+◌, ◌-◌, List, [], ◌++◌, Option}
use Rattle.std.specs.Option.{option_map, option_to_list}
use Rattle.trace.specs.declared.section.Section.{Section}
use Rattle.trace.specs.declared.placed.Placed.{Placed}
use Rattle.records.specs.declared.record.Setup.{Setup}
use Rattle.records.specs.Bytes.{record_at, held_by}
use Rattle.records.specs.Records.{setup_of}
use Rattle.trace.specs.Opening.{place}

-- what record k of a section holds, if its bytes hold something, and where it lies
abbrev pub placed_at : {A : Type 0} → (List ℕ → Option A) → List ℕ → Section → ℕ → Option (Placed A)
placed_at held file s k = option_map (λ v. record { place = place s k; value = v }) (held (record_at file (place s k)))

-- the setups of a section, each with its place
abbrev pub placed_in : List ℕ → Section → List (Placed Setup)
placed_in file s = held_by s.count (placed_at setup_of file s)

-- what the m places from k on hold
unfoldable pub held_next : {A : Type 0} → ℕ → ℕ → (ℕ → Option A) → List A
held_next zero k f = []
held_next (suc m) k f = option_to_list (f k) ++ held_next m (k + 1) f

-- what the records of a section from record k on hold
abbrev pub left : {A : Type 0} → (List ℕ → Option A) → List ℕ → Section → ℕ → List (Placed A)
left held file s k = held_next (s.count - k) k (placed_at held file s)
