-- Bytes of a file, and little-endian numbers in it.
use Rattle.std.specs.Prelude.{ℕ, zero, suc, ◌+◌, ◌*◌, List, [], ◌++◌, take, drop, Option, slice_index}
use Rattle.std.specs.Option.{option_to_list}

abbrev pub byte : List ℕ → ℕ → ℕ
byte file i = slice_index file i

abbrev pub le16 : List ℕ → ℕ → ℕ
le16 file i = byte file i + 256 * byte file (i + 1)

abbrev pub le32 : List ℕ → ℕ → ℕ
le32 file i = byte file i + 256 * byte file (i + 1) + 65536 * byte file (i + 2) + 16777216 * byte file (i + 3)

-- the record at an offset: the 8 bytes there
abbrev pub record_at : List ℕ → ℕ → List ℕ
record_at file offset = take 8 (drop offset file)

-- what n places hold, in their order, leaving out those that hold nothing
unfoldable pub held_by : {A : Type 0} → ℕ → (ℕ → Option A) → List A
held_by zero f = []
held_by (suc n) f = held_by n f ++ option_to_list (f n)
