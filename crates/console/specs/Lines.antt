-- Lines of input.
use Rattle.std.specs.Prelude.{ℕ, ◌-◌, cond, List, length, take, ◌==◌, slice_index}

-- the last byte of a line, or 0 if there is none
abbrev pub last_byte : List ℕ → ℕ
last_byte line = slice_index line (length line - 1)

-- a line without the byte 10 that ends it, if it has one
abbrev pub without_end : List ℕ → List ℕ
without_end line = cond (last_byte line == 10) (take (length line - 1) line) line
