-- The places of the rings.
use Rattle.std.specs.Prelude.{ℕ, ◌+◌}

-- how many interrupts there are; the place of each is its number
abbrev pub interrupts : ℕ
interrupts = 1020

-- how many places there are: after the interrupts' come the ends of the 32 rings
abbrev pub places : ℕ
places = interrupts + 32

-- the end of ring p, which stands before its first and after its last
abbrev pub end_of : ℕ → ℕ
end_of p = interrupts + p
