-- What the rings mean.
use Rattle.std.specs.Prelude.{ℕ, List}
use Rattle.waiting.specs.Links.{next_of, ring}
use Rattle.waiting.specs.declared.rings.Rings.{Rings}

-- the numbers in the ring of priority p, first to last
abbrev pub ring_list : Rings → ℕ → List ℕ
ring_list r p = ring (next_of r.links) p
