-- The table of interrupts, and what it means.
use Rattle.std.specs.Prelude.{ℕ, Bool, false, List, slice_index_or}
use Rattle.std.proofs.Common.{lit<}
use Rattle.interrupt.specs.declared.kind.Kind.TheVariants.{Edge}
use Rattle.guest.specs.Interrupts.{Interrupt}
use Rattle.plain.specs.declared.source.Source.{Source}
use Rattle.plain.specs.declared.source.State.TheVariants.{Idle}
use Rattle.plain.specs.declared.table.Table.{Table}
use Rattle.plain.specs.Sources.{means}

-- what stands past the table's end
abbrev pub no_source : Source
no_source = record { kind = Edge; priority = record { level = 0; known = lit< tt }; enabled = false; dropped = false; state = Idle }

-- the interrupt in each place
abbrev pub in_place : List Source → ℕ → Interrupt
in_place sources n = means (slice_index_or sources n no_source)

-- the interrupt of each number
unfoldable pub at_of : Table → ℕ → Interrupt
at_of t = in_place t.sources

-- the interrupts that are active
abbrev pub actives : Table → ℕ → Bool
actives t n = (at_of t n).active
