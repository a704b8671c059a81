-- The entries of registers that are kept together.
use Rattle.std.proofs.Common.{ℕ, take}
use Rattle.list_register.specs.Meaning.{Ends, InRange}
use Rattle.std.specs.declared.convert.From.{Ghosts as Makes}
use Rattle.list_register.specs.declared.entry.Entry.{Entry as TypedEntry}
use Rattle.register_file.specs.declared.search.ListRegister.{Ghosts}
use Rattle.register_file.specs.declared.registers.Registers.{Registers}
use Rattle.register_file.specs.There.{entries_in}
use Rattle.register_file.proofs.Places.{at_past, at_ranges}

-- past the last there is nothing
pub ends : {R : Type 0} {kept : Ghosts R} {from : Makes R TypedEntry} (r : Registers R kept from) → Ends r.count (entries_in r)
ends {kept = kept} r = at_past kept.held r.room r.count

-- every field is in its range
pub in_range : {R : Type 0} {kept : Ghosts R} {from : Makes R TypedEntry} (r : Registers R kept from) → ((x : R) → InRange (kept.held x)) → (k : ℕ) → InRange (entries_in r k)
in_range {kept = kept} r each = at_ranges kept.held each (take r.count r.room)
