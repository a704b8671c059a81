-- What registers mean.
use Rattle.std.specs.Prelude.{ℕ, take}
use Rattle.list_register.specs.Entries.{Entry}
use Rattle.std.specs.declared.convert.From.{Ghosts as Makes}
use Rattle.list_register.specs.declared.entry.Entry.{Entry as TypedEntry}
use Rattle.register_file.specs.declared.search.ListRegister.{Ghosts}
use Rattle.register_file.specs.declared.registers.Registers.{Registers}
use Rattle.register_file.specs.Registers.{entries_of}

-- what each of the registers that there are holds
abbrev pub entries_in : {R : Type 0} {kept : Ghosts R} {from : Makes R TypedEntry} → Registers R kept from → ℕ → Entry
entries_in {kept = kept} r = entries_of kept.held (take r.count r.room)
