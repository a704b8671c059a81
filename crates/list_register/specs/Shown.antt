-- What the code's types mean.
use Rattle.std.specs.Prelude.{Ok, Err, Result}
use Rattle.refusal.specs.declared.Refusal.{Refusal}
use Rattle.interrupt.specs.Meaning.{id_of}
use Rattle.list_register.specs.declared.entry.Entry.{Entry as TypedEntry}
use Rattle.list_register.specs.Entries.{Entry}
use Rattle.list_register.specs.Meaning.{Meaning}

abbrev pub entry_of : TypedEntry → Entry
entry_of e = record { state = e.state; priority = e.priority.level; number = id_of e.id }

-- an entry that was read, or a refusal
abbrev pub entry_read : Result TypedEntry Refusal → Result Entry Refusal
entry_read (Ok e) = Ok (entry_of e)
entry_read (Err r) = Err r

-- what a device that was made means, or a refusal
abbrev pub device_made : {D : Type 0} → (D → Meaning) → Result D Refusal → Result Meaning Refusal
device_made means (Ok d) = Ok (means d)
device_made means (Err r) = Err r
