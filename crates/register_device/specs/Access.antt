-- Reading and writing a word by its offset.
use Rattle.std.specs.Prelude.{ℕ, ◌+◌, Bool, true, false, not, ◌&&◌, List, [], ◌∷◌, Some, None, Ok, Err, Option, Result, nat_lt}
use Rattle.refusal.specs.declared.Refusal.{Refusal}
use Rattle.refusal.specs.declared.Refusal.TheVariants.{UnknownRegister, ReadOnly, BadLayout, DuplicateNumber}
use Rattle.refusal.specs.Rows.{Row, ◌when◌, first_row, unless, say}
use Rattle.interrupt.specs.Cpu.{with_active_set}
use Rattle.interrupt.specs.Sets.{member, word_of}
use Rattle.list_register.specs.Entries.{is_valid}
use Rattle.list_register.specs.Meaning.{Meaning, with_live, with_cpu, with_stray, with_entry}
use Rattle.list_register.specs.Calls.{clashes}
use Rattle.layout.specs.declared.register.Register.{Register}
use Rattle.layout.specs.declared.register.Register.TheVariants.{Hcr, Vtr, Vmcr, Elrsr0, Elrsr1, Apr, Lr}
use Rattle.layout.specs.Layouts.{control_word, control_live, control_stray, control_layout, type_word, machine_word, machine_mask, machine_mode, machine_open, machine_layout, entry_word, entry_in, entry_layout}
use Rattle.layout.specs.Offsets.{register_at}

-- register k is there, and empty
abbrev pub free : Meaning → ℕ → Bool
free m k = nat_lt k m.count && not (is_valid (m.at k).state)

-- the word of each register
abbrev pub word_in : Meaning → Register → ℕ
word_in m Hcr = control_word m.live m.stray
word_in m Vtr = type_word m.count
word_in m Vmcr = machine_word m.cpu.mask m.cpu.mode m.cpu.opened
word_in m Elrsr0 = word_of 32 (free m)
word_in m Elrsr1 = word_of 32 (λ k. free m (32 + k))
word_in m Apr = word_of 32 m.cpu.active
word_in m (Lr k) = entry_word (m.at k)

abbrev pub read_at : Option Register → Meaning → Result ℕ Refusal
read_at None m = Err UnknownRegister
read_at (Some r) m = Ok (word_in m r)

-- reading the word at an offset
abbrev pub word_read : ℕ → Meaning → Result ℕ Refusal
word_read offset m = read_at (register_at m.count offset) m

abbrev pub read_only : Register → Bool
read_only Hcr = false
read_only Vtr = true
read_only Vmcr = false
read_only Elrsr0 = true
read_only Elrsr1 = true
read_only Apr = false
read_only (Lr k) = false

abbrev pub in_layout : Register → ℕ → Bool
in_layout Hcr w = control_layout w
in_layout Vtr w = true
in_layout Vmcr w = machine_layout w
in_layout Elrsr0 w = true
in_layout Elrsr1 w = true
in_layout Apr w = true
in_layout (Lr k) w = entry_layout w

-- a list register's word that would make two valid registers of one number
abbrev pub duplicates : Register → ℕ → Meaning → Bool
duplicates Hcr w m = false
duplicates Vtr w m = false
duplicates Vmcr w m = false
duplicates Elrsr0 w m = false
duplicates Elrsr1 w m = false
duplicates Apr w m = false
duplicates (Lr k) w m = clashes k (entry_in w) m

-- a granted write sets every field of the register
abbrev pub with_word : Register → ℕ → Meaning → Meaning
with_word Hcr w m = with_live (control_live w) (with_stray (control_stray w) m)
with_word Vtr w m = m
with_word Vmcr w m = with_cpu (record { opened = machine_open w; mask = machine_mask w; mode = machine_mode w; active = m.cpu.active }) m
with_word Elrsr0 w m = m
with_word Elrsr1 w m = m
with_word Apr w m = with_cpu (with_active_set (member w) m.cpu) m
with_word (Lr k) w m = with_entry k (entry_in w) m

-- when a write is declined, in the order in which it is judged
abbrev pub word_rows : Option Register → ℕ → Meaning → List Row
word_rows None w m = (UnknownRegister when true) ∷ []
word_rows (Some r) w m = (ReadOnly when read_only r) ∷ (BadLayout when not (in_layout r w)) ∷ (DuplicateNumber when duplicates r w m) ∷ []

abbrev pub written_at : Option Register → ℕ → Meaning → Meaning
written_at None w m = m
written_at (Some r) w m = with_word r w m

-- writing word w at an offset: what the device means after it, and what is said
abbrev pub word_written : ℕ → ℕ → Meaning → Meaning
word_written offset w m = unless (first_row (word_rows (register_at m.count offset) w m)) m (written_at (register_at m.count offset) w m)

abbrev pub word_said : ℕ → ℕ → Meaning → Result (Unit {0}) Refusal
word_said offset w m = say (first_row (word_rows (register_at m.count offset) w m)) tt
