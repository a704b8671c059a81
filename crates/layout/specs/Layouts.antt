-- The layouts of the words of a list-register device: what each word is, which fields it has, and when it is in its layout.
-- A word is in its layout if its fields, packed again, give the word, so that no other bit is set.
use Rattle.std.specs.Prelude.{◌≡◌, ℕ, ◌+◌, ◌-◌, ◌*◌, ◌^◌, Bool, cond, not, ◌&&◌, ◌==◌}
use Rattle.interrupt.specs.Counts.{one_if}
use Rattle.interrupt.specs.declared.cpu_interface.EoiMode.{EoiMode}
use Rattle.interrupt.specs.declared.cpu_interface.EoiMode.TheVariants.{Joined, Split}
use Rattle.interrupt.specs.Cpu.{by_mode}
use Rattle.list_register.specs.declared.entry.RawEntry.{RawEntry}
use Rattle.list_register.specs.Entries.{Entry, state_number, out_of_range, asked}
use Rattle.layout.specs.Fields.{bits, is_set}

-- GICH_HCR: bit 0 live, bits 31:27 the stray count

abbrev pub control_word : Bool → ℕ → ℕ
control_word live stray = stray * 2 ^ 27 + one_if live

abbrev pub control_live : ℕ → Bool
control_live w = is_set 0 w

abbrev pub control_stray : ℕ → ℕ
control_stray w = bits 31 27 w

abbrev pub control_layout : ℕ → Bool
control_layout w = control_word (control_live w) (control_stray w) == w

-- a word with just these fields
pub record PacksControl (l : Bool) (s : ℕ) (w : ℕ) : Type 0 where
  pub value : w ≡ control_word l s
  pub live : control_live w ≡ l
  pub stray : control_stray w ≡ s

-- GICH_VTR: 0x90000000 and the number of registers less one

abbrev pub type_word : ℕ → ℕ
type_word n = 0x90000000 + (n - 1)

-- GICH_VMCR: bits 31:27 the mask, 23:21 hold 2, 20:18 hold 3, bit 9 split, bit 0 open

abbrev pub machine_word : ℕ → EoiMode → Bool → ℕ
machine_word mask mode opened = mask * 2 ^ 27 + 2 * 2 ^ 21 + 3 * 2 ^ 18 + by_mode mode 0 1 * 2 ^ 9 + one_if opened

abbrev pub machine_mask : ℕ → ℕ
machine_mask w = bits 31 27 w

abbrev pub machine_mode : ℕ → EoiMode
machine_mode w = cond (is_set 9 w) Split Joined

abbrev pub machine_open : ℕ → Bool
machine_open w = is_set 0 w

abbrev pub machine_layout : ℕ → Bool
machine_layout w = machine_word (machine_mask w) (machine_mode w) (machine_open w) == w

-- a word with just these fields
pub record PacksMachine (p : ℕ) (m : EoiMode) (o : Bool) (w : ℕ) : Type 0 where
  pub value : w ≡ machine_word p m o
  pub mask : machine_mask w ≡ p
  pub mode : machine_mode w ≡ m
  pub opened : machine_open w ≡ o

-- GICH_LR: bits 29:28 the state, 27:23 the priority, 9:0 the number, which is at most 1019

abbrev pub entry_word : Entry → ℕ
entry_word e = state_number e.state * 2 ^ 28 + e.priority * 2 ^ 23 + e.number

abbrev pub fields_in : ℕ → RawEntry
fields_in w = record { state = bits 29 28 w; priority = bits 27 23 w; number = bits 9 0 w }

abbrev pub entry_in : ℕ → Entry
entry_in w = asked (fields_in w)

abbrev pub entry_layout : ℕ → Bool
entry_layout w = not (out_of_range (fields_in w)) && entry_word (entry_in w) == w

-- the word of an entry, from which the entry comes back
pub record PacksEntry (e : Entry) (w : ℕ) : Type 0 where
  pub value : w ≡ entry_word e
  pub back : entry_in w ≡ e
