-- Sets of registers, one for each priority.
use Rattle.std.specs.Prelude.{ℕ, Bool, List, slice_index_or}
use Rattle.interrupt.specs.Sets.{member}
use Rattle.mask_device.specs.declared.register_set.RegisterSet.{RegisterSet}

-- the registers in a set
abbrev pub registers_in : RegisterSet → ℕ → Bool
registers_in s = member s.word

-- the set without a register
abbrev pub no_registers : RegisterSet
no_registers = record { word = 0 }

-- register k is in the set of priority p
abbrev pub in_set : List RegisterSet → ℕ → ℕ → Bool
in_set sets p k = registers_in (slice_index_or sets p no_registers) k
