-- What the code's types mean.
use Rattle.std.specs.Prelude.{ℕ, Bool, Option, unwrap_or}
use Rattle.std.specs.Option.{option_map}
use Rattle.interrupt.specs.declared.cpu_interface.CpuInterface.{CpuInterface}
use Rattle.interrupt.specs.declared.id.InterruptId.{InterruptId}
use Rattle.interrupt.specs.declared.priority.Priority.{Priority}
use Rattle.interrupt.specs.declared.priority_set.PrioritySet.{PrioritySet}
use Rattle.interrupt.specs.Cpu.{Cpu}
use Rattle.interrupt.specs.Sets.{member}

-- the number by which an interrupt is known
abbrev pub id_of : InterruptId → ℕ
id_of i = i.number

-- the number of a priority
abbrev pub level_of : Priority → ℕ
level_of p = p.level

-- the number of a priority, and n where there is none
abbrev pub level_or : Option Priority → ℕ → ℕ
level_or p n = unwrap_or (option_map level_of p) n

-- the priorities in a set
abbrev pub members : PrioritySet → ℕ → Bool
members s = member s.word

abbrev pub cpu_of : CpuInterface → Cpu
cpu_of c = record { opened = c.open; mask = c.mask.level; mode = c.mode; active = members c.active }
