-- What a register device means.
use Rattle.std.specs.Prelude.{ℕ, ◌≤◌}
use Rattle.interrupt.specs.Meaning.{members}
use Rattle.list_register.specs.Meaning.{Meaning}
use Rattle.register_file.specs.There.{entries_in}
use Rattle.layout.specs.Layouts.{control_live, control_stray, machine_mask, machine_mode, machine_open}
use Rattle.register_device.specs.declared.device.RegisterDevice.{RegisterDevice}

abbrev pub register_device : RegisterDevice → Meaning
register_device d = record {
  count = d.list.count;
  live = control_live d.control.word;
  cpu = record { opened = machine_open d.machine.word; mask = machine_mask d.machine.word; mode = machine_mode d.machine.word; active = members d.active };
  stray = control_stray d.control.word;
  at = entries_in d.list;
}

-- the register that is preferred among equals: the lower one
abbrev pub Below : ℕ → ℕ → Type 0
Below k j = k ≤ j
