-- What a mask device means.
use Rattle.std.specs.Prelude.{ℕ, ◌≤◌}
use Rattle.interrupt.specs.Meaning.{cpu_of}
use Rattle.list_register.specs.Meaning.{Meaning}
use Rattle.register_file.specs.There.{entries_in}
use Rattle.mask_device.specs.declared.device.MaskDevice.{MaskDevice}

abbrev pub mask_device : MaskDevice → Meaning
mask_device d = record { count = d.registers.count; live = d.settings.live; cpu = cpu_of d.settings.cpu; stray = d.settings.stray.count; at = entries_in d.registers }

-- the register that is preferred among equals: the higher one
abbrev pub Above : ℕ → ℕ → Type 0
Above k j = j ≤ k
