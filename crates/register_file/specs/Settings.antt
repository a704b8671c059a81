-- What settings mean.
use Rattle.std.specs.Prelude.{◌≡◌}
use Rattle.interrupt.specs.Meaning.{cpu_of}
use Rattle.list_register.specs.Meaning.{Meaning}
use Rattle.register_file.specs.declared.settings.Settings.{Settings}

-- a device's settings are these
pub record Shows (s : Settings) (m : Meaning) : Type 0 where
  pub live : s.live ≡ m.live
  pub cpu : cpu_of s.cpu ≡ m.cpu
  pub stray : s.stray.count ≡ m.stray

-- the device with these settings
abbrev pub with_settings : Settings → Meaning → Meaning
with_settings s m = record { count = m.count; live = s.live; cpu = cpu_of s.cpu; stray = s.stray.count; at = m.at }
