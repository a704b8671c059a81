-- What a list-register device means.
use Rattle.std.specs.Prelude.{◌≡◌, ℕ, ◌<◌, ◌≤◌, Bool, true, false}
use Rattle.interrupt.specs.Cpu.{Cpu, closed}
use Rattle.interrupt.specs.Sets.{put}
use Rattle.list_register.specs.Entries.{Entry, nothing, twins}

-- how many registers there are, whether it is live, its CPU interface (open, mask, EOI mode, active priorities),
-- how often a deactivation found no register, and the entry of each register
pub record Meaning : Type 0 where
  pub count : ℕ
  pub live : Bool
  pub cpu : Cpu
  pub stray : ℕ
  pub at : ℕ → Entry

-- a new device of n registers: everything but their number is zero
abbrev pub blank : ℕ → Meaning
blank n = record { count = n; live = false; cpu = closed; stray = 0; at = λ _. nothing }

-- one thing at a time

abbrev pub with_live : Bool → Meaning → Meaning
with_live v m = record { count = m.count; live = v; cpu = m.cpu; stray = m.stray; at = m.at }

abbrev pub with_cpu : Cpu → Meaning → Meaning
with_cpu v m = record { count = m.count; live = m.live; cpu = v; stray = m.stray; at = m.at }

abbrev pub with_stray : ℕ → Meaning → Meaning
with_stray v m = record { count = m.count; live = m.live; cpu = m.cpu; stray = v; at = m.at }

abbrev pub with_entries : (ℕ → Entry) → Meaning → Meaning
with_entries v m = record { count = m.count; live = m.live; cpu = m.cpu; stray = m.stray; at = v }

-- register k holds e
abbrev pub with_entry : ℕ → Entry → Meaning → Meaning
with_entry k e m = with_entries (put k e m.at) m

-- no two valid registers of one number
abbrev pub Apart : (ℕ → Entry) → Type 0
Apart at = (j k : ℕ) → twins (at j) (at k) ≡ true → j ≡ k

-- past the last register there is nothing
abbrev pub Ends : ℕ → (ℕ → Entry) → Type 0
Ends n at = (k : ℕ) → n ≤ k → at k ≡ nothing

-- every field is in its range
pub record InRange (e : Entry) : Type 0 where
  pub priority : e.priority < 32
  pub number : e.number < 1020

-- a well-formed meaning
pub record Formed (m : Meaning) : Type 0 where
  pub some : 1 ≤ m.count
  pub most : m.count ≤ 64
  pub mask : m.cpu.mask < 32
  pub active : (p : ℕ) → 32 ≤ p → m.cpu.active p ≡ false
  pub stray : m.stray < 32
  pub ranges : (k : ℕ) → InRange (m.at k)
  pub ends : Ends m.count m.at
  pub apart : Apart m.at
