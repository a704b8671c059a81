-- What a CPU interface means.
use Rattle.std.specs.Prelude.{ℕ, Bool, false, cond, ◌&&◌, Some, None, Option, nat_lt}
use Rattle.interrupt.specs.declared.cpu_interface.EoiMode.{EoiMode}
use Rattle.interrupt.specs.declared.cpu_interface.EoiMode.TheVariants.{Joined, Split}
use Rattle.interrupt.specs.Preemption.{may_preempt}
use Rattle.interrupt.specs.Sets.{lowest, put}

-- open or closed, a mask of 0 to 31, joined or split, and the set of active priorities
pub record Cpu : Type 0 where
  pub opened : Bool
  pub mask : ℕ
  pub mode : EoiMode
  pub active : ℕ → Bool

-- at the start: closed, mask 0, joined, no active priority
abbrev pub closed : Cpu
closed = record { opened = false; mask = 0; mode = Joined; active = λ _. false }

-- the lowest active priority, or 32 if there is none
abbrev pub running_priority : Cpu → ℕ
running_priority c = lowest 32 c.active

-- open, and this priority is below both mask and running priority
abbrev pub admits : Cpu → ℕ → Bool
admits c p = c.opened && may_preempt p c.mask (running_priority c)

-- the lowest of these priorities, if there is one and it is admitted
abbrev pub first_admitted : Cpu → (ℕ → Bool) → Option ℕ
first_admitted c s = cond (nat_lt (lowest 32 s) 32 && admits c (lowest 32 s)) (Some (lowest 32 s)) None

-- the mode of a bit that is set where an end and its deactivation are split
abbrev pub mode_of_bit : Bool → EoiMode
mode_of_bit split = cond split Split Joined

abbrev pub by_mode : {A : Type 0} → EoiMode → A → A → A
by_mode Joined joined split = joined
by_mode Split joined split = split

abbrev pub with_opened : Bool → Cpu → Cpu
with_opened v c = record { opened = v; mask = c.mask; mode = c.mode; active = c.active }

abbrev pub with_mask : ℕ → Cpu → Cpu
with_mask v c = record { opened = c.opened; mask = v; mode = c.mode; active = c.active }

abbrev pub with_mode : EoiMode → Cpu → Cpu
with_mode v c = record { opened = c.opened; mask = c.mask; mode = v; active = c.active }

-- priority p becomes active, or no longer is
abbrev pub with_active : ℕ → Bool → Cpu → Cpu
with_active p v c = record { opened = c.opened; mask = c.mask; mode = c.mode; active = put p v c.active }

-- just these priorities become active
abbrev pub with_active_set : (ℕ → Bool) → Cpu → Cpu
with_active_set v c = record { opened = c.opened; mask = c.mask; mode = c.mode; active = v }
