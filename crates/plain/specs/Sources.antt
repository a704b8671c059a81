-- What an interrupt of the table means.
use Rattle.std.specs.Prelude.{Bool, true, false}
use Rattle.guest.specs.Interrupts.{Interrupt, by_kind}
use Rattle.plain.specs.declared.source.Source.{Source}
use Rattle.plain.specs.declared.source.State.{State}
use Rattle.plain.specs.declared.source.State.TheVariants.{Idle, Pending, Active, Both}

abbrev pub is_pending : State → Bool
is_pending Idle = false
is_pending Pending = true
is_pending Active = false
is_pending Both = true

abbrev pub is_active : State → Bool
is_active Idle = false
is_active Pending = false
is_active Active = true
is_active Both = true

-- pending is an edge source's latch, or a level source's line
abbrev pub means : Source → Interrupt
means s = record {
  kind = s.kind;
  priority = s.priority.level;
  enabled = s.enabled;
  line = by_kind s.kind false (is_pending s.state);
  latch = by_kind s.kind (is_pending s.state) false;
  active = is_active s.state;
  dropped = s.dropped;
}
