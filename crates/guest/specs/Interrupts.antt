-- One interrupt, and what it is to be pending, waiting or at rest.
use Rattle.std.specs.Prelude.{ℕ, Bool, true, false, not, ◌&&◌}
use Rattle.interrupt.specs.declared.kind.Kind.{Kind}
use Rattle.interrupt.specs.declared.kind.Kind.TheVariants.{Edge, Level}

-- the line is a level source's, the latch an edge source's; an interrupt is dropped between its end and its deactivation
pub record Interrupt : Type 0 where
  pub kind : Kind
  pub priority : ℕ
  pub enabled : Bool
  pub line : Bool
  pub latch : Bool
  pub active : Bool
  pub dropped : Bool

abbrev pub by_kind : {A : Type 0} → Kind → A → A → A
by_kind Edge edge level = edge
by_kind Level edge level = level

-- pending: the latch of an edge source, or the line of a level source, is set
abbrev pub pending : Interrupt → Bool
pending i = by_kind i.kind i.latch i.line

-- it waits if it is enabled, pending and not active
abbrev pub waits : Interrupt → Bool
waits i = i.enabled && pending i && not i.active

-- it is at rest if it is not enabled, pending or active
abbrev pub at_rest : Interrupt → Bool
at_rest i = not i.enabled && not (pending i) && not i.active

-- at the start: an edge source of priority 0 with all flags clear
abbrev pub blank : Interrupt
blank = record { kind = Edge; priority = 0; enabled = false; line = false; latch = false; active = false; dropped = false }

-- each field by itself

abbrev pub with_setup : Kind → ℕ → Interrupt → Interrupt
with_setup k p i = record { kind = k; priority = p; enabled = i.enabled; line = i.line; latch = i.latch; active = i.active; dropped = i.dropped }

abbrev pub with_enabled : Bool → Interrupt → Interrupt
with_enabled v i = record { kind = i.kind; priority = i.priority; enabled = v; line = i.line; latch = i.latch; active = i.active; dropped = i.dropped }

abbrev pub with_line : Bool → Interrupt → Interrupt
with_line v i = record { kind = i.kind; priority = i.priority; enabled = i.enabled; line = v; latch = i.latch; active = i.active; dropped = i.dropped }

abbrev pub with_latch : Bool → Interrupt → Interrupt
with_latch v i = record { kind = i.kind; priority = i.priority; enabled = i.enabled; line = i.line; latch = v; active = i.active; dropped = i.dropped }

abbrev pub with_active : Bool → Interrupt → Interrupt
with_active v i = record { kind = i.kind; priority = i.priority; enabled = i.enabled; line = i.line; latch = i.latch; active = v; dropped = i.dropped }

abbrev pub with_dropped : Bool → Interrupt → Interrupt
with_dropped v i = record { kind = i.kind; priority = i.priority; enabled = i.enabled; line = i.line; latch = i.latch; active = i.active; dropped = v }

-- what the calls do to it

-- raise sets the latch of an edge source, the line of a level source
abbrev pub raised : Interrupt → Interrupt
raised i = by_kind i.kind (with_latch true i) (with_line true i)

-- acknowledge clears the latch and makes it active
abbrev pub taken : Interrupt → Interrupt
taken i = with_active true (with_latch false i)

-- deactivate clears active and dropped
abbrev pub deactivated : Interrupt → Interrupt
deactivated i = with_active false (with_dropped false i)
