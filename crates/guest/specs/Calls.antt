-- What each call does, answers and refuses.
use Rattle.std.specs.Prelude.{◌≡◌, ℕ, Bool, true, false, not, ◌&&◌, List, [], ◌∷◌, Some, None, Option, ◌==◌, nat_lt}
use Rattle.refusal.specs.declared.Refusal.{Refusal}
use Rattle.refusal.specs.declared.Refusal.TheVariants.{UnknownInterrupt, Parked, Running, NotAtRest, PriorityRange, WrongKind, UnknownWord, NotRunningPriority, NotDropped, InterruptActive}
use Rattle.refusal.specs.Rows.{Row, ◌when◌, first_row, unless, say}
use Rattle.interrupt.specs.declared.kind.Kind.{Kind}
use Rattle.interrupt.specs.declared.cpu_interface.EoiMode.{EoiMode}
use Rattle.interrupt.specs.Cpu.{running_priority, by_mode, with_opened, with_mask, with_mode, with_active as with_active_priority}
use Rattle.interrupt.specs.Sets.{some}
use Rattle.guest.specs.declared.call.Call.{Call}
use Rattle.guest.specs.declared.call.Call.TheVariants.{Configure, Enable, Disable, Raise, Lower, Mask, Open, Mode, Acknowledge, End, Deactivate, Park, Resume}
use Rattle.guest.specs.Interrupts.{Interrupt, by_kind, pending, at_rest, with_setup, with_enabled, with_line, with_active, with_dropped, raised, taken, deactivated}
use Rattle.guest.specs.Book.{Book, touch, with_running, with_cpu, priority_of, first_in_turn}
use Rattle.guest.specs.Replies.{Reply, done, changed, acknowledged, Said}

-- what a granted call does

-- an acknowledge that takes n, if any: n becomes active, and so does its priority
abbrev pub take_up : Option ℕ → Book → Book
take_up None b = b
take_up (Some n) b = with_cpu (with_active_priority (priority_of b n) true b.cpu) (touch n (taken (b.at n)) b)

-- if joined, an end clears active; if split, it sets dropped
abbrev pub ended : EoiMode → Interrupt → Interrupt
ended m i = by_mode m (with_active false i) (with_dropped true i)

abbrev pub effect : Call → Book → Book
effect (Configure n k p) b = touch n (with_setup k p (b.at n)) b
effect (Enable n) b = touch n (with_enabled true (b.at n)) b
effect (Disable n) b = touch n (with_enabled false (b.at n)) b
effect (Raise n) b = touch n (raised (b.at n)) b
effect (Lower n) b = touch n (with_line false (b.at n)) b
effect (Mask m) b = with_cpu (with_mask m b.cpu) b
effect (Open v) b = with_cpu (with_opened v b.cpu) b
effect (Mode m) b = with_cpu (with_mode m b.cpu) b
effect Acknowledge b = take_up (first_in_turn b) b
effect (End n) b = with_cpu (with_active_priority (running_priority b.cpu) false b.cpu) (touch n (ended b.cpu.mode (b.at n)) b)
effect (Deactivate n) b = touch n (deactivated (b.at n)) b
effect Park b = with_running false b
effect Resume b = with_running true b

-- what a granted call answers

abbrev pub answer : Call → Book → Reply
answer (Configure n k p) b = done
answer (Enable n) b = changed (not (b.at n).enabled)
answer (Disable n) b = changed (b.at n).enabled
answer (Raise n) b = changed (not (pending (b.at n)))
answer (Lower n) b = changed (b.at n).line
answer (Mask m) b = done
answer (Open v) b = done
answer (Mode m) b = done
answer Acknowledge b = acknowledged (first_in_turn b)
answer (End n) b = done
answer (Deactivate n) b = done
answer Park b = done
answer Resume b = done

-- when a call is declined: for each call its rows, in the order in which they are judged

-- a number above 1019
abbrev pub unnamed : ℕ → Bool
unnamed n = nat_lt 1019 n

-- a priority or a mask above 31
abbrev pub out_of_range : ℕ → Bool
out_of_range p = nat_lt 31 p

abbrev pub is_level : Kind → Bool
is_level k = by_kind k false true

-- numbers 0 to 15 are edge sources
abbrev pub edge_only : ℕ → Bool
edge_only n = nat_lt n 16

abbrev pub parked : Book → Bool
parked b = not b.running

-- n is the active, undropped interrupt of the running priority
abbrev pub may_end : Book → ℕ → Bool
may_end b n = (b.at n).active && not (b.at n).dropped && priority_of b n == running_priority b.cpu

-- the guest is split, and n is active and dropped
abbrev pub may_deactivate : Book → ℕ → Bool
may_deactivate b n = by_mode b.cpu.mode false true && (b.at n).active && (b.at n).dropped

-- some interrupt is active
abbrev pub any_active : Book → Bool
any_active b = some 1020 (λ n. (b.at n).active)

abbrev pub rows : Call → Book → List Row
rows (Configure n k p) b =
    (UnknownInterrupt when unnamed n) ∷ (PriorityRange when out_of_range p) ∷ (WrongKind when (is_level k && edge_only n)) ∷ (NotAtRest when not (at_rest (b.at n))) ∷ []
rows (Enable n) b = (UnknownInterrupt when unnamed n) ∷ []
rows (Disable n) b = (UnknownInterrupt when unnamed n) ∷ []
rows (Raise n) b = (UnknownInterrupt when unnamed n) ∷ []
rows (Lower n) b = (UnknownInterrupt when unnamed n) ∷ (WrongKind when not (is_level (b.at n).kind)) ∷ []
rows (Mask m) b = (Parked when parked b) ∷ (PriorityRange when out_of_range m) ∷ []
rows (Open v) b = (Parked when parked b) ∷ []
rows (Mode m) b = (Parked when parked b) ∷ (InterruptActive when any_active b) ∷ []
rows Acknowledge b = (Parked when parked b) ∷ []
rows (End n) b = (Parked when parked b) ∷ (UnknownWord when unnamed n) ∷ (NotRunningPriority when not (may_end b n)) ∷ []
rows (Deactivate n) b = (Parked when parked b) ∷ (UnknownWord when unnamed n) ∷ (NotDropped when not (may_deactivate b n)) ∷ []
rows Park b = (Parked when parked b) ∷ []
rows Resume b = (Running when b.running) ∷ []

-- why a call is declined, if it is
abbrev pub refusal_of : Call → Book → Option Refusal
refusal_of c b = first_row (rows c b)

-- a call: what the guest means after it, and what it says

-- a declined call changes nothing
abbrev pub next : Call → Book → Book
next c b = unless (refusal_of c b) b (effect c b)

abbrev pub says : Call → Book → Said
says c b = say (refusal_of c b) (answer c b)

-- a call that found a guest meaning b, left it meaning after, and said r
abbrev pub Does : Call → Book → Book → Said → Type 0
Does c b after r = (after ≡ next c b) × (r ≡ says c b)
