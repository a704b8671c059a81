-- What the plain guest keeps between its calls.
use Rattle.std.specs.Prelude.{◌≡◌, ℕ, true, List}
use Rattle.interrupt.specs.Lists.{has}
use Rattle.waiting.specs.declared.order.WaitingOrder.{WaitingOrder}
use Rattle.waiting.specs.Order.{waiting_list, waits_at}
use Rattle.guest.specs.Interrupts.{Interrupt, waits}
use Rattle.plain.specs.declared.table.Table.{Table}
use Rattle.interrupt.specs.Counts.{count}
use Rattle.plain.specs.Table.{at_of, actives}

-- each that is in the list waits
abbrev pub AllWait : (ℕ → Interrupt) → List ℕ → Type 0
AllWait at list = (n : ℕ) → has n list ≡ true → waits (at n) ≡ true

-- each that is in the list is there at its own priority
abbrev pub AtOwnPriority : (ℕ → Interrupt) → List ℕ → (ℕ → ℕ) → Type 0
AtOwnPriority at list priority = (n : ℕ) → has n list ≡ true → priority n ≡ (at n).priority

abbrev pub Listed : Table → WaitingOrder → Type 0
Listed t w = AllWait (at_of t) (waiting_list w)

abbrev pub Ranked : Table → WaitingOrder → Type 0
Ranked t w = AtOwnPriority (at_of t) (waiting_list w) (waits_at w)

-- so many interrupts are active
abbrev pub Counted : Table → ℕ → Type 0
Counted t active = active ≡ count 1020 (actives t)
