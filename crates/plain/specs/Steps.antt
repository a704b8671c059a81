-- Steps: what a function over one interrupt of the table does to what it means.
use Rattle.std.specs.Prelude.{◌≡◌, true}
use Rattle.std.specs.Borrow.{MutBor}
use Rattle.std.specs.Fn.{Once, FnOnceTakesAtMut, FnOnceReturnsAtMut}
use Rattle.guest.specs.Interrupts.{Interrupt, waits}
use Rattle.plain.specs.declared.source.Source.{Source}
use Rattle.plain.specs.Sources.{means}

module _ {F R : Type 0} (g : Once F (MutBor Source × Unit {0}) (R × (MutBor Source × Unit {0}))) (step : F) where
  -- the step may be taken at the interrupt i
  abbrev pub MayTake : Interrupt → Type 0
  MayTake i = (s : Source) → means s ≡ i → FnOnceTakesAtMut g step s

  -- at i it may answer r, and leave j
  abbrev pub Takes : Interrupt → R → Interrupt → Type 0
  Takes i r j = (s : Source) × (t : Source) × (means s ≡ i) × FnOnceReturnsAtMut g step s r t × (means t ≡ j)

  -- it leaves the priority of i, if i waits
  abbrev pub KeepsPriority : Interrupt → Type 0
  KeepsPriority i = (r : R) (j : Interrupt) → waits i ≡ true → Takes i r j → j.priority ≡ i.priority
