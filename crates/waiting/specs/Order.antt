-- What the waiting order means: a list of those that wait, and the priority at which each of them waits.
use Rattle.std.specs.Prelude.{ℕ, cond, List, [], ◌∷◌, ◌++◌, nat_eq}
use Rattle.interrupt.specs.Lists.{has, those}
use Rattle.waiting.specs.Levels.{level_at}
use Rattle.waiting.specs.Rings.{ring_list}
use Rattle.waiting.specs.declared.order.WaitingOrder.{WaitingOrder}

-- the numbers that wait, earliest first
unfoldable pub waiting_list : WaitingOrder → List ℕ
waiting_list w = ring_list w.arrivals 0

-- the priority at which m waits, where it does
unfoldable pub waits_at : WaitingOrder → ℕ → ℕ
waits_at w m = level_at w.priorities m

-- the list once n has joined at its end; one that is there already stays where it is
abbrev pub joined : ℕ → List ℕ → List ℕ
joined n xs = cond (has n xs) xs (xs ++ n ∷ [])

-- those of priority p, in their order
abbrev pub of_priority : (ℕ → ℕ) → ℕ → List ℕ → List ℕ
of_priority rank p xs = those (λ m. nat_eq (rank m) p) xs
