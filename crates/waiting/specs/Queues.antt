-- What the queues mean.
use Rattle.std.specs.Prelude.{ℕ, List}
use Rattle.waiting.specs.Rings.{ring_list}
use Rattle.waiting.specs.declared.queues.Queues.{Queues}

-- the numbers in the queue of priority p, first to last
abbrev pub queue : Queues → ℕ → List ℕ
queue q p = ring_list q.rings p
