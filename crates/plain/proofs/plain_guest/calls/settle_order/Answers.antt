use Rattle.interrupt.specs.Meaning.{id_of}
use Rattle.waiting.specs.Order.{waiting_list, waits_at}
use Rattle.plain.proofs.Kept.{left_ranks}
use Rattle.plain.proofs.plain_guest.calls.settle_order.Goals as goal

pub returns-else-waits-clause-ranks : goal.returns-else-waits-clause-ranks
returns-else-waits-clause-ranks c =
    left_ranks (waiting_list c.args.waiting.now) (waiting_list c.leave.new.self) (waits_at c.args.waiting.now) (waits_at c.leave.new.self) (id_of c.args.id) _ c.leave.ensures.list c.leave.ensures.ranks
