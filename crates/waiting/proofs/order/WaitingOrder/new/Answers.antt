use Rattle.waiting.proofs.Waiting.{none_kept}
use Rattle.waiting.proofs.order.WaitingOrder.new.Goals as goal

pub invariant_of-result : goal.invariant_of-result
invariant_of-result c =
    let k = none_kept c.new.result c.new-2.result c.new.ensures c.new-2.ensures in
    record { single = k.0; parted = k.1; noted = k.2; sized = k.3 }
