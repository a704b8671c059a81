use Rattle.waiting.proofs.Waiting.{append_kept}
use Rattle.waiting.proofs.order.WaitingOrder.append.Goals as goal

pub invariant_of-self : goal.invariant_of-self
invariant_of-self c =
    let k = append_kept c.args.self.now c.args.id c.args.priority c.place.result c.join.new.self c.join-2.new.self c.place.ensures.value c.requires c.join.ensures c.join-2.ensures in
    record { single = k.0; parted = k.1; noted = k.2; sized = k.3 }
