use Rattle.waiting.proofs.Waiting.{take_out_kept}
use Rattle.waiting.proofs.order.WaitingOrder.take_out.Goals as goal

pub invariant_of-self : goal.invariant_of-self
invariant_of-self c =
    let k = take_out_kept c.args.self.now c.args.id c.place.result c.leave.new.self c.leave-2.new.self c.place.ensures.value c.leave.ensures c.leave-2.ensures in
    record { single = k.0; parted = k.1; noted = k.2; sized = k.3 }
