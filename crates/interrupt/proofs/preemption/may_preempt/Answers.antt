use Rattle.interrupt.specs.Preemption.{may_preempt}
use Rattle.interrupt.proofs.preemption.may_preempt.Goals as goal

pub returns : goal.returns
unfolding may_preempt
returns c = c.is_below_both.ensures
