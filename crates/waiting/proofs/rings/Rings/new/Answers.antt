use Rattle.waiting.proofs.Steps.{found, sound, none}
use Rattle.waiting.proofs.rings.Rings.new.Goals as goal

pub invariant_of-result : goal.invariant_of-result
invariant_of-result c =
    let s = sound c.new.result _ (none c.new.result c.new.ensures.next c.new.ensures.prev) in
    record { linked = s.0; once = s.1; named = s.2 }

pub returns : goal.returns
returns c = λ p h. found _ _ p _ (none c.new.result c.new.ensures.next c.new.ensures.prev p h)
