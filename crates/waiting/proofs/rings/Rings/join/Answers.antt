use Rattle.std.proofs.Common.{[], ◌∷◌, ◌++◌, cond, eqb}
use Rattle.waiting.specs.Rings.{ring_list}
use Rattle.waiting.proofs.Steps.{Each, found, sound, joined_rings}
use Rattle.waiting.proofs.rings.Rings.join.Goals as goal
use Rattle.waiting.proofs.rings.Rings.join.Goals.{After-link-2}

joined : (c : After-link-2) → Each c.link-2.new.self (λ p. cond (eqb p c.args.priority.level) (ring_list c.args.self.now p ++ c.args.id.number ∷ []) (ring_list c.args.self.now p))
joined c =
    joined_rings c.args.self.now c.link.new.self c.link-2.new.self c.args.id.number c.args.priority.level c.args.id.named c.args.priority.known c.requires
    c.from-place.result.number c.end_of-end.result.number c.before-last.result.number c.from-place.ensures c.end_of-end.ensures c.before-last.ensures
    c.link.ensures.next c.link.ensures.prev c.link-2.ensures.next c.link-2.ensures.prev

pub invariant_of-self : goal.invariant_of-self
invariant_of-self c = let s = sound c.link-2.new.self _ (joined c) in record { linked = s.0; once = s.1; named = s.2 }

pub returns : goal.returns
returns c = λ p h. found _ _ p _ (joined (goal.at.returns c).After-link-2 p h)
