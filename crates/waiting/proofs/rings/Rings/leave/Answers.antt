use Rattle.std.proofs.Common.{◌∙◌, ap}
use Rattle.interrupt.specs.Lists.{without}
use Rattle.waiting.specs.Links.{next_of, prev_of}
use Rattle.waiting.specs.Rings.{ring_list}
use Rattle.waiting.proofs.Steps.{Each, found, sound, left_rings}
use Rattle.waiting.proofs.rings.Rings.leave.Goals as goal
use Rattle.waiting.proofs.rings.Rings.leave.Goals.{After-link}

left : (c : After-link) → Each c.link.new.self (λ p. without c.args.id.number (ring_list c.args.self.now p))
left c =
    left_rings c.args.self.now c.link.new.self c.args.id.number c.args.id.named c.requires c.before-before.result.number c.after-after.result.number
    (c.before-before.ensures ∙ ap (prev_of c.args.self.now.links) c.from-place.ensures) (c.after-after.ensures ∙ ap (next_of c.args.self.now.links) c.from-place.ensures)
    c.link.ensures.next c.link.ensures.prev

pub invariant_of-self : goal.invariant_of-self
invariant_of-self c = let s = sound c.link.new.self _ (left c) in record { linked = s.0; once = s.1; named = s.2 }

pub returns : goal.returns
returns c = λ p h. found _ _ p _ (left (goal.at.returns c).After-link p h)
