use Rattle.std.proofs.Common.{◌≡◌, ℕ, ◌<◌, ◌≤◌, ap, ◌∙◌, subst, MatchOption}
use Rattle.interrupt.specs.Meaning.{id_of}
use Rattle.waiting.specs.Links.{next_of}
use Rattle.waiting.specs.Places.{interrupts}
use Rattle.waiting.proofs.Steps.{front_is}
use Rattle.waiting.proofs.rings.Rings.front.Goals as goal

pub returns : goal.returns
returns c =
    front_is c.args.self.now c.args.priority.level c.args.priority.known c.new.result
    (subst (λ (n : ℕ). MatchOption c.new.result (interrupts ≤ n) (λ i. (n < interrupts) × (id_of i ≡ n)))
    (c.from.ensures ∙ c.after-first.ensures ∙ ap (next_of c.args.self.now.links) c.end_of.ensures) c.new.ensures)
