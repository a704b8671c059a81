use Rattle.std.proofs.Common.{rules}
use Rattle.waiting.specs.Links.{no_link, next_of, prev_of}
use Rattle.waiting.proofs.links.Links.new.Goals as goal

pub returns : goal.returns
unfolding next_of prev_of
returns c = record {
  next = λ i h. let k = c.from_fn.ensures.items.at i no_link h in search rules;
  prev = λ i h. let k = c.from_fn.ensures.items.at i no_link h in search rules;
}
