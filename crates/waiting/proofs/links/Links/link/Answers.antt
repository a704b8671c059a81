use Rattle.std.proofs.Common.{◌∙◌, refl, ap, arith}
use Rattle.interrupt.specs.Sets.{put}
use Rattle.waiting.proofs.Tables.{read_set, read_kept}
use Rattle.waiting.specs.Links.{no_link, next_of, prev_of}
use Rattle.waiting.specs.declared.links.Link.{Link}
use Rattle.waiting.proofs.links.Links.link.Goals as goal

pub returns : goal.returns
unfolding next_of prev_of
returns c = record {
  next =
      read_kept (λ (k : Link). k.next.number) _ c.from-2.result _ no_link _ (omega arith) refl
      ∙ read_set (λ (k : Link). k.next.number) c.args.self.now.links _ c.from.result _ no_link c.from.ensures (omega arith);
  prev =
      read_set (λ (k : Link). k.prev.number) _ _ c.from-2.result _ no_link c.from-2.ensures (omega arith)
      ∙ ap (put _ _) (read_kept (λ (k : Link). k.prev.number) c.args.self.now.links c.from.result _ no_link _ (omega arith) refl);
}
