use Rattle.std.proofs.Common.{cond, not, ◌&&◌, eqb, sym, ap, ◌∙◌, arith}
use Rattle.interrupt.specs.Lists.{has}
use Rattle.interrupt.specs.Meaning.{id_of}
use Rattle.interrupt.proofs.Ids.{id_below}
use Rattle.waiting.specs.Order.{waiting_list, waits_at}
use Rattle.guest.specs.Interrupts.{Interrupt, waits}
use Rattle.guest.specs.Book.{settle}
use Rattle.interrupt.specs.Counts.{one_if}
use Rattle.plain.specs.Table.{at_of, actives}
use Rattle.interrupt.proofs.Counting.{count_le, count_some}
use Rattle.plain.proofs.Kept.{step, own}
use Rattle.plain.proofs.plain_guest.PlainGuest.change.Goals as goal

pub recount-self-requires : goal.recount-self-requires
recount-self-requires g c =
    let s = c.args.self.now in
    record {
      counted = λ e. let k = count_some 1020 (id_of c.args.id) (actives s.table) (id_below c.args.id) (sym (c.is_active-was_active.ensures ∙ ap (λ (i : Interrupt). i.active) c.get.ensures) ∙ e) in omega (arith, s.counted);
      room = omega (arith, count_le 1020 (actives s.table), s.counted);
    }

pub invariant_of-self : goal.invariant_of-self
invariant_of-self g c =
    let s = c.args.self.now in
    let n = id_of c.args.id in
    let i = c.change-result.ensures.0 in
    let new = own (at_of s.table) (at_of c.change-result.new.self) n i c.change-result.ensures.2 in
    let was = ap one_if (c.is_active-was_active.ensures ∙ ap (λ (j : Interrupt). j.active) c.get.ensures) in
    let is = ap one_if (c.is_active.ensures ∙ ap (λ (j : Interrupt). j.active) (c.get-source.ensures ∙ new)) in
    let f = step (at_of s.table) (at_of c.change-result.new.self) (waiting_list s.waiting) (waiting_list c.settle_order.new.waiting) (waits_at s.waiting) (waits_at c.settle_order.new.waiting) n i s.active c.recount-self.result
    (record {
      named = id_below c.args.id;
      became = c.change-result.ensures.2;
      settled = c.settle_order.ensures.list ∙ ap (λ (j : Interrupt). settle n (waits j) (waiting_list s.waiting)) c.get-source.ensures;
      ranks = λ m h. c.settle_order.ensures.ranks m h ∙ ap (λ (j : Interrupt). cond (eqb m n && not (has n (waiting_list s.waiting))) j.priority (waits_at s.waiting m)) c.get-source.ensures;
      same = λ h. c.requires.priority c.change-result.result i (s.listed n h) c.change-result.ensures.1;
      counted = omega (arith, c.recount-self.ensures, was, is);
    })
    s.listed s.ranked s.counted in
    record { listed = f.0; ranked = f.1; counted = f.2 }
