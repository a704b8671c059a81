use Rattle.std.proofs.Common.{◌≡◌, ℕ, Bool, sym, ap, ◌∙◌}
use Rattle.interrupt.specs.declared.priority_set.PrioritySet.{PrioritySet}
use Rattle.interrupt.specs.Meaning.{members}
use Rattle.interrupt.specs.Sets.{some}
use Rattle.list_register.specs.Shown.{entry_of}
use Rattle.register_file.specs.Registers.{entries_of}
use Rattle.register_file.proofs.Places.{at_place}
use Rattle.register_device.specs.Words.{held_in}
use Rattle.register_device.proofs.Looking.{levels_then, levels_else}
use Rattle.register_device.proofs.pending.pending_levels.Goals as goal
use Rattle.register_device.proofs.pending.pending_levels.Goals.{then-is_pending, else-is_pending}

pub loop-word-preserved : goal.loop-word-preserved
loop-word-preserved c = λ p h.
    let at = entries_of held_in c.args.list.now in
    let k = c.loop-word.word-index in
    let e = entry_of c.entry-entry.result in
    let same : at k ≡ e = at_place held_in c.args.list.now k c.word-item.result c.word-item.is c.loop-word-test.true ∙ sym c.entry-entry.ensures in
    elim c.if-is_pending.branch [
      | then-is_pending w ↦ ap (λ (s : PrioritySet). members s p) w.levels-is ∙ levels_then k p (members c.loop-word.levels) (members w.insert.new.self) at e same (sym c.is_pending.ensures ∙ w.if-is_pending.true) w.insert.ensures (c.loop-word.invariant p h)
      | else-is_pending w ↦ ap (λ (s : PrioritySet). members s p) w.levels-is ∙ levels_else k p (members c.loop-word.levels) at e same (sym c.is_pending.ensures ∙ w.if-is_pending.false) (c.loop-word.invariant p h)
    ]

pub loop-word-init : goal.loop-word-init
unfolding some
loop-word-init c = λ p h. ap (λ (f : ℕ → Bool). f p) c.empty-levels.ensures
