use Rattle.std.proofs.Common.{ℕ, Bool, not, sym, refl, ap, ◌∙◌, arith}
use Rattle.interrupt.specs.Sets.{word_of}
use Rattle.interrupt.proofs.Words.{word_then, word_else}
use Rattle.list_register.specs.Entries.{Entry, is_valid}
use Rattle.register_file.specs.Registers.{entries_of}
use Rattle.register_file.proofs.Places.{at_place}
use Rattle.register_device.specs.Words.{held_in}
use Rattle.register_device.proofs.status.empty_word.Goals as goal
use Rattle.register_device.proofs.status.empty_word.Goals.{then-not-is_valid, else-not-is_valid}

pub loop-k-preserved : goal.loop-k-preserved
loop-k-preserved c =
    let at = entries_of held_in c.args.list.now in
    let k = c.loop-k.k in
    let empties : ℕ → Bool = λ j. not (is_valid (at j).state) in
    let valid = ap (λ (e : Entry). not (is_valid e.state)) (at_place held_in c.args.list.now k c.index-list-k.result c.index-list-k.is c.loop-k-test.true ∙ sym c.entry.ensures) ∙ ap not (sym c.is_valid.ensures) in
    elim c.if-not-is_valid.branch [
      | then-not-is_valid w ↦ word_then 32 k c.loop-k.word c.if-not-is_valid.word empties (omega (arith, c.loop-k-test.true)) c.loop-k.invariant (valid ∙ ap not w.if-not-is_valid.true) w.word-is
      | else-not-is_valid w ↦ w.word-is ∙ word_else k c.loop-k.word empties c.loop-k.invariant (valid ∙ ap not w.if-not-is_valid.false)
    ]

pub loop-k-init : goal.loop-k-init
unfolding word_of
loop-k-init c = refl
