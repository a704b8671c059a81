use Rattle.std.proofs.Common.{◌≡◌, ℕ, Bool, true, false, not, sym, ap, ◌∙◌, arith}
use Rattle.std.proofs.lemmas.Bool.Decides.{nat_tests}
use Rattle.interrupt.specs.Meaning.{members}
use Rattle.interrupt.specs.Sets.{some}
use Rattle.mask_device.specs.Sets.{in_set}
use Rattle.mask_device.proofs.Sets.{summed_set, put_same, some_left}
use Rattle.mask_device.proofs.pending.PendingSets.remove.Goals as goal

some_there : (t s : Bool) → t ≡ false → t ≡ not s → s ≡ true
some_there t true e f = grind (arith, nat_tests)
some_there t false e f = grind (arith, nat_tests)

pub invariant_of-self-else-is_empty : goal.invariant_of-self-else-is_empty
invariant_of-self-else-is_empty c =
    let s = c.args.self.now in
    let p = c.args.priority.level in
    let after = some_there _ _ c.if-is_empty.false c.is_empty.ensures in
    let before : some 64 (in_set s.sets c.from-p.result) ≡ true = some_left c.args.register.index _ (sym (ap (some 64) c.without-left.ensures) ∙ after) in
    let was : members s.levels p ≡ true = s.summed p c.args.priority.known ∙ ap (λ (q : ℕ). some 64 (in_set s.sets q)) (sym (c.from-p.ensures ∙ c.level.ensures.value)) ∙ before in
    record { summed = summed_set s.sets (members s.levels) (members s.levels) p c.from-p.result c.without-left.result (c.from-p.ensures ∙ c.level.ensures.value) (omega arith) s.summed (put_same p _ (members s.levels) (was ∙ sym after)) }
