use Rattle.std.proofs.Common.{ℕ, sym, ap, ◌∙◌}
use Rattle.guest.specs.Interrupts.{Interrupt}
use Rattle.interrupt.specs.Counts.{count}
use Rattle.interrupt.proofs.Counting.{count_empty}
use Rattle.plain.proofs.plain_guest.PlainGuest.new.Goals as goal

pub invariant_of-result-clause-counted : goal.invariant_of-result-clause-counted
invariant_of-result-clause-counted c = sym (ap (λ (at : ℕ → Interrupt). count 1020 (λ n. (at n).active)) c.new.ensures ∙ count_empty 1020)
