use Rattle.std.proofs.Common.{ℕ, ◌<◌, ◌≤◌, sym, ap, ◌∙◌, ⊎_elim, arith}
use Rattle.std.proofs.lemmas.Bool.{cases_lt}
use Rattle.interrupt.specs.Cpu.{admits}
use Rattle.interrupt.specs.Lists.{first}
use Rattle.interrupt.specs.Meaning.{members, cpu_of}
use Rattle.interrupt.specs.Sets.{lowest}
use Rattle.interrupt.proofs.Urgency.{first_some, first_none}
use Rattle.waiting.specs.Order.{of_priority, waiting_list, waits_at}
use Rattle.plain.specs.Meaning.{book_of}
use Rattle.plain.proofs.Turns.{Known, nobody, not_admitted, admitted}
use Rattle.plain.proofs.plain_guest.PlainGuest.first_in_turn.Goals as goal
use Rattle.plain.proofs.plain_guest.PlainGuest.first_in_turn.Goals.{After-fronts}

known : (c : After-fronts) → Known (book_of c.args.self.now) (waits_at c.args.self.now.waiting) (members c.fronts.result)
known c =
    record { shown = c.fronts.ensures.shown; within = c.fronts.ensures.within; wait = c.args.self.now.listed; own = c.args.self.now.ranked }

pub returns-in_err-most_urgent : goal.returns-in_err-most_urgent
returns-in_err-most_urgent c =
    let s = c.args.self.now in
    let f = members c.fronts.result in
    let k = known (goal.at.returns-in_err-most_urgent c).After-fronts in
    rw c.from_residual.ensures (sym (⊎_elim
    (λ (l : lowest 32 f < 32). not_admitted (book_of s) (waits_at s.waiting) f k (first_none (cpu_of s.cpu) f (sym c.in_err-most_urgent.ensures) l))
    (λ (l : 32 ≤ lowest 32 f). nobody (book_of s) (waits_at s.waiting) f k l) (cases_lt (lowest 32 f) 32)))

pub returns : goal.returns
returns c =
    let s = c.args.self.now in
    let f = members c.fronts.result in
    let k = known (goal.at.returns c).After-fronts in
    let e = first_some (cpu_of s.cpu) f c.in_ok-most_urgent.most_urgent.level (sym c.in_ok-most_urgent.ensures) in
    c.front.ensures
    ∙ ap (λ (q : ℕ). first (of_priority (waits_at s.waiting) q (waiting_list s.waiting))) (sym e.0)
    ∙ admitted (book_of s) (waits_at s.waiting) f k (omega (arith, e.0, e.1)) (ap (admits (cpu_of s.cpu)) e.0 ∙ e.2)
