-- From the priorities at which registers are pending to the line and to what acknowledge picks.
use Rattle.std.proofs.Common.{◌≡◌, ℕ, ◌<◌, ◌≤◌, Bool, true, false, ◌&&◌, eqb, is_some, Some, None, Option, sym, refl, ap, ◌∙◌, subst, ⊎_elim, arith, MatchOption}
use Rattle.std.proofs.lemmas.Bool.{cases_lt}
use Rattle.std.proofs.lemmas.Bool.Decides.{nat_tests}
use Rattle.interrupt.specs.Cpu.{admits, first_admitted}
use Rattle.interrupt.specs.Sets.{some, lowest}
use Rattle.interrupt.proofs.Lowest.{some_none, some_at, some_found, lowest_of}
use Rattle.interrupt.proofs.Urgency.{admits_less, first_some, first_none}
use Rattle.list_register.specs.Entries.{Entry, is_pending, is_valid}
use Rattle.list_register.specs.Meaning.{Meaning, Apart}
use Rattle.list_register.specs.Calls.{ready, line_up, Pick, taken, Acknowledges}
use Rattle.register_file.specs.Registers.{pending_at}
use Rattle.register_file.specs.Picking.{Chosen, Prefers}
use Rattle.register_file.proofs.Kept.{valid_pending}

-- the priorities at which a register is pending; each entry's priority is below 32
pub record Levels (n : ℕ) (at : ℕ → Entry) (levels : ℕ → Bool) : Type 0 where
  pub shown : (p : ℕ) → p < 32 → levels p ≡ some n (pending_at at p)
  pub within : (k : ℕ) → (at k).priority < 32

-- a pending register's priority is among them
level_of : (n : ℕ) (at : ℕ → Entry) (levels : ℕ → Bool) → Levels n at levels → (k : ℕ) → k < n → is_pending (at k).state ≡ true → levels (at k).priority ≡ true
level_of n at levels h k l e =
    h.shown (at k).priority (h.within k)
    ∙ some_at n (pending_at at (at k).priority) k l (let s : eqb (at k).priority (at k).priority ≡ true = grind (arith, nat_tests) in rw e s)

-- none is below the lowest
lowest_below : (n : ℕ) (at : ℕ → Entry) (levels : ℕ → Bool) → Levels n at levels → (k : ℕ) → k < n → is_pending (at k).state ≡ true → lowest 32 levels ≤ (at k).priority
lowest_below n at levels h k l e = ⊎_elim
    (λ (s : (at k).priority < lowest 32 levels). absurd (let a = (lowest_of 32 levels).below (at k).priority s in let b = level_of n at levels h k l e in let z : ◌≡◌ {A = ℕ} 0 1 = cc in omega arith))
    (λ (s : lowest 32 levels ≤ (at k).priority). s) (cases_lt (at k).priority (lowest 32 levels))

-- the lowest is not admitted: no register is ready
none_ready : (m : Meaning) (levels : ℕ → Bool) → Levels m.count m.at levels → first_admitted m.cpu levels ≡ None → some m.count (ready m) ≡ false
none_ready m levels h e = some_none m.count (ready m) (λ k l. each k l (is_pending (m.at k).state) refl)
  where
    each : (k : ℕ) → k < m.count → (t : Bool) → is_pending (m.at k).state ≡ t → (t && admits m.cpu (m.at k).priority) ≡ false
    each k l false a = refl
    each k l true a =
        let low = lowest_below m.count m.at levels h k l a in
        admits_less m.cpu (lowest 32 levels) (m.at k).priority low (first_none m.cpu levels e (let w = h.within k in omega arith))

-- a register that is pending at the lowest, which is admitted
picked : (m : Meaning) (levels : ℕ → Bool) (p k : ℕ) → Levels m.count m.at levels → first_admitted m.cpu levels ≡ Some p → k < m.count → pending_at m.at p k ≡ true → Pick m k
picked m levels p k h e l pending =
    let a = first_some m.cpu levels p e in
    let s : is_pending (m.at k).state ≡ true = grind (arith, nat_tests) in
    let q : (m.at k).priority ≡ p = grind (arith, nat_tests) in
    record {
      within = l;
      can = rw s (ap (admits m.cpu) q ∙ a.2);
      lowest = λ j i r. let t : is_pending (m.at j).state ≡ true = first (is_pending (m.at j).state) _ r in let b = lowest_below m.count m.at levels h j i t in omega (arith, a.0);
    }
  where
    first : (x y : Bool) → (x && y) ≡ true → x ≡ true
    first true y g = refl
    first false y g = g

-- what is ready is pending
pending_ready : (m : Meaning) (k : ℕ) → ready m k ≡ true → is_pending (m.at k).state ≡ true
pending_ready m k h = grind (arith, nat_tests)

-- the lowest is admitted: some register is pending at it
some_pending : (m : Meaning) (levels : ℕ → Bool) (p : ℕ) → Levels m.count m.at levels → first_admitted m.cpu levels ≡ Some p → some m.count (pending_at m.at p) ≡ true
some_pending m levels p h e =
    let a = first_some m.cpu levels p e in
    let b = (lowest_of 32 levels).here (omega (arith, a.0, a.1)) in
    sym (h.shown p a.1) ∙ ap levels (sym a.0) ∙ b

-- every pick is pending at the lowest
pending_pick : (m : Meaning) (levels : ℕ → Bool) (p j : ℕ) → Levels m.count m.at levels → first_admitted m.cpu levels ≡ Some p → Pick m j → pending_at m.at p j ≡ true
pending_pick m levels p j h e pick =
    let a = first_some m.cpu levels p e in
    let s = pending_ready m j pick.can in
    let low = lowest_below m.count m.at levels h j pick.within s in
    let f = some_found m.count (pending_at m.at p) (some_pending m levels p h e) in
    let high = pick.lowest f.0 f.1 (picked m levels p f.0 h e f.1 f.2).can in
    let q : (m.at f.0).priority ≡ p = let g = f.2 in grind (arith, nat_tests) in
    let same : (m.at j).priority ≡ p = omega (arith, a.0) in
    let t : eqb (m.at j).priority p ≡ true = grind (arith, nat_tests) in
    rw s t

-- the register that is pending at the first admitted priority, if there is one
pub chosen_none : (before : ℕ → ℕ → Type 0) (m : Meaning) (levels : ℕ → Bool) → Levels m.count m.at levels → first_admitted m.cpu levels ≡ None → Chosen before m None
chosen_none before m levels h e = none_ready m levels h e

pub chosen : (before : ℕ → ℕ → Type 0) (m : Meaning) (levels : ℕ → Bool) (p : ℕ) (o : Option ℕ) → Levels m.count m.at levels → first_admitted m.cpu levels ≡ Some p →
    MatchOption o ((k : ℕ) → k < m.count → pending_at m.at p k ≡ false) (λ k. (k < m.count) × (pending_at m.at p k ≡ true) × ((j : ℕ) → j < m.count → pending_at m.at p j ≡ true → before k j)) → Chosen before m o
chosen before m levels p None h e none = absurd (let a = some_none m.count (pending_at m.at p) none in let b = some_pending m levels p h e in let z : ◌≡◌ {A = ℕ} 0 1 = cc in omega arith)
chosen before m levels p (Some k) h e found = (picked m levels p k h e found.0 found.1, λ j pick. found.2 j pick.within (pending_pick m levels p j h e pick))

-- whether any is ready, by the choice
pub ready_chosen : (before : ℕ → ℕ → Type 0) (m : Meaning) (o : Option ℕ) (r : Bool) → Chosen before m o → r ≡ is_some o → r ≡ some m.count (ready m)
ready_chosen before m None r h e = e ∙ sym h
ready_chosen before m (Some k) r h e = e ∙ sym (some_at m.count (ready m) k h.0.within h.0.can)

-- what is chosen is valid
pub valid_chosen : (before : ℕ → ℕ → Type 0) (m : Meaning) (k : ℕ) → Chosen before m (Some k) → is_valid (m.at k).state ≡ true
valid_chosen before m k h = valid_pending (m.at k).state (pending_ready m k h.0.can)

-- the register whose number is answered is the one that was chosen
prefers_chosen : (before : ℕ → ℕ → Type 0) (m : Meaning) (k : ℕ) → Apart m.at → Chosen before m (Some k) → Prefers before m (Some (m.at k).number)
prefers_chosen before m k apart h j l pick other e =
    let same : l ≡ k = apart l k (let v = valid_pending (m.at l).state (pending_ready m l other.can) in let w = valid_chosen before m k h in let n : (m.at k).number ≡ (m.at l).number = cc in grind (arith, nat_tests)) in
    let before_all : ℕ → Type 0 = λ i. before i j in
    subst before_all (sym same) (h.1 j pick)

-- nothing is answered, and so nothing preferred
pub prefers_none : (before : ℕ → ℕ → Type 0) (m : Meaning) → Prefers before m None
prefers_none before m j k a b e = absurd (let z : ◌≡◌ {A = ℕ} 0 1 = cc in omega arith)

-- an acknowledge while the line is down
pub acknowledges_none : (m : Meaning) → line_up m ≡ false → Acknowledges m None m
acknowledges_none m e = record { down = λ _. (refl, refl); up = λ f. absurd (let z : ◌≡◌ {A = ℕ} 0 1 = cc in omega arith) }

-- an acknowledge of one of the picks
acknowledges_one : (m : Meaning) (k : ℕ) → m.live ≡ true → Pick m k → Acknowledges m (Some (m.at k).number) (taken k m)
acknowledges_one m k live pick = record { down = λ f. absurd (let u = up in let z : ◌≡◌ {A = ℕ} 0 1 = cc in omega arith); up = λ _. (k, pick, refl, refl) }
  where
    up : line_up m ≡ true
    up = let r = some_at m.count (ready m) k pick.within pick.can in rw live r

-- register k was chosen and is taken, and its number answered
pub taken_does : (before : ℕ → ℕ → Type 0) (m : Meaning) (k n : ℕ) (after : Meaning) → m.live ≡ true → Chosen before m (Some k) → n ≡ (m.at k).number → after ≡ taken k m → Acknowledges m (Some n) after
taken_does before m k n after live h same left = rw (same, left) (acknowledges_one m k live h.0)

pub taken_prefers : (before : ℕ → ℕ → Type 0) (m : Meaning) (k n : ℕ) → Apart m.at → Chosen before m (Some k) → n ≡ (m.at k).number → Prefers before m (Some n)
taken_prefers before m k n apart h same = rw same (prefers_chosen before m k apart h)
