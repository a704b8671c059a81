-- From the register that has a number, if one does, to clashes and to releases.
use Rattle.std.proofs.Common.{◌≡◌, ℕ, ◌<◌, ◌≤◌, Bool, true, false, cond, not, ◌&&◌, eqb, List, length, take, position, Some, None, Option, sym, refl, ap, ◌∙◌, subst, ⊎_elim, arith, MatchOption}
use Rattle.std.specs.Bool.{then_some}
use Rattle.std.proofs.lemmas.Bool.{eqb-true, eqb-false, cases_lt}
use Rattle.std.proofs.lemmas.Bool.Decides.{nat_tests}
use Rattle.interrupt.specs.Sets.{some}
use Rattle.interrupt.proofs.Lowest.{some_none, some_at}
use Rattle.list_register.specs.Entries.{Entry, is_valid, is_active, inactive, with_state, holds}
use Rattle.register_file.specs.Registers.{Finds, Alone, entries_of}
use Rattle.list_register.specs.Meaning.{Meaning, Apart, Ends, with_entry, with_entries}
use Rattle.register_file.proofs.Places.{First, first_at}
use Rattle.list_register.specs.Calls.{active_with, released, clashes}

-- the first that holds a number, in the view of the n registers that there are
pub finds_among : {R : Type 0} (held : R → Entry) (registers view : List R) (n w : ℕ) (o : Option ℕ) → o ≡ position (λ r. holds w (held r)) view → view ≡ take n registers → length view ≡ n → Finds n (entries_of held (take n registers)) w o
finds_among {R = R} held registers view n w o e v l =
    let counted : ℕ → Type 0 = λ i. Finds i (entries_of held view) w o in
    let among : List R → Type 0 = λ rs. Finds n (entries_of held rs) w o in
    subst among v (subst counted l (go o (first_at held (holds w) view o e)))
  where
    go : (o : Option ℕ) → First (length view) (λ k. holds w (entries_of held view k)) o → Finds (length view) (entries_of held view) w o
    go None none = none
    go (Some k) found = (found.0, found.1)

-- what holding a number says
valid_of : (w : ℕ) (e : Entry) → holds w e ≡ true → is_valid e.state ≡ true
valid_of w e h = grind (arith, nat_tests)

number_of : (w : ℕ) (e : Entry) → holds w e ≡ true → e.number ≡ w
number_of w e h = grind (arith, nat_tests)

-- there is only one
only : (at : ℕ → Entry) (w j k : ℕ) → Apart at → holds w (at j) ≡ true → holds w (at k) ≡ true → j ≡ k
only at w j k apart a b = apart j k (let v = valid_of w (at j) a in let e = number_of w (at j) a in rw v (ap (λ (n : ℕ). holds n (at k)) e ∙ b))

-- clashes

clash_none : (m : Meaning) (k : ℕ) (e : Entry) → Finds m.count m.at e.number None → clashes k e m ≡ false
clash_none m k e none =
    let s = some_none m.count (λ j. not (eqb j k) && holds e.number (m.at j)) (λ j l. let h = none j l in rw h (both (not (eqb j k)))) in
    rw s (both (is_valid e.state))
  where
    both : (t : Bool) → (t && false) ≡ false
    both true = refl
    both false = refl

clash_other : (m : Meaning) (k j : ℕ) (e : Entry) → is_valid e.state ≡ true → j < m.count → holds e.number (m.at j) ≡ true → (j ≡ k → ⊥) → clashes k e m ≡ true
clash_other m k j e v l h ne =
    let s = some_at m.count (λ j. not (eqb j k) && holds e.number (m.at j)) j l (let f : eqb j k ≡ false = grind (arith, nat_tests) in rw f h) in rw v s

clash_own : (m : Meaning) (k : ℕ) (e : Entry) → Apart m.at → holds e.number (m.at k) ≡ true → clashes k e m ≡ false
clash_own m k e apart h =
    let s = some_none m.count (λ j. not (eqb j k) && holds e.number (m.at j)) (λ j l. each j (eqb j k) refl (holds e.number (m.at j)) refl) in
    rw s (both (is_valid e.state))
  where
    both : (t : Bool) → (t && false) ≡ false
    both true = refl
    both false = refl

    each : (j : ℕ) (t : Bool) → eqb j k ≡ t → (u : Bool) → holds e.number (m.at j) ≡ u → (not t && u) ≡ false
    each j true a u f = refl
    each j false a false f = refl
    each j false a true f = absurd (eqb-false j k a (only m.at e.number j k apart f h))

-- where a register has the number, it is another or not
pub clash_found : (m : Meaning) (k n : ℕ) (e : Entry) (o : Option ℕ) (r : Bool) → Apart m.at → is_valid e.state ≡ true → n ≡ e.number → Finds m.count m.at n o →
    MatchOption o (r ≡ false) (λ j. r ≡ not (eqb j k)) → r ≡ clashes k e m
clash_found m k n e None r apart v same f h = let none : Finds m.count m.at e.number None = rw (sym same) f in h ∙ sym (clash_none m k e none)
clash_found m k n e (Some j) r apart v same f h = h ∙ go (eqb j k) refl
  where
    held : holds e.number (m.at j) ≡ true
    held = ap (λ (w : ℕ). holds w (m.at j)) (sym same) ∙ f.1

    go : (t : Bool) → eqb j k ≡ t → not t ≡ clashes k e m
    go true a = sym (clash_own m k e apart (ap (λ (i : ℕ). holds e.number (m.at i)) (sym (eqb-true j k a)) ∙ held))
    go false a = sym (clash_other m k j e v f.0 held (eqb-false j k a))

-- what does not clash stands alone
pub alone_of : (m : Meaning) (k : ℕ) (e : Entry) → Ends m.count m.at → clashes k e m ≡ false → Alone k e m.at
alone_of m k e ends c j h = go (eqb j k) refl
  where
    v : is_valid e.state ≡ true
    v = grind (arith, nat_tests)

    held : holds e.number (m.at j) ≡ true
    held = grind (arith, nat_tests)

    inside : j < m.count
    inside = ⊎_elim (λ (l : j < m.count). l) (λ (l : m.count ≤ j). absurd (let n = ends j l in let f : holds e.number (m.at j) ≡ false = rw n refl in let t = held in let z : ◌≡◌ {A = ℕ} 0 1 = cc in omega arith)) (cases_lt j m.count)

    go : (t : Bool) → eqb j k ≡ t → j ≡ k
    go true a = eqb-true j k a
    go false a = absurd (let x = clash_other m k j e v inside held (eqb-false j k a) in let z : ◌≡◌ {A = ℕ} 0 1 = cc in omega arith)

-- what was found not to clash stands alone
pub stands_alone : (m : Meaning) (k : ℕ) (e : Entry) (r : Bool) → Ends m.count m.at → r ≡ clashes k e m → r ≡ false → Alone k e m.at
stands_alone m k e r ends h f = alone_of m k e ends (sym h ∙ f)

-- releases

-- an active register with the number holds it
active_holds : (w : ℕ) (e : Entry) → (is_active e.state && eqb e.number w) ≡ true → holds w e ≡ true
active_holds w e h = grind (arith, nat_tests)

idle_none : (w : ℕ) (e : Entry) → holds w e ≡ false → (is_active e.state && eqb e.number w) ≡ false
idle_none w e h = grind (arith, nat_tests)

-- no register has the number, and so none is active with it
pub active_none : (m : Meaning) (w : ℕ) → Finds m.count m.at w None → some m.count (active_with w m) ≡ false
active_none m w none = some_none m.count (active_with w m) (λ k l. idle_none w (m.at k) (none k l))

-- one has it: if that is not active, none is active with it
pub active_found : (m : Meaning) (w k : ℕ) → Apart m.at → Finds m.count m.at w (Some k) →
    MatchOption (then_some (is_active (m.at k).state) k) (some m.count (active_with w m) ≡ false) (λ j. (j < m.count) × (active_with w m j ≡ true))
active_found m w k apart f = go (is_active (m.at k).state) refl
  where
    go : (t : Bool) → is_active (m.at k).state ≡ t → MatchOption (then_some t k) (some m.count (active_with w m) ≡ false) (λ j. (j < m.count) × (active_with w m j ≡ true))
    go true e = (f.0, let n = number_of w (m.at k) f.1 in grind (arith, nat_tests))
    go false e = some_none m.count (active_with w m) (λ j l. each j (active_with w m j) refl)
      where
        each : (j : ℕ) (t : Bool) → active_with w m j ≡ t → t ≡ false
        each j false h = refl
        each j true h =
            let same = only m.at w j k apart (active_holds w (m.at j) h) f.1 in
            let a : is_active (m.at j).state ≡ true = grind (arith, nat_tests) in
            sym a ∙ ap (λ (i : ℕ). is_active (m.at i).state) same ∙ e

-- the active one with the number is the only one that is released
pub released_there : (m : Meaning) (w k : ℕ) → Apart m.at → k < m.count → active_with w m k ≡ true → released w m ≡ with_entry k (with_state (inactive (m.at k).state) (m.at k)) m
released_there m w k apart l own =
    let e = some_at m.count (active_with w m) k l own in
    rw e (ap (λ (at : ℕ → Entry). with_entries at m) (λ i j. each j (eqb j k) refl (active_with w m j) refl i))
  where
    each : (j : ℕ) (s : Bool) → eqb j k ≡ s → (t : Bool) → active_with w m j ≡ t →
        cond t (with_state (inactive (m.at j).state) (m.at j)) (m.at j) ≡ cond s (with_state (inactive (m.at k).state) (m.at k)) (m.at j)
    each j true e true f = ap (λ (i : ℕ). with_state (inactive (m.at i).state) (m.at i)) (eqb-true j k e)
    each j true e false f = absurd (let g : active_with w m k ≡ false = ap (active_with w m) (sym (eqb-true j k e)) ∙ f in let z : ◌≡◌ {A = ℕ} 0 1 = cc in omega arith)
    each j false e false f = refl
    each j false e true f = absurd (eqb-false j k e (only m.at w j k apart (active_holds w (m.at j) f) (active_holds w (m.at k) own)))
