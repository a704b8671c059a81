-- What the plain guest keeps, over a change of one interrupt.
use Rattle.std.proofs.Common.{◌≡◌, ℕ, ◌+◌, ◌<◌, Bool, true, false, cond, not, ◌&&◌, eqb, List, sym, refl, ap, ◌∙◌, subst, arith}
use Rattle.std.proofs.lemmas.Bool.Decides.{nat_tests}
use Rattle.std.proofs.lemmas.Bool.{eqb-true, false≢true}
use Rattle.interrupt.specs.Lists.{has, without}
use Rattle.interrupt.specs.Sets.{put}
use Rattle.waiting.proofs.Lists.{has_push, has_without}
use Rattle.guest.specs.Interrupts.{Interrupt, waits}
use Rattle.guest.specs.Book.{settle}
use Rattle.interrupt.specs.Counts.{one_if, count}
use Rattle.plain.specs.Kept.{AllWait, AtOwnPriority}
use Rattle.interrupt.proofs.Counting.{count_put}

-- after a settle at n, n is in the list as it waits, and any other as before
pub has_settle : (m n : ℕ) (v : Bool) (xs : List ℕ) → has m (settle n v xs) ≡ cond (eqb m n) v (has m xs)
has_settle m n true xs = let p = has_push m xs n in grind (arith, nat_tests)
has_settle m n false xs = has_without m n xs

pub all_wait : (at : ℕ → Interrupt) (xs : List ℕ) (n : ℕ) (i : Interrupt) → AllWait at xs → AllWait (put n i at) (settle n (waits i) xs)
all_wait at xs n i h m e = go (eqb m n) (has_settle m n (waits i) xs)
  where
    go : (t : Bool) → has m (settle n (waits i) xs) ≡ cond t (waits i) (has m xs) → waits (cond t i (at m)) ≡ true
    go true f = sym f ∙ e
    go false f = h m (sym f ∙ e)

pub at_own_priority :
    (at : ℕ → Interrupt) (xs ys : List ℕ) (rank new : ℕ → ℕ) (n : ℕ) (i : Interrupt) → AtOwnPriority at xs rank → (has n xs ≡ true → i.priority ≡ (at n).priority) →
    ys ≡ settle n (waits i) xs → ((m : ℕ) → has m ys ≡ true → new m ≡ cond (eqb m n && not (has n xs)) i.priority (rank m)) → AtOwnPriority (put n i at) ys new
at_own_priority at xs ys rank new n i old same settled ranks m e = go (eqb m n) (has n xs) refl refl (ranks m e)
  where
    go : (t s : Bool) → eqb m n ≡ t → has n xs ≡ s → new m ≡ cond (t && not s) i.priority (rank m) → new m ≡ (cond t i (at m)).priority
    go true true f g r = let k : m ≡ n = eqb-true m n f in r ∙ ap rank k ∙ old n g ∙ sym (same g)
    go true false f g r = r
    go false s f g r = r ∙ old m (let a = has_settle m n (waits i) xs in let b = ap (has m) settled in grind (arith, nat_tests))

-- the ranks after one leaves
pub left_ranks :
    (xs ys : List ℕ) (rank new : ℕ → ℕ) (n p : ℕ) → ys ≡ without n xs → ((m : ℕ) → eqb m n ≡ false → new m ≡ rank m) →
    (m : ℕ) → has m ys ≡ true → new m ≡ cond (eqb m n && not (has n xs)) p (rank m)
left_ranks xs ys rank new n p e r m h = go (eqb m n) refl (has_without m n xs)
  where
    go : (t : Bool) → eqb m n ≡ t → has m (without n xs) ≡ cond t false (has m xs) → new m ≡ cond (t && not (has n xs)) p (rank m)
    go true f g = absurd (false≢true (sym g ∙ ap (has m) (sym e) ∙ h))
    go false f g = r m f

-- the ghost fields of the guest
abbrev pub Fields : (ℕ → Interrupt) → List ℕ → (ℕ → ℕ) → ℕ → Type 0
Fields at xs rank active = AllWait at xs × AtOwnPriority at xs rank × (active ≡ count 1020 (λ m. (at m).active))

pub record Step (at new_at : ℕ → Interrupt) (xs ys : List ℕ) (rank new : ℕ → ℕ) (n : ℕ) (i : Interrupt) (active now_active : ℕ) : Type 0 where
  -- interrupt n became i, and the waiting order followed
  pub named : n < 1020
  pub became : new_at ≡ put n i at
  pub settled : ys ≡ settle n (waits (new_at n)) xs
  pub ranks : (m : ℕ) → has m ys ≡ true → new m ≡ cond (eqb m n && not (has n xs)) (new_at n).priority (rank m)
  -- one that waited kept its priority, and the count of the active ones followed
  pub same : has n xs ≡ true → i.priority ≡ (at n).priority
  pub counted : now_active + one_if (at n).active ≡ active + one_if i.active

-- interrupt n is what it became
pub own : (at new_at : ℕ → Interrupt) (n : ℕ) (i : Interrupt) → new_at ≡ put n i at → new_at n ≡ i
own at new_at n i e = let t : eqb n n ≡ true = grind (arith, nat_tests) in rw e (rw t)

pub step : (at new_at : ℕ → Interrupt) (xs ys : List ℕ) (rank new : ℕ → ℕ) (n : ℕ) (i : Interrupt) (active now_active : ℕ) →
    Step at new_at xs ys rank new n i active now_active → AllWait at xs → AtOwnPriority at xs rank → active ≡ count 1020 (λ m. (at m).active) → Fields new_at ys new now_active
step at new_at xs ys rank new n i active now_active s w p c =
    let at_n = own at new_at n i s.became in
    let list : ys ≡ settle n (waits i) xs = s.settled ∙ ap (λ (j : Interrupt). settle n (waits j) xs) at_n in
    let fields : Fields (put n i at) ys new now_active = (
      subst (AllWait (put n i at)) (sym list) (all_wait at xs n i w),
      at_own_priority at xs ys rank new n i p s.same list
          (λ m h. s.ranks m h ∙ ap (λ (j : Interrupt). cond (eqb m n && not (has n xs)) j.priority (rank m)) at_n),
      let k = count_put 1020 n i.active (λ m. (at m).active) s.named in
          let q = ap (count 1020) (active_put n i at) in
          omega (arith, s.counted),
    ) in
    subst (λ (f : ℕ → Interrupt). Fields f ys new now_active) (sym s.became) fields
  where
    active_put : (n : ℕ) (i : Interrupt) (at : ℕ → Interrupt) → (λ m. (put n i at m).active) ≡ put n i.active (λ m. (at m).active)
    active_put n i at = λ j m. each (eqb m n) m j
      where
        each : (t : Bool) (m : ℕ) → (cond t i (at m)).active ≡ cond t i.active (at m).active
        each true m = refl
        each false m = refl
