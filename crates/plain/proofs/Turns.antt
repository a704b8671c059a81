-- First in turn, found from the front of the most urgent priority.
use Rattle.std.proofs.Common.{◌≡◌, ℕ, ◌<◌, ◌≤◌, Bool, true, false, cond, eqb, leb, ◌≢◌, List, [], ◌∷◌, Some, None, Option, sym, refl, ap, ◌∙◌, ⊎_elim, arith}
use Rattle.std.proofs.lemmas.Bool.{eqb-true, eqb-false, false≢true, cases_lt}
use Rattle.std.proofs.lemmas.Bool.Decides.{nat_tests}
use Rattle.interrupt.specs.Lists.{has, first, filled}
use Rattle.interrupt.specs.Cpu.{admits}
use Rattle.interrupt.specs.Sets.{lowest}
use Rattle.interrupt.proofs.Lowest.{lowest_of}
use Rattle.interrupt.proofs.Urgency.{admits_less}
use Rattle.waiting.specs.Order.{of_priority}
use Rattle.waiting.proofs.Lists.{those_same}
use Rattle.guest.specs.Interrupts.{waits}
use Rattle.guest.specs.Book.{Book, sooner, first_by, eligible, priority_of, first_in_turn}

-- nobody fits
pub none_first : (fit : ℕ → Bool) (rank : ℕ → ℕ) (xs : List ℕ) → ((m : ℕ) → has m xs ≡ true → fit m ≡ false) → first_by fit rank xs ≡ None
none_first fit rank [] h = refl
none_first fit rank (x ∷ xs) h =
    let e : fit x ≡ false = h x (grind (arith, nat_tests)) in
    let r = none_first fit rank xs (λ m i. h m (grind (arith, nat_tests))) in
    rw e r

-- what is found is at least as high as all there is
abbrev AtLeast : (ℕ → ℕ) → ℕ → Option ℕ → Type 0
AtLeast rank p None = Unit {0}
AtLeast rank p (Some y) = p ≤ rank y

sooner_least : (rank : ℕ → ℕ) (p x : ℕ) (o : Option ℕ) → p ≤ rank x → AtLeast rank p o → AtLeast rank p (sooner rank x o)
sooner_least rank p x None h l = h
sooner_least rank p x (Some y) h l = go (leb (rank x) (rank y))
  where
    go : (t : Bool) → AtLeast rank p (cond t (Some x) (Some y))
    go true = h
    go false = l

first_least : (fit : ℕ → Bool) (rank : ℕ → ℕ) (p : ℕ) (xs : List ℕ) → ((m : ℕ) → has m xs ≡ true → p ≤ rank m) → AtLeast rank p (first_by fit rank xs)
first_least fit rank p [] h = tt
first_least fit rank p (x ∷ xs) h = go (first_least fit rank p xs (λ m i. h m (grind (arith, nat_tests)))) (fit x)
  where
    go : AtLeast rank p (first_by fit rank xs) → (t : Bool) → AtLeast rank p (cond t (sooner rank x (first_by fit rank xs)) (first_by fit rank xs))
    go r true = sooner_least rank p x (first_by fit rank xs) (h x (grind (arith, nat_tests))) r
    go r false = r

-- the front of a priority has it
abbrev HasRank : (ℕ → ℕ) → ℕ → Option ℕ → Type 0
HasRank rank p None = Unit {0}
HasRank rank p (Some y) = rank y ≡ p

front_rank : (rank : ℕ → ℕ) (p : ℕ) (xs : List ℕ) → HasRank rank p (first (of_priority rank p xs))
front_rank rank p [] = tt
front_rank rank p (x ∷ xs) = go (front_rank rank p xs) (eqb (rank x) p) refl
  where
    go : HasRank rank p (first (of_priority rank p xs)) → (t : Bool) → eqb (rank x) p ≡ t → HasRank rank p (first (cond t (x ∷ of_priority rank p xs) (of_priority rank p xs)))
    go r true e = eqb-true (rank x) p e
    go r false e = r

equal_sooner : (rank : ℕ → ℕ) (p x : ℕ) (o : Option ℕ) → rank x ≡ p → AtLeast rank p o → sooner rank x o ≡ Some x
equal_sooner rank p x None e l = refl
equal_sooner rank p x (Some y) e l = let t : leb (rank x) (rank y) ≡ true = grind (arith, nat_tests) in rw t

later_sooner : (rank : ℕ → ℕ) (p x : ℕ) (xs : List ℕ) → p < rank x → filled xs ≡ true → HasRank rank p (first xs) → sooner rank x (first xs) ≡ first xs
later_sooner rank p x [] h f r = absurd (false≢true f)
later_sooner rank p x (y ∷ ys) h f r = let t : leb (rank x) (rank y) ≡ false = grind (arith, nat_tests) in rw t

same_cond : (t : Bool) (a b : Option ℕ) → a ≡ b → cond t a b ≡ b
same_cond true a b e = e
same_cond false a b e = refl

-- where p is the lowest priority of those in the list, and those of p fit, the first is the front of p
pub front_first :
    (fit : ℕ → Bool) (rank : ℕ → ℕ) (p : ℕ) (xs : List ℕ) → ((m : ℕ) → has m xs ≡ true → p ≤ rank m) → ((m : ℕ) → has m xs ≡ true → rank m ≡ p → fit m ≡ true) →
    filled (of_priority rank p xs) ≡ true → first_by fit rank xs ≡ first (of_priority rank p xs)
front_first fit rank p [] low fits f = refl
front_first fit rank p (x ∷ xs) low fits f =
    go (front_first fit rank p xs (λ m i. low m (grind (arith, nat_tests))) (λ m i. fits m (grind (arith, nat_tests)))) (eqb (rank x) p) refl f
  where
    go : (filled (of_priority rank p xs) ≡ true → first_by fit rank xs ≡ first (of_priority rank p xs)) → (t : Bool) → eqb (rank x) p ≡ t → filled (cond t (x ∷ of_priority rank p xs) (of_priority rank p xs)) ≡ true →
        cond (fit x) (sooner rank x (first_by fit rank xs)) (first_by fit rank xs) ≡ first (cond t (x ∷ of_priority rank p xs) (of_priority rank p xs))
    go ih true e g =
        let s : rank x ≡ p = eqb-true (rank x) p e in
        let t : fit x ≡ true = fits x (grind (arith, nat_tests)) s in
        rw t (equal_sooner rank p x (first_by fit rank xs) s (first_least fit rank p xs (λ m i. low m (grind (arith, nat_tests)))))
    go ih false e g =
        let d : rank x ≢ p = eqb-false (rank x) p e in
        let l : p ≤ rank x = low x (grind (arith, nat_tests)) in
        let r = ih g in
        rw r (same_cond (fit x) _ _ (later_sooner rank p x (of_priority rank p xs) (omega arith) g (front_rank rank p xs)))

-- someone of rank p is in the list where its queue is not empty, and only then
pub filled_has : (rank : ℕ → ℕ) (p m : ℕ) (xs : List ℕ) → has m xs ≡ true → rank m ≡ p → filled (of_priority rank p xs) ≡ true
filled_has rank p m [] h e = h
filled_has rank p m (x ∷ xs) h e = go (filled_has rank p m xs) (eqb (rank x) p) refl
  where
    go : (has m xs ≡ true → rank m ≡ p → filled (of_priority rank p xs) ≡ true) → (t : Bool) → eqb (rank x) p ≡ t → filled (cond t (x ∷ of_priority rank p xs) (of_priority rank p xs)) ≡ true
    go ih true f = refl
    go ih false f =
        let d : rank x ≢ p = eqb-false (rank x) p f in
        let n : has m xs ≡ true = other (eqb x m) refl in ih n e
      where
        other : (t : Bool) → eqb x m ≡ t → has m xs ≡ true
        other true g = let s : x ≡ m = eqb-true x m g in absurd (eqb-false (rank x) p f (ap rank s ∙ e))
        other false g = grind (arith, nat_tests)

-- only the priorities of those in the list matter
of_priority_same : (rank own : ℕ → ℕ) (p : ℕ) (xs : List ℕ) → ((m : ℕ) → has m xs ≡ true → rank m ≡ own m) → of_priority rank p xs ≡ of_priority own p xs
of_priority_same rank own p xs h = those_same (λ m. eqb (rank m) p) (λ m. eqb (own m) p) xs (λ m e. ap (λ (n : ℕ). eqb n p) (h m e))

-- what the waiting order says of those that wait, and the table of them
pub record Known (b : Book) (rank : ℕ → ℕ) (fronts : ℕ → Bool) : Type 0 where
  pub shown : (p : ℕ) → p < 32 → fronts p ≡ filled (of_priority rank p b.waiting)
  pub within : (m : ℕ) → has m b.waiting ≡ true → rank m < 32
  pub wait : (m : ℕ) → has m b.waiting ≡ true → waits (b.at m) ≡ true
  pub own : (m : ℕ) → has m b.waiting ≡ true → rank m ≡ priority_of b m

module _ (b : Book) (rank : ℕ → ℕ) (fronts : ℕ → Bool) (k : Known b rank fronts) where
  -- nobody waits at a priority below the lowest front
  least : (m : ℕ) → has m b.waiting ≡ true → lowest 32 fronts ≤ rank m
  least m h = ⊎_elim
      (λ (l : rank m < lowest 32 fronts).
      let none : fronts (rank m) ≡ false = (lowest_of 32 fronts).below (rank m) l in
      let some : fronts (rank m) ≡ true = k.shown (rank m) (k.within m h) ∙ filled_has rank (rank m) m b.waiting h refl in
      absurd (false≢true (sym none ∙ some)))
      (λ (l : lowest 32 fronts ≤ rank m). l)
      (cases_lt (rank m) (lowest 32 fronts))

  -- no priority has a front
  pub nobody : 32 ≤ lowest 32 fronts → first_in_turn b ≡ None
  nobody h = none_first (eligible b) (priority_of b) b.waiting (λ m i. absurd (let l = least m i in let w = k.within m i in omega arith))

  -- the lowest front is not admitted
  pub not_admitted : admits b.cpu (lowest 32 fronts) ≡ false → first_in_turn b ≡ None
  not_admitted e = none_first (eligible b) (priority_of b) b.waiting
      (λ m i.
      let less : lowest 32 fronts ≤ priority_of b m = let l = least m i in let o = k.own m i in omega arith in
      let no = admits_less b.cpu (lowest 32 fronts) (priority_of b m) less e in
      let w = k.wait m i in rw w no)

  -- the lowest front is admitted
  pub admitted : lowest 32 fronts < 32 → admits b.cpu (lowest 32 fronts) ≡ true → first (of_priority rank (lowest 32 fronts) b.waiting) ≡ first_in_turn b
  admitted h e =
      let same = of_priority_same rank (priority_of b) (lowest 32 fronts) b.waiting k.own in
      let there : filled (of_priority (priority_of b) (lowest 32 fronts) b.waiting) ≡ true =
      ap filled (sym same) ∙ sym (k.shown (lowest 32 fronts) h) ∙ (lowest_of 32 fronts).here h in
      ap first same ∙ sym (front_first (eligible b) (priority_of b) (lowest 32 fronts) b.waiting
      (λ m i. let l = least m i in let o = k.own m i in omega arith)
      (λ m i r. let w = k.wait m i in rw w (ap (admits b.cpu) r ∙ e))
      there)
