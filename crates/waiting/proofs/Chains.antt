-- Chains of links, and what a change of links does to them.
use Rattle.std.proofs.Common.{◌≡◌, ℕ, zero, suc, ◌<◌, ◌≤◌, Bool, true, false, cond, eqb, ◌≢◌, List, [], ◌∷◌, ◌++◌, length, sym, refl, ap, subst, arith}
use Rattle.std.proofs.lemmas.Bool.Decides.{nat_tests}
use Rattle.std.proofs.lemmas.Bool.{false≢true}
use Rattle.interrupt.specs.Lists.{has, without}
use Rattle.waiting.specs.Links.{chained, apart, walk}
use Rattle.waiting.proofs.Lists.{has_push, has_without, without_none}

-- from a, along xs, to b, and back
abbrev pub Chain : (ℕ → ℕ) → (ℕ → ℕ) → ℕ → List ℕ → ℕ → Type 0
Chain N P a [] b = (N a ≡ b) × (P b ≡ a)
Chain N P a (x ∷ xs) b = (N a ≡ x) × (P x ≡ a) × Chain N P x xs b

-- none twice
abbrev pub Apart : List ℕ → Type 0
Apart [] = Unit {0}
Apart (x ∷ xs) = (has x xs ≡ false) × Apart xs

pub chain_from : (N P : ℕ → ℕ) (a : ℕ) (xs : List ℕ) (b : ℕ) → chained N P a xs b ≡ true → Chain N P a xs b
chain_from N P a [] b h = (grind (arith, nat_tests), grind (arith, nat_tests))
chain_from N P a (x ∷ xs) b h = (grind (arith, nat_tests), grind (arith, nat_tests), chain_from N P x xs b (grind (arith, nat_tests)))

pub chain_to : (N P : ℕ → ℕ) (a : ℕ) (xs : List ℕ) (b : ℕ) → Chain N P a xs b → chained N P a xs b ≡ true
chain_to N P a [] b h = grind (arith, nat_tests)
chain_to N P a (x ∷ xs) b h = let ih = chain_to N P x xs b h.2 in let k = h.0 in let l = h.1 in grind (arith, nat_tests)

pub apart_from : (xs : List ℕ) → apart xs ≡ true → Apart xs
apart_from [] h = tt
apart_from (x ∷ xs) h = (grind (arith, nat_tests), apart_from xs (grind (arith, nat_tests)))

pub apart_to : (xs : List ℕ) → Apart xs → apart xs ≡ true
apart_to [] h = refl
apart_to (x ∷ xs) h = let ih = apart_to xs h.1 in let k = h.0 in grind (arith, nat_tests)

pub apart_without : (n : ℕ) (xs : List ℕ) → Apart xs → Apart (without n xs)
apart_without n [] h = tt
apart_without n (x ∷ xs) h = pick (apart_without n xs h.1) (eqb x n)
  where
    pick : Apart (without n xs) → (t : Bool) → Apart (cond t (without n xs) (x ∷ without n xs))
    pick ih true = ih
    pick ih false = (let e = has_without x n xs in let f = h.0 in grind (arith, nat_tests), ih)

pub apart_push : (n : ℕ) (xs : List ℕ) → has n xs ≡ false → Apart xs → Apart (xs ++ n ∷ [])
apart_push n [] f h = (refl, tt)
apart_push n (x ∷ xs) f h =
    (let e = has_push x xs n in let g = h.0 in grind (arith, nat_tests), apart_push n xs (grind (arith, nat_tests)) h.1)

-- places of a chain and their neighbours

-- who is in a chain comes after what comes before it, and before what comes after it
pub record Between (N P : ℕ → ℕ) (n : ℕ) : Type 0 where
  pub back : N (P n) ≡ n
  pub forth : P (N n) ≡ n

module _ (N P : ℕ → ℕ) (b : ℕ) where
  after : (a : ℕ) (xs : List ℕ) → Chain N P a xs b → P (N a) ≡ a
  after a [] l = grind (arith, nat_tests)
  after a (x ∷ xs) l = grind (arith, nat_tests)

  pub between : (n a : ℕ) (xs : List ℕ) → has n xs ≡ true → Chain N P a xs b → Between N P n
  between n a [] f l = absurd (false≢true f)
  between n a (x ∷ xs) f l = pick (λ g. between n x xs g l.2) (eqb x n) refl
    where
      pick : (has n xs ≡ true → Between N P n) → (t : Bool) → eqb x n ≡ t → Between N P n
      pick ih true e =
          let q : x ≡ n = grind (arith, nat_tests) in
          let i = l.0 in let j = l.1 in let r = after x xs l.2 in
          record { back = grind (arith, nat_tests); forth = grind (arith, nat_tests) }
      pick ih false e = ih (grind (arith, nat_tests))

  -- the last of a chain
  pub last_link : (a : ℕ) (xs : List ℕ) → Chain N P a xs b → N (P b) ≡ b
  last_link a [] l = let e = l.0 in let f = l.1 in grind (arith, nat_tests)
  last_link a (x ∷ xs) l = last_link x xs l.2

-- n is taken out: its neighbours are linked to each other

pub record Cut (N P N' P' : ℕ → ℕ) (n : ℕ) : Type 0 where
  pub back : N (P n) ≡ n
  pub forth : P (N n) ≡ n
  pub next : (z : ℕ) → N' z ≡ cond (eqb z (P n)) (N n) (N z)
  pub prev : (w : ℕ) → P' w ≡ cond (eqb w (N n)) (P n) (P w)

module _ (N P N' P' : ℕ → ℕ) (n : ℕ) (c : Cut N P N' P' n) where
  -- a link that neither begins nor ends at n stays
  cut_next : (z w : ℕ) → w ≢ n → N z ≡ w → N' z ≡ w
  cut_next z w d e = let f = c.next z in let g = c.back in grind (arith, nat_tests)

  cut_prev : (z w : ℕ) → z ≢ n → P w ≡ z → P' w ≡ z
  cut_prev z w d e = let f = c.prev w in let g = c.forth in grind (arith, nat_tests)

  pub cut_else : (a : ℕ) (xs : List ℕ) (b : ℕ) → has n xs ≡ false → a ≢ n → b ≢ n → Chain N P a xs b → Chain N' P' a xs b
  cut_else a [] b f u v l = (cut_next a b v l.0, cut_prev a b u l.1)
  cut_else a (x ∷ xs) b f u v l =
      let d : x ≢ n = grind (arith, nat_tests) in
      (cut_next a x d l.0, cut_prev a x u l.1, cut_else x xs b (grind (arith, nat_tests)) d v l.2)

  -- n first: what came after it comes after a
  cut_here : (a : ℕ) (xs : List ℕ) (b : ℕ) → has n xs ≡ false → b ≢ n → P n ≡ a → Chain N P n xs b → Chain N' P' a xs b
  cut_here a [] b f v e l = (let g = c.next a in grind (arith, nat_tests), let g = c.prev b in grind (arith, nat_tests))
  cut_here a (x ∷ xs) b f v e l =
      (let g = c.next a in grind (arith, nat_tests), let g = c.prev x in grind (arith, nat_tests), cut_else x xs b (grind (arith, nat_tests)) (grind (arith, nat_tests)) v l.2)

  pub cut_own : (a : ℕ) (xs : List ℕ) (b : ℕ) → Apart xs → a ≢ n → b ≢ n → has n xs ≡ true → Chain N P a xs b → Chain N' P' a (without n xs) b
  cut_own a [] b p u v h l = absurd (false≢true h)
  cut_own a (x ∷ xs) b p u v h l = pick (λ d g. cut_own x xs b p.1 d v g l.2) (eqb x n) refl
    where
      pick : (x ≢ n → has n xs ≡ true → Chain N' P' x (without n xs) b) → (t : Bool) → eqb x n ≡ t → Chain N' P' a (cond t (without n xs) (x ∷ without n xs)) b
      pick ih true e =
          let g : x ≡ n = grind (arith, nat_tests) in
          let f : has n xs ≡ false = let k = p.0 in grind (arith, nat_tests) in
          let s : Chain N P n xs b = subst (λ (y : ℕ). Chain N P y xs b) g l.2 in
          let r : Chain N' P' a xs b = cut_here a xs b f v (let k = l.1 in grind (arith, nat_tests)) s in
          subst (λ (ys : List ℕ). Chain N' P' a ys b) (sym (without_none n xs f)) r
      pick ih false e =
          let d : x ≢ n = grind (arith, nat_tests) in
          (cut_next a x d l.0, cut_prev a x u l.1, ih d (grind (arith, nat_tests)))

-- n is put in before the place e

pub record Put (N P N' P' : ℕ → ℕ) (n e : ℕ) : Type 0 where
  pub back : N (P e) ≡ e
  pub next : (z : ℕ) → N' z ≡ cond (eqb z n) e (cond (eqb z (P e)) n (N z))
  pub prev : (w : ℕ) → P' w ≡ cond (eqb w e) n (cond (eqb w n) (P e) (P w))

module _ (N P N' P' : ℕ → ℕ) (n e : ℕ) (c : Put N P N' P' n e) where
  put_next : (z w : ℕ) → z ≢ n → w ≢ e → N z ≡ w → N' z ≡ w
  put_next z w d u l = let f = c.next z in let g = c.back in grind (arith, nat_tests)

  put_prev : (z w : ℕ) → w ≢ n → w ≢ e → P w ≡ z → P' w ≡ z
  put_prev z w d u l = let f = c.prev w in grind (arith, nat_tests)

  pub put_else : (a : ℕ) (xs : List ℕ) (b : ℕ) → has n xs ≡ false → has e xs ≡ false → a ≢ n → b ≢ n → b ≢ e → Chain N P a xs b → Chain N' P' a xs b
  put_else a [] b f g u v w l = (put_next a b u w l.0, put_prev a b v w l.1)
  put_else a (x ∷ xs) b f g u v w l =
      let d : x ≢ n = grind (arith, nat_tests) in let k : x ≢ e = grind (arith, nat_tests) in
      (put_next a x u k l.0, put_prev a x d k l.1, put_else x xs b (grind (arith, nat_tests)) (grind (arith, nat_tests)) d v w l.2)

  pub put_own : n ≢ e → (a : ℕ) (xs : List ℕ) → has n xs ≡ false → has e xs ≡ false → a ≢ n → Chain N P a xs e → Chain N' P' a (xs ++ n ∷ []) e
  put_own o a [] f g u l =
      (let k = c.next a in grind (arith, nat_tests), let k = c.prev n in grind (arith, nat_tests), (let k = c.next n in grind (arith, nat_tests), let k = c.prev e in grind (arith, nat_tests)))
  put_own o a (x ∷ xs) f g u l =
      let d : x ≢ n = grind (arith, nat_tests) in let k : x ≢ e = grind (arith, nat_tests) in
      (put_next a x u k l.0, put_prev a x d k l.1, put_own o x xs (grind (arith, nat_tests)) (grind (arith, nat_tests)) d l.2)

-- the walk finds the chain
pub walk_finds : (N P : ℕ → ℕ) (e a : ℕ) (xs : List ℕ) (k : ℕ) → length xs ≤ k → has e xs ≡ false → Chain N P a xs e → walk N e k a ≡ xs
unfolding walk
walk_finds N P e a [] zero b h l = refl
walk_finds N P e a [] (suc k) b h l = let m = l.0 in grind (arith, nat_tests)
walk_finds N P e a (x ∷ xs) zero b h l = absurd (omega arith)
walk_finds N P e a (x ∷ xs) (suc k) b h l =
    let m = l.0 in let ih = walk_finds N P e x xs k (omega arith) (grind (arith, nat_tests)) l.2 in
    rw m (let d : eqb x e ≡ false = grind (arith, nat_tests) in rw d (ap (λ (ys : List ℕ). x ∷ ys) ih))

-- numbers below m, none twice, are at most m

length_without : (n : ℕ) (xs : List ℕ) → Apart xs → length xs ≤ suc (length (without n xs))
length_without n [] p = omega arith
length_without n (x ∷ xs) p = pick (length_without n xs p.1) (eqb x n) refl
  where
    pick : length xs ≤ suc (length (without n xs)) → (t : Bool) → eqb x n ≡ t → length (x ∷ xs) ≤ suc (length (cond t (without n xs) (x ∷ without n xs)))
    pick ih true e =
        let f : has n xs ≡ false = let k = p.0 in grind (arith, nat_tests) in
        let g = ap length (without_none n xs f) in omega arith
    pick ih false e = omega arith

pub few : (m : ℕ) (xs : List ℕ) → Apart xs → ((x : ℕ) → has x xs ≡ true → x < m) → length xs ≤ m
few zero [] p h = omega arith
few zero (x ∷ xs) p h = absurd (let k = h x (grind (arith, nat_tests)) in omega arith)
few (suc m) xs p h =
    let ih = few m (without m xs) (apart_without m xs p) (λ x e. let f = h x in let g = has_without x m xs in grind (arith, nat_tests)) in
    let l = length_without m xs p in omega arith
