-- What the steps do to each ring.
use Rattle.std.proofs.Common.{◌≡◌, ℕ, ◌<◌, ◌≤◌, Bool, true, false, cond, eqb, ◌≢◌, List, [], ◌∷◌, ◌++◌, Some, None, Option, sym, refl, ap, ◌∙◌, subst, arith, MatchOption}
use Rattle.std.proofs.lemmas.Bool.Decides.{nat_tests}
use Rattle.std.specs.Option.{option_map}
use Rattle.interrupt.specs.Lists.{has, without, first}
use Rattle.interrupt.specs.Meaning.{id_of}
use Rattle.interrupt.specs.Sets.{put}
use Rattle.interrupt.specs.declared.id.InterruptId.{InterruptId}
use Rattle.waiting.specs.Links.{next_of, prev_of, ring, Linked, Once, Named}
use Rattle.waiting.specs.Places.{interrupts, places, end_of}
use Rattle.waiting.specs.Rings.{ring_list}
use Rattle.waiting.specs.declared.links.Links.{Links}
use Rattle.waiting.specs.declared.rings.Rings.{Rings}
use Rattle.waiting.proofs.Lists.{has_push, has_without, without_none}
use Rattle.waiting.proofs.Chains.{Chain, Apart, chain_from, chain_to, apart_from, apart_to, apart_without, apart_push, between, last_link, Cut, cut_else, cut_own, Put, put_else, put_own, walk_finds, few}

-- xs is the ring p
pub record Ring (N P : ℕ → ℕ) (p : ℕ) (xs : List ℕ) : Type 0 where
  pub linked : Chain N P (end_of p) xs (end_of p)
  pub apart : Apart xs
  pub named : (x : ℕ) → has x xs ≡ true → x < interrupts

-- each of the rings is as q says
abbrev pub Each : Links → (ℕ → List ℕ) → Type 0
Each l q = (p : ℕ) → p < 32 → Ring (next_of l) (prev_of l) p (q p)

-- an end is in no ring
no_end : (N P : ℕ → ℕ) (p : ℕ) (xs : List ℕ) → Ring N P p xs → (q : ℕ) → has (end_of q) xs ≡ false
no_end N P p xs r q = pick (has (end_of q) xs) refl
  where
    pick : (t : Bool) → has (end_of q) xs ≡ t → t ≡ false
    pick true e = absurd (let h = r.named (end_of q) e in omega arith)
    pick false e = refl

-- the walk finds the ring
pub found : (N P : ℕ → ℕ) (p : ℕ) (xs : List ℕ) → Ring N P p xs → ring N p ≡ xs
found N P p xs r =
    walk_finds N P (end_of p) (end_of p) xs interrupts (few interrupts xs r.apart r.named) (no_end N P p xs r p) r.linked

-- the ghost fields of the rings

pub each : (s : Rings) → Each s.links (ring_list s)
each s p h =
    record { linked = chain_from _ _ _ _ _ (s.linked p h); apart = apart_from _ (s.once p h); named = s.named p h }

abbrev pub Sound : Links → Type 0
Sound l = Linked l × Once l × Named l

pub sound : (l : Links) (q : ℕ → List ℕ) → Each l q → Sound l
sound l q r = (λ p h. chain_to _ _ _ _ _ (here p h).linked, λ p h. apart_to _ (here p h).apart, λ p h. (here p h).named)
  where
    here : Each l (ring (next_of l))
    here p h = subst (λ (xs : List ℕ). Ring (next_of l) (prev_of l) p xs) (sym (found _ _ p (q p) (r p h))) (r p h)

-- no one is in any ring
pub none : (l : Links) → ((i : ℕ) → i < places → next_of l i ≡ i) → ((i : ℕ) → i < places → prev_of l i ≡ i) → Each l (λ _. [])
none l a b p h =
    record { linked = (a (end_of p) (omega arith), b (end_of p) (omega arith)); apart = tt; named = λ x e. grind (arith, nat_tests) }

-- n leaves the ring that it is in

left_ring : (N P N' P' : ℕ → ℕ) (n : ℕ) → n < interrupts → Cut N P N' P' n → (p : ℕ) (xs : List ℕ) → Ring N P p xs → Ring N' P' p (without n xs)
left_ring N P N' P' n b c p xs r =
    record { linked = pick (has n xs) refl; apart = apart_without n xs r.apart; named = λ x e. r.named x (let w = has_without x n xs in grind (arith, nat_tests)) }
  where
    pick : (t : Bool) → has n xs ≡ t → Chain N' P' (end_of p) (without n xs) (end_of p)
    pick true g = cut_own N P N' P' n c (end_of p) xs (end_of p) r.apart (omega arith) (omega arith) g r.linked
    pick false g =
        subst (λ (ys : List ℕ). Chain N' P' (end_of p) ys (end_of p)) (sym (without_none n xs g))
        (cut_else N P N' P' n c (end_of p) xs (end_of p) g (omega arith) (omega arith) r.linked)

-- n is in some ring
abbrev pub In : Rings → ℕ → Type 0
In s n = (q : ℕ) × (q < 32) × (has n (ring_list s q) ≡ true)

-- as the code does it: its neighbours are linked to each other
pub left_rings : (s : Rings) (l : Links) (n : ℕ) → n < interrupts → In s n → (b a : ℕ) → b ≡ prev_of s.links n → a ≡ next_of s.links n →
    next_of l ≡ put b a (next_of s.links) → prev_of l ≡ put a b (prev_of s.links) → Each l (λ p. without n (ring_list s p))
left_rings s l n named i b a e f g k p h =
    let N = next_of s.links in let P = prev_of s.links in
    let t = between N P (end_of i.0) n (end_of i.0) _ i.2 (each s i.0 i.1).linked in
    left_ring N P (next_of l) (prev_of l) n named
    (record {
      back = t.back;
      forth = t.forth;
      next = λ z. rw g (rw e (rw f));
      prev = λ z. rw k (rw e (rw f));
    })
    p (ring_list s p) (each s p h)

-- n, which is in no ring, joins ring q

joined_ring : (N P N' P' : ℕ → ℕ) (n q : ℕ) → n < interrupts → Put N P N' P' n (end_of q) → (p : ℕ) (xs : List ℕ) → has n xs ≡ false → Ring N P p xs → Ring N' P' p (cond (eqb p q) (xs ++ n ∷ []) xs)
joined_ring N P N' P' n q b c p xs f r = pick (eqb p q) refl
  where
    pick : (t : Bool) → eqb p q ≡ t → Ring N' P' p (cond t (xs ++ n ∷ []) xs)
    pick true g =
        let i : q ≡ p = grind (arith, nat_tests) in
        let d : Put N P N' P' n (end_of p) = subst (λ (v : ℕ). Put N P N' P' n (end_of v)) i c in
        record {
          linked = put_own N P N' P' n (end_of p) d (omega arith) (end_of p) xs f (no_end N P p xs r p) (omega arith) r.linked;
          apart = apart_push n xs f r.apart;
          named = λ x e. let w = has_push x xs n in let m = r.named x in grind (arith, nat_tests);
        }
    pick false g =
        let i : p ≢ q = grind (arith, nat_tests) in
        record {
          linked = put_else N P N' P' n (end_of q) c (end_of p) xs (end_of p) f (no_end N P p xs r q) (omega arith) (omega arith) (omega arith) r.linked;
          apart = r.apart;
          named = r.named;
        }

-- as the code does it: linked after the last of ring q, and before its end
pub joined_rings : (s : Rings) (k l : Links) (n q : ℕ) → n < interrupts → q < 32 → ((p : ℕ) → p < 32 → has n (ring_list s p) ≡ false) →
    (m e b : ℕ) → m ≡ n → e ≡ end_of q → b ≡ prev_of s.links e →
    next_of k ≡ put b m (next_of s.links) → prev_of k ≡ put m b (prev_of s.links) → next_of l ≡ put m e (next_of k) → prev_of l ≡ put e m (prev_of k) →
    Each l (λ p. cond (eqb p q) (ring_list s p ++ n ∷ []) (ring_list s p))
joined_rings s k l n q named h f m e b i j v kn kp ln lp p o =
    let N = next_of s.links in let P = prev_of s.links in
    joined_ring N P (next_of l) (prev_of l) n q named
    (record {
      back = last_link N P (end_of q) (end_of q) _ (each s q h).linked;
      next = λ z. rw ln (rw kn (rw v (rw i (rw j))));
      prev = λ z. rw lp (rw kp (rw v (rw i (rw j))));
    })
    p (ring_list s p) (f p o) (each s p o)

-- the first in ring q

first_named : (N P : ℕ → ℕ) (a : ℕ) (xs : List ℕ) (b : ℕ) → Chain N P a xs b → interrupts ≤ b → ((x : ℕ) → has x xs ≡ true → x < interrupts) → (o : Option InterruptId) → MatchOption o (interrupts ≤ N a) (λ i. (N a < interrupts) × (id_of i ≡ N a)) → option_map id_of o ≡ first xs
first_named N P a [] b l u h None o = refl
first_named N P a [] b l u h (Some i) o = absurd (let e = l.0 in let f = o.0 in omega arith)
first_named N P a (x ∷ xs) b l u h None o = absurd (let e = l.0 in let f = h x (grind (arith, nat_tests)) in omega arith)
first_named N P a (x ∷ xs) b l u h (Some i) o = ap Some (o.1 ∙ l.0)

pub front_is : (s : Rings) (q : ℕ) → q < 32 → (o : Option InterruptId) → MatchOption o (interrupts ≤ next_of s.links (end_of q)) (λ i. (next_of s.links (end_of q) < interrupts) × (id_of i ≡ next_of s.links (end_of q))) → option_map id_of o ≡ first (ring_list s q)
front_is s q h o c =
    let r = each s q h in
    first_named (next_of s.links) (prev_of s.links) (end_of q) (ring_list s q) (end_of q) r.linked (omega arith) r.named o c
