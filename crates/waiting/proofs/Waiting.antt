-- What joining and leaving do to the waiting order.
use Rattle.std.proofs.Common.{◌≡◌, ℕ, zero, suc, ◌<◌, Bool, true, false, cond, ◌&&◌, eqb, List, [], ◌∷◌, ◌++◌, length, set, replicate, is_some, Some, None, Option, sym, refl, ap, ◌∙◌, arith, length-set}
use Rattle.std.proofs.lemmas.Bool.Decides.{nat_tests}
use Rattle.interrupt.specs.Lists.{has, without, those}
use Rattle.interrupt.specs.Meaning.{id_of}
use Rattle.interrupt.specs.Sets.{put}
use Rattle.interrupt.specs.declared.id.InterruptId.{InterruptId}
use Rattle.interrupt.specs.declared.priority.Priority.{Priority}
use Rattle.waiting.specs.Levels.{level_of, given, level_at}
use Rattle.waiting.specs.Places.{interrupts}
use Rattle.waiting.specs.Order.{waiting_list, waits_at}
use Rattle.waiting.specs.Queues.{queue}
use Rattle.waiting.specs.Rings.{ring_list}
use Rattle.waiting.specs.declared.order.WaitingOrder.{WaitingOrder}
use Rattle.waiting.specs.declared.queues.Queues.{Queues}
use Rattle.waiting.specs.declared.rings.Rings.{Rings}
use Rattle.waiting.proofs.Tables.{column, read_at, read_set}
use Rattle.waiting.proofs.Lists.{has_push, has_without, has_those, without_none, of_priority_push, of_priority_without}

-- the priorities

pub level_below : (o : Option Priority) → is_some o ≡ true → level_of o < 32
level_below None h = absurd (let z : ◌≡◌ {A = ℕ} 0 1 = cc in omega arith)
level_below (Some p) h = p.known

-- what the code leaves at the place i of an interrupt where it writes o there
module _ (w : WaitingOrder) (id : InterruptId) (i : ℕ) (o : Option Priority) (same : i ≡ id_of id) where
  written : {B : Type 0} → (f : Option Priority → B) → column f (set w.priorities i o) None ≡ put (id_of id) (f o) (column f w.priorities None)
  written f = let h = id.named in let l = w.sized in read_set f w.priorities (id_of id) i o None same (omega arith)

  pub level_written : (m : ℕ) → level_at (set w.priorities i o) m ≡ cond (eqb m (id_of id)) (level_of o) (level_at w.priorities m)
  level_written m = ap (λ (f : ℕ → ℕ). f m) (written level_of)

  given_written : (m : ℕ) → given (set w.priorities i o) m ≡ cond (eqb m (id_of id)) (is_some o) (given w.priorities m)
  given_written m = ap (λ (f : ℕ → Bool). f m) (written is_some)

-- the ghost fields, of arrivals a, queues q and priorities ps
abbrev pub Kept : Rings → Queues → List (Option Priority) → Type 0
Kept a q ps =
    ((p : ℕ) → p < 31 → ring_list a (suc p) ≡ []) × ((p : ℕ) → p < 32 → queue q p ≡ those (λ m. eqb (level_at ps m) p) (ring_list a 0)) × ((m : ℕ) → has m (ring_list a 0) ≡ given ps m) × (length ps ≡ interrupts)

-- no one waits

given_none : (k m : ℕ) → given (replicate k None) m ≡ false
given_none zero m = refl
given_none (suc k) zero = refl
given_none (suc k) (suc m) = given_none k m

pub none_kept : (a : Rings) (q : Queues) → ((p : ℕ) → p < 32 → ring_list a p ≡ []) → ((p : ℕ) → p < 32 → queue q p ≡ []) → Kept a q (replicate interrupts None)
none_kept a q b c = (
  λ p h. b (suc p) (omega arith),
  λ p h. c p h ∙ sym (ap (those (λ m. eqb (level_at (replicate interrupts None) m) p)) (b 0 (omega arith))),
  λ m. ap (has m) (b 0 (omega arith)) ∙ sym (given_none interrupts m),
  refl,
)

-- who is in which queue

pub has_queue : (w : WaitingOrder) (n p : ℕ) → p < 32 → has n (queue w.queues p) ≡ (eqb (waits_at w n) p && has n (waiting_list w))
unfolding waiting_list waits_at
has_queue w n p h =
    ap (has n) (w.parted p h) ∙ has_those (λ m. eqb (level_at w.priorities m) p) n (ring_list w.arrivals 0)

-- an interrupt that does not wait joins at the priority r

pub in_no_ring : (w : WaitingOrder) (n : ℕ) → has n (waiting_list w) ≡ false → (p : ℕ) → p < 32 → has n (ring_list w.arrivals p) ≡ false
unfolding waiting_list
in_no_ring w n f zero h = f
in_no_ring w n f (suc p) h = ap (has n) (w.single p (omega arith))

pub append_kept : (w : WaitingOrder) (id : InterruptId) (r : Priority) (i : ℕ) (a : Rings) (q : Queues) → i ≡ id_of id → has (id_of id) (waiting_list w) ≡ false → ((p : ℕ) → p < 32 → ring_list a p ≡ cond (eqb p 0) (ring_list w.arrivals p ++ id_of id ∷ []) (ring_list w.arrivals p)) → ((p : ℕ) → p < 32 → queue q p ≡ cond (eqb p r.level) (queue w.queues p ++ id_of id ∷ []) (queue w.queues p)) → Kept a q (set w.priorities i (Some r))
unfolding waiting_list
append_kept w id r i a q e fresh b c = (
  λ p h. let k = b (suc p) (omega arith) in let j = w.single p h in grind (arith, nat_tests),
  λ p h.
      c p h ∙ ap (λ (xs : List ℕ). cond (eqb p r.level) (xs ++ id_of id ∷ []) xs) (w.parted p h)
      ∙ sym (ap (those (λ m. eqb (level_at (set w.priorities i (Some r)) m) p)) (b 0 (omega arith)) ∙ of_priority_push (level_at w.priorities) (level_at (set w.priorities i (Some r))) p (ring_list w.arrivals 0) (id_of id) r.level fresh (level_written w id i (Some r) e)),
  λ m. let x = has_push m (ring_list w.arrivals 0) (id_of id) in let z = given_written w id i (Some r) e m in let k = b 0 (omega arith) in let j = w.noted m in grind (arith, nat_tests),
  rw length-set w.sized,
)

-- an interrupt that waits leaves

pub take_out_kept : (w : WaitingOrder) (id : InterruptId) (i : ℕ) (a : Rings) (q : Queues) → i ≡ id_of id → ((p : ℕ) → p < 32 → ring_list a p ≡ without (id_of id) (ring_list w.arrivals p)) → ((p : ℕ) → p < 32 → queue q p ≡ without (id_of id) (queue w.queues p)) → Kept a q (set w.priorities i None)
take_out_kept w id i a q e b c = (
  λ p h. b (suc p) (omega arith) ∙ ap (without (id_of id)) (w.single p h),
  λ p h.
      c p h ∙ ap (without (id_of id)) (w.parted p h)
      ∙ sym (ap (those (λ m. eqb (level_at (set w.priorities i None) m) p)) (b 0 (omega arith)) ∙ of_priority_without (level_at w.priorities) (level_at (set w.priorities i None)) p (ring_list w.arrivals 0) (id_of id) (λ m u. let v = level_written w id i None e m in grind (arith, nat_tests))),
  λ m. let x = has_without m (id_of id) (ring_list w.arrivals 0) in let z = given_written w id i None e m in let k = ap (has m) (b 0 (omega arith)) in let j = w.noted m in grind (arith, nat_tests),
  rw length-set w.sized,
)

-- what the calls of the waiting order go by
pub ruleset order_laws = (without_none, read_at, level_below, level_written, has_queue, in_no_ring)
