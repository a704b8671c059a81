-- The first fault: none so far, one more good place, the first bad one, and of two the first.
use Rattle.std.proofs.Common.{◌≡◌, ℕ, zero, suc, ◌+◌, ◌<◌, ◌≤◌, IsErrAnd, Some, None, Ok, Err, Option, Result, refl, ⊎_elim, add-one, arith}
use Rattle.std.specs.Option.{option_map}
use Rattle.std.specs.Result.{result_err}
use Rattle.std.proofs.lemmas.Bool.{cases_lt}
use Rattle.fault.specs.declared.Fault.{Fault}
use Rattle.fault.specs.Faults.{◌else◌, first_fault}

pub first_none : (f : ℕ → Option Fault) → first_fault 0 f ≡ None
unfolding first_fault
first_none f = refl

pub first_more : (n : ℕ) (f : ℕ → Option Fault) → first_fault n f ≡ None → f n ≡ None → first_fault (n + 1) f ≡ None
unfolding first_fault
first_more n f a b = rw (add-one, a) b

-- the first fault of a front is that of the whole
pub first_front : (k n : ℕ) (f : ℕ → Option Fault) (x : Fault) → k ≤ n → first_fault k f ≡ Some x → first_fault n f ≡ Some x
unfolding first_fault
first_front k zero f x h e = let z : k ≡ 0 = omega arith in rw z at e
first_front k (suc n) f x h e =
    ⊎_elim (λ (l : k < suc n). rw (first_front k n f x (omega arith) e)) (λ (l : suc n ≤ k). let z : k ≡ suc n = omega arith in rw z at e) (cases_lt k (suc n))

-- the first bad place after good ones
pub first_bad : (k n : ℕ) (f : ℕ → Option Fault) (x : Fault) → k < n → first_fault k f ≡ None → f k ≡ Some x → first_fault n f ≡ Some x
unfolding first_fault
first_bad k n f x h a b = first_front (suc k) n f x (omega arith) (rw a b)

-- no fault of two, and none at the places below n

pub else_none : (a b : Option Fault) → (a else b) ≡ None → (a ≡ None) × (b ≡ None)
else_none None b e = (refl, e)
else_none (Some f) b e = absurd (let z : ◌≡◌ {A = ℕ} 0 1 = cc in omega arith)

pub first_all : (k n : ℕ) (f : ℕ → Option Fault) → first_fault n f ≡ None → k < n → f k ≡ None
unfolding first_fault
first_all k zero f e h = absurd (omega arith)
first_all k (suc n) f e h =
    let p = else_none (first_fault n f) (f n) e in
    ⊎_elim (λ (l : k < n). first_all k n f p.0 l) (λ (l : n ≤ k). let z : k ≡ n = omega arith in rw z p.1) (cases_lt k n)

-- the exit of a loop over the places at the first bad one, whose fault goes by `of`
pub first_exit : {A E : Type 0} (of : E → Fault) (k n : ℕ) (f : ℕ → Option Fault) (e : E) (r : Result A E) → k < n → first_fault k f ≡ None → f k ≡ Some (of e) → IsErrAnd r (λ y. y ≡ e) → first_fault n f ≡ option_map of (result_err r)
first_exit of k n f e (Ok a) h p q z = absurd z
first_exit of k n f e (Err y) h p q z = rw z (first_bad k n f (of e) h p q)
