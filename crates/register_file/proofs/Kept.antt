-- What a change of a register leaves of a well-formed device.
use Rattle.std.proofs.Common.{◌≡◌, ℕ, Bool, true, false, cond, eqb, sym, refl, ap, ◌∙◌, arith}
use Rattle.std.proofs.lemmas.Bool.{eqb-true}
use Rattle.std.proofs.lemmas.Bool.Decides.{nat_tests}
use Rattle.interrupt.specs.Sets.{put}
use Rattle.list_register.specs.declared.state.State.{State}
use Rattle.list_register.specs.declared.state.State.TheVariants.{Empty, Pending, Active, Both}
use Rattle.list_register.specs.Entries.{Entry, nothing, is_valid, is_pending, with_state, holds, twins}
use Rattle.list_register.specs.Meaning.{Apart}
use Rattle.register_file.specs.Registers.{Alone}

turned : (d e : Entry) → twins d e ≡ true → twins e d ≡ true
turned d e h = grind (arith, nat_tests)

-- e is written to register k
pub apart_put : (k : ℕ) (e : Entry) (at : ℕ → Entry) → Alone k e at → Apart at → Apart (put k e at)
apart_put k e at alone apart i j = go (eqb i k) refl (eqb j k) refl
  where
    go : (s : Bool) → eqb i k ≡ s → (t : Bool) → eqb j k ≡ t → twins (cond s e (at i)) (cond t e (at j)) ≡ true → i ≡ j
    go true a true b h = eqb-true i k a ∙ sym (eqb-true j k b)
    go true a false b h = eqb-true i k a ∙ sym (alone j h)
    go false a true b h = alone i (turned (at i) e h) ∙ sym (eqb-true j k b)
    go false a false b h = apart i j h

-- where the number stays, and the register is valid only if it was
alone_kept : (k : ℕ) (e : Entry) (at : ℕ → Entry) → Apart at → e.number ≡ (at k).number → (is_valid e.state ≡ true → is_valid (at k).state ≡ true) → Alone k e at
alone_kept k e at apart same was j h =
    let v : is_valid e.state ≡ true = grind (arith, nat_tests) in
    let w = was v in
    apart j k (turned (at k) (at j) (let t : holds (at k).number (at j) ≡ true = ap (λ (n : ℕ). holds n (at j)) (sym same) ∙ (rw v at h) in rw w t))

-- and so where a register goes to another state, and an empty one to none
pub alone_with_state : (k : ℕ) (s : State) (at : ℕ → Entry) → Apart at → (is_valid s ≡ true → is_valid (at k).state ≡ true) → Alone k (with_state s (at k)) at
alone_with_state k s at apart was = alone_kept k (with_state s (at k)) at apart refl was

pub valid_pending : (s : State) → is_pending s ≡ true → is_valid s ≡ true
valid_pending Empty h = h
valid_pending Pending h = refl
valid_pending Active h = refl
valid_pending Both h = refl

-- new registers
pub apart_new : (at : ℕ → Entry) → at ≡ (λ _. nothing) → Apart at
apart_new at e j k h = absurd (let f : twins (at j) (at k) ≡ false = ap (λ (g : ℕ → Entry). twins (g j) (g k)) e in let z : ◌≡◌ {A = ℕ} 0 1 = cc in omega arith)
