-- The records of a section that are still to come.
use Rattle.std.proofs.Common.{◌≡◌, ℕ, ◌+◌, ◌-◌, zero, suc, List, ◌∷◌, ◌++◌, map, None, Some, Option, refl, ap, ◌∙◌}
use Rattle.std.specs.Option.{option_map, option_to_list}
use Rattle.trace.specs.declared.placed.Placed.{Placed}
use Rattle.trace.specs.declared.section.Section.{Section}
use Rattle.records.specs.Bytes.{record_at, held_by}
use Rattle.trace.specs.Opening.{place}
use Rattle.trace.specs.Walking.{held_next, placed_at, left}
use Rattle.trace.proofs.Held.{held_all}

-- what one record holds and then others, without their places
one : {A : Type 0} (place : ℕ) (o : Option A) (ps : List (Placed A)) (vs : List A) → map (λ p. p.value) ps ≡ vs →
    map (λ p. p.value) (option_to_list (option_map (λ v. record { place = place; value = v }) o) ++ ps) ≡ option_to_list o ++ vs
one place None ps vs e = e
one place (Some v) ps vs e = ap (λ (xs : List _). v ∷ xs) e

-- what records hold, without their places
values : {A : Type 0} (held : List ℕ → Option A) (file : List ℕ) (s : Section) (m k : ℕ) →
    map (λ p. p.value) (held_next m k (placed_at held file s)) ≡ held_next m k (λ i. held (record_at file (place s i)))
unfolding held_next
values held file s zero k = refl
values held file s (suc m) k = one (place s k) (held (record_at file (place s k))) (held_next m (k + 1) (placed_at held file s)) (held_next m (k + 1) (λ i. held (record_at file (place s i)))) (values held file s m (k + 1))

pub all_values : {A : Type 0} (held : List ℕ → Option A) (file : List ℕ) (s : Section) → map (λ p. p.value) (left held file s 0) ≡ held_by s.count (λ k. held (record_at file (place s k)))
all_values held file s = values held file s (s.count - 0) 0 ∙ held_all s.count (λ k. held (record_at file (place s k)))
