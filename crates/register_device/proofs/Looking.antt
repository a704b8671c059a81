-- Registers looked at one by one.
use Rattle.std.proofs.Common.{◌≡◌, ℕ, ◌+◌, Bool, true, false, cond, ◌||◌, eqb, sym, refl, ap, ◌∙◌, arith}
use Rattle.std.proofs.lemmas.Bool.Decides.{nat_tests}
use Rattle.interrupt.specs.Sets.{put, some}
use Rattle.interrupt.proofs.Lowest.{some_more}
use Rattle.list_register.specs.Entries.{Entry, is_pending}
use Rattle.register_file.specs.Registers.{pending_entry, pending_at}

-- register k, which holds e, is pending
pub levels_then : (k p : ℕ) (levels after : ℕ → Bool) (at : ℕ → Entry) (e : Entry) → at k ≡ e → is_pending e.state ≡ true → after ≡ put e.priority true levels →
    levels p ≡ some k (pending_at at p) → after p ≡ some (k + 1) (pending_at at p)
levels_then k p levels after at e same pending added ih =
    ap (λ (f : ℕ → Bool). f p) added ∙ ap (λ (t : Bool). cond (eqb p e.priority) true t) ih ∙ go (some k (pending_at at p)) (eqb p e.priority) refl
    ∙ sym (some_more k (pending_at at p) ∙ ap (λ (d : Entry). some k (pending_at at p) || pending_entry d p) same)
  where
    go : (s t : Bool) → eqb p e.priority ≡ t → cond t true s ≡ (s || pending_entry e p)
    go true true h = refl
    go true false h = refl
    go false true h = let g : eqb e.priority p ≡ true = grind (arith, nat_tests) in sym (rw pending g)
    go false false h = let g : eqb e.priority p ≡ false = grind (arith, nat_tests) in sym (rw pending g)

-- it is not
pub levels_else : (k p : ℕ) (levels : ℕ → Bool) (at : ℕ → Entry) (e : Entry) → at k ≡ e → is_pending e.state ≡ false → levels p ≡ some k (pending_at at p) → levels p ≡ some (k + 1) (pending_at at p)
levels_else k p levels at e same idle ih =
    ih ∙ go (some k (pending_at at p)) ∙ sym (some_more k (pending_at at p) ∙ ap (λ (d : Entry). some k (pending_at at p) || pending_entry d p) same ∙ (rw idle refl))
  where
    go : (s : Bool) → s ≡ (s || false)
    go true = refl
    go false = refl
