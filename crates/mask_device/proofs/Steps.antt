-- The entries and the pending sets stay in step.
use Rattle.std.proofs.Common.{◌≡◌, ℕ, ◌<◌, ◌≤◌, Bool, true, false, cond, eqb, Some, None, Option, sym, refl, ap, ◌∙◌, ⊎_elim, arith, MatchOption}
use Rattle.std.proofs.lemmas.Bool.{cases_lt}
use Rattle.interrupt.specs.Cpu.{first_admitted}
use Rattle.interrupt.specs.Sets.{put, some}
use Rattle.interrupt.proofs.Ids.{id_below}
use Rattle.interrupt.proofs.Lowest.{some_none, some_not}
use Rattle.list_register.specs.Entries.{Entry, nothing}
use Rattle.list_register.specs.Meaning.{Ends}
use Rattle.register_file.specs.Registers.{pending_entry, pending_at}
use Rattle.register_file.specs.Picking.{Chosen}
use Rattle.register_file.proofs.Lines.{Levels, chosen}
use Rattle.register_file.proofs.Entries.{ends, in_range}
use Rattle.mask_device.specs.declared.device.MaskDevice.{MaskDevice}
use Rattle.mask_device.specs.Meaning.{Above, mask_device}
use Rattle.mask_device.specs.Highest.{Highest}
use Rattle.mask_device.specs.Pending.{pending_in}
use Rattle.mask_device.specs.Step.{InStep}

-- new registers
pub steps_new : (at : ℕ → Entry) (sets : ℕ → ℕ → Bool) → at ≡ (λ _. nothing) → ((p k : ℕ) → sets p k ≡ false) → InStep at sets
steps_new at sets e f p k h = f p k ∙ sym (ap (λ (g : ℕ → Entry). pending_entry (g k) p) e)

-- register k leaves its set and enters another
pub steps_put : (k : ℕ) (new : Entry) (at : ℕ → Entry) (before between after : ℕ → ℕ → Bool) → InStep at before →
    ((p j : ℕ) → between p j ≡ cond (eqb j k) false (before p j)) → ((p j : ℕ) → after p j ≡ cond (eqb j k) (pending_entry new p) (between p j)) → InStep (put k new at) after
steps_put k new at before between after steps left entered p j h = entered p j ∙ go (eqb j k) refl
  where
    go : (t : Bool) → eqb j k ≡ t → cond t (pending_entry new p) (between p j) ≡ pending_entry (cond t new (at j)) p
    go true e = refl
    go false e = left p j ∙ (rw e (steps p j h))

-- by the sets, at which priorities registers are pending
pub levels_of : (n : ℕ) (at : ℕ → Entry) (sets : ℕ → ℕ → Bool) (levels : ℕ → Bool) → n ≤ 64 → Ends n at → ((k : ℕ) → (at k).priority < 32) → InStep at sets → ((p : ℕ) → p < 32 → levels p ≡ some 64 (sets p)) → Levels n at levels
levels_of n at sets levels l ends within steps summed = record { shown = λ p h. summed p h ∙ same p (some n (pending_at at p)) refl; within = within }
  where
    past : (p k : ℕ) → n ≤ k → pending_entry (at k) p ≡ false
    past p k h = ap (λ (e : Entry). pending_entry e p) (ends k h)

    each : (p k : ℕ) → k < 64 → some n (pending_at at p) ≡ false → sets p k ≡ false
    each p k h e = steps p k h ∙ ⊎_elim (λ (i : k < n). some_not n (pending_at at p) e k i) (λ (i : n ≤ k). past p k i) (cases_lt k n)

    same : (p : ℕ) (t : Bool) → some n (pending_at at p) ≡ t → some 64 (sets p) ≡ t
    same p false e = some_none 64 (sets p) (λ k h. each p k h e)
    same p true e = go (some 64 (sets p)) refl
      where
        go : (t : Bool) → some 64 (sets p) ≡ t → t ≡ true
        go true f = refl
        go false f = absurd (let none = some_none n (pending_at at p) (λ k h. sym (steps p k (omega arith)) ∙ some_not 64 (sets p) f k (omega arith)) in let z : ◌≡◌ {A = ℕ} 0 1 = cc in omega arith)

-- the same of a device
pub levels_in : (d : MaskDevice) (levels : ℕ → Bool) → ((p : ℕ) → p < 32 → levels p ≡ some 64 (pending_in d.pending p)) → Levels d.registers.count (mask_device d).at levels
levels_in d levels summed =
    levels_of d.registers.count (mask_device d).at (pending_in d.pending) levels d.registers.most (ends d.registers)
    (λ k. (in_range d.registers (λ e. record { priority = e.priority.known; number = id_below e.id }) k).priority) d.step summed

-- the highest register that is pending at the first admitted priority
pub chosen_in : (d : MaskDevice) (levels : ℕ → Bool) (p : ℕ) (o : Option ℕ) → ((p : ℕ) → p < 32 → levels p ≡ some 64 (pending_in d.pending p)) → first_admitted (mask_device d).cpu levels ≡ Some p →
    Highest (pending_in d.pending p) o → Chosen Above (mask_device d) o
chosen_in d levels p o summed e f = chosen Above (mask_device d) levels p o (levels_in d levels summed) e (go o f)
  where
    inside : (k : ℕ) → pending_entry ((mask_device d).at k) p ≡ true → k < d.registers.count
    inside k h = ⊎_elim (λ (l : k < d.registers.count). l)
        (λ (l : d.registers.count ≤ k). absurd (let n = ap (λ (e : Entry). pending_entry e p) (ends d.registers k l) in let z : ◌≡◌ {A = ℕ} 0 1 = cc in omega arith)) (cases_lt k d.registers.count)

    go : (o : Option ℕ) → Highest (pending_in d.pending p) o →
        MatchOption o ((k : ℕ) → k < d.registers.count → pending_at (mask_device d).at p k ≡ false) (λ k. (k < d.registers.count) × (pending_at (mask_device d).at p k ≡ true) × ((j : ℕ) → j < d.registers.count → pending_at (mask_device d).at p j ≡ true → j ≤ k))
    go None none = λ k l. sym (d.step p k (let m = d.registers.most in omega arith)) ∙ none k
    go (Some k) found = let h = sym (d.step p k found.0) ∙ found.1 in (inside k h, h, λ j l g. ⊎_elim (λ (u : k < j). absurd (let f = found.2 j u in let s = d.step p j (let m = d.registers.most in omega arith) in let z : ◌≡◌ {A = ℕ} 0 1 = cc in omega arith)) (λ (u : j ≤ k). u) (cases_lt k j))
