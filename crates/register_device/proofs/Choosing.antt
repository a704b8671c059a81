-- What is found among the words of the list registers, told of the device.
use Rattle.std.proofs.Common.{◌≡◌, ℕ, ◌<◌, ◌≤◌, Bool, true, false, List, length, position, take, Some, None, Option, subst, ⊎_elim, arith, MatchOption}
use Rattle.std.proofs.lemmas.Bool.{cases_lt}
use Rattle.interrupt.specs.Cpu.{first_admitted}
use Rattle.interrupt.specs.Sets.{some}
use Rattle.list_register.specs.Entries.{Entry}
use Rattle.register_file.specs.Picking.{Chosen}
use Rattle.register_file.specs.Registers.{entries_of, pending_entry, pending_at}
use Rattle.register_file.proofs.Lines.{Levels, chosen}
use Rattle.register_file.proofs.Entries.{in_range}
use Rattle.register_file.proofs.Places.{First, first_at}
use Rattle.layout.specs.declared.list_word.ListWord.{ListWord}
use Rattle.register_device.specs.declared.device.RegisterDevice.{RegisterDevice}
use Rattle.register_device.specs.Meaning.{Below, register_device}
use Rattle.register_device.specs.Words.{held_in}
use Rattle.layout.proofs.Ranges.{entry_in_range}

-- the words that there are
pub record View (d : RegisterDevice) (view : List ListWord) : Type 0 where
  pub value : view ≡ take d.list.count d.list.room
  pub len : length view ≡ d.list.count

-- the priorities at which one of so many registers is pending
abbrev pub Shown : ℕ → (ℕ → Entry) → (ℕ → Bool) → Type 0
Shown n at levels = (p : ℕ) → p < 32 → levels p ≡ some n (pending_at at p)

pub levels_in : (d : RegisterDevice) (view : List ListWord) (levels : ℕ → Bool) → View d view → Shown (length view) (entries_of held_in view) levels → Levels d.list.count (register_device d).at levels
levels_in d view levels v h =
    let of_so_many : ℕ → Type 0 = λ n. Shown n (entries_of held_in view) levels in
    let of_these : List ListWord → Type 0 = λ ws. Shown d.list.count (entries_of held_in ws) levels in
    record { shown = subst of_these v.value (subst of_so_many v.len h); within = λ k. (in_range d.list entry_in_range k).priority }

-- the first that is pending at p
pub chosen_in : (d : RegisterDevice) (view : List ListWord) (levels : ℕ → Bool) (p : ℕ) (o : Option ℕ) → View d view → Levels d.list.count (register_device d).at levels → first_admitted (register_device d).cpu levels ≡ Some p →
    o ≡ position (λ w. pending_entry (held_in w) p) view → Chosen Below (register_device d) o
chosen_in d view levels p o v l e f =
    let of_so_many : ℕ → Type 0 = λ n. First n (pending_at (entries_of held_in view) p) o in
    let of_these : List ListWord → Type 0 = λ ws. First d.list.count (pending_at (entries_of held_in ws) p) o in
    chosen Below (register_device d) levels p o l e (go o (subst of_these v.value (subst of_so_many v.len (first_at held_in (λ h. pending_entry h p) view o f))))
  where
    go : (o : Option ℕ) → First d.list.count (pending_at (register_device d).at p) o →
        MatchOption o ((k : ℕ) → k < d.list.count → pending_at (register_device d).at p k ≡ false) (λ k. (k < d.list.count) × (pending_at (register_device d).at p k ≡ true) × ((j : ℕ) → j < d.list.count → pending_at (register_device d).at p j ≡ true → k ≤ j))
    go None none = none
    go (Some k) found = (found.0, found.1, λ j h t. ⊎_elim (λ (u : j < k). absurd (let n = found.2 j u in let z : ◌≡◌ {A = ℕ} 0 1 = cc in omega arith)) (λ (u : k ≤ j). u) (cases_lt j k))
