-- The status words, from parts of the list registers.
use Rattle.std.proofs.Common.{◌≡◌, ℕ, ◌+◌, ◌-◌, ◌<◌, ◌≤◌, min, Bool, true, false, not, ltb, List, map, length, get_or, take, drop, sym, refl, ap, ◌∙◌, zero-add, arith, length-drop, length-take}
use lib.Count.{ones}
use Rattle.std.proofs.lemmas.List.{get_or-take, get_or-drop, take-map, drop-map}
use Rattle.std.proofs.lemmas.Bool.Decides.{nat_tests}
use Rattle.interrupt.specs.Counts.{count}
use Rattle.interrupt.specs.Sets.{word_of, member}
use Rattle.interrupt.proofs.Counting.{count_split, count_same}
use Rattle.interrupt.proofs.Words.{word_same, word_wider, word_below, member_word, ones_count}
use Rattle.list_register.specs.Entries.{Entry, nothing, is_valid}
use Rattle.register_file.specs.Registers.{entries_of}
use Rattle.layout.specs.declared.list_word.ListWord.{ListWord}
use Rattle.register_device.specs.declared.device.RegisterDevice.{RegisterDevice}
use Rattle.register_device.specs.Access.{free}
use Rattle.register_device.specs.Meaning.{register_device}
use Rattle.register_device.specs.Words.{held_in}
use Rattle.register_device.proofs.Choosing.{View}

-- the empty ones among these words
abbrev pub empties : List ListWord → ℕ → Bool
empties ws k = not (is_valid (entries_of held_in ws k).state)

-- j words from place o on
part_at : (ws : List ListWord) (o j k : ℕ) → k < j → entries_of held_in (take j (drop o ws)) k ≡ entries_of held_in ws (o + k)
part_at ws o j k h =
    ap (λ (es : List Entry). get_or es k nothing) (sym (take-map held_in j (drop o ws)) ∙ ap (take j) (sym (drop-map held_in o ws)))
    ∙ get_or-take j (drop o (map held_in ws)) k nothing h ∙ get_or-drop o (map held_in ws) k nothing

-- a part that has the registers from b on, as far as they go and no more than 32 of them
pub status : (d : RegisterDevice) (view : List ListWord) (o j b : ℕ) → View d view →
    ((k : ℕ) → k < length (take j (drop o view)) → (k < j) × (o + k ≡ b + k) × (b + k < d.list.count)) → length (take j (drop o view)) ≤ 32 → ((k : ℕ) → length (take j (drop o view)) ≤ k → k < 32 → d.list.count ≤ b + k) →
    word_of (length (take j (drop o view))) (empties (take j (drop o view))) ≡ word_of 32 (λ k. free (register_device d) (b + k))
status d view o j b v inside few outside =
    word_same (length (take j (drop o view))) _ _ (λ k l. here k (inside k l)) ∙ word_wider (length (take j (drop o view))) 32 (λ k. free (register_device d) (b + k)) few (λ k l m. there k (outside k l m))
  where
    here : (k : ℕ) → (k < j) × (o + k ≡ b + k) × (b + k < d.list.count) → empties (take j (drop o view)) k ≡ free (register_device d) (b + k)
    here k h =
        let t : ltb (b + k) d.list.count ≡ true = let u = h.2 in grind (arith, nat_tests) in
        ap (λ (e : Entry). not (is_valid e.state)) (part_at view o j k h.0 ∙ ap (entries_of held_in view) h.1 ∙ ap (λ (ws : List ListWord). entries_of held_in ws (b + k)) v.value) ∙ sym (rw t refl)

    there : (k : ℕ) → d.list.count ≤ b + k → free (register_device d) (b + k) ≡ false
    there k h = let t : ltb (b + k) d.list.count ≡ false = grind (arith, nat_tests) in rw t refl

pub status_low : (d : RegisterDevice) (view : List ListWord) (j : ℕ) → View d view → j ≡ min (length view) 32 →
    word_of (length (take (j - 0) (drop 0 view))) (empties (take (j - 0) (drop 0 view))) ≡ word_of 32 (free (register_device d))
status_low d view j v e =
    let long : length (take (j - 0) view) ≡ j = length-take (j - 0) view ∙ omega arith in
    let n = v.len in
    status d view 0 (j - 0) 0 v (λ k h. (omega arith, refl, omega arith)) (omega arith) (λ k h l. omega arith)
    ∙ ap (word_of 32) (λ i k. free (register_device d) (zero-add k i))

pub status_high : (d : RegisterDevice) (view : List ListWord) (o : ℕ) → View d view → o ≡ min (length view) 32 →
    word_of (length (take (length view - o) (drop o view))) (empties (take (length view - o) (drop o view))) ≡ word_of 32 (λ k. free (register_device d) (32 + k))
status_high d view o v e =
    let long : length (take (length view - o) (drop o view)) ≡ length view - o = length-take (length view - o) (drop o view) ∙ (let r = length-drop o view in omega arith) in
    let n = v.len in
    let m = d.list.most in
    status d view o (length view - o) 32 v (λ k h. (omega arith, omega arith, omega arith)) (omega arith) (λ k h l. omega arith)

-- the ones of both words
half : (s : ℕ → Bool) → ones (word_of 32 s) ≡ count 32 s
half s = ones_count 32 (word_of 32 s) (word_below 32 s) ∙ count_same 32 (member (word_of 32 s)) s (member_word 32 s)

pub free_count : (s : ℕ → Bool) → ones (word_of 32 s) + ones (word_of 32 (λ k. s (32 + k))) ≡ count 64 s
free_count s = (λ i. half s i + half (λ k. s (32 + k)) i) ∙ sym (count_split 32 32 s)
