-- What the fields of a word can be.
use Rattle.std.specs.Prelude.{◌≡◌, ℕ, ◌<◌, true}
use Rattle.std.proofs.Common.{arith}
use Rattle.std.proofs.lemmas.Bool.Decides.{nat_tests}
use Rattle.list_register.specs.Meaning.{InRange}
use Rattle.layout.specs.declared.list_word.ListWord.{ListWord}
use Rattle.layout.specs.Layouts.{control_stray, machine_mask, fields_in, entry_in, entry_layout}

pub mask_in_range : (w : ℕ) → machine_mask w < 32
mask_in_range w = omega arith

pub stray_in_range : (w : ℕ) → control_stray w < 32
stray_in_range w = omega arith

number_small : (w : ℕ) → entry_layout w ≡ true → (fields_in w).number < 1020
number_small w h = grind (arith, nat_tests)

pub entry_in_range : (w : ListWord) → InRange (entry_in w.word)
entry_in_range w = record { priority = omega arith; number = number_small w.word w.layout }
