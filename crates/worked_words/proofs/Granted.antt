-- The calls of the worked device are granted, and its words are those worked out.
use Rattle.std.proofs.Common.{◌≡◌, ℕ, None, Ok, Option, Result, refl, ap, ◌∙◌}
use Rattle.refusal.specs.declared.Refusal.{Refusal}
use Rattle.refusal.specs.Rows.{first_row, say, unless}
use Rattle.interrupt.specs.Sets.{some, lowest}
use Rattle.list_register.specs.declared.entry.RawEntry.{RawEntry}
use Rattle.list_register.specs.Entries.{asked}
use Rattle.list_register.specs.Meaning.{Meaning, blank, with_entry}
use Rattle.list_register.specs.Calls.{Writes, write_rows}
use Rattle.register_device.specs.Access.{word_read}
use Rattle.worked_words.specs.Worked.{worked_device}

abbrev pub first_entry : RawEntry
first_entry = record { state = 1; priority = 10; number = 37 }

abbrev pub second_entry : RawEntry
second_entry = record { state = 2; priority = 31; number = 1019 }

abbrev pub with_first : Meaning
with_first = with_entry 0 (asked first_entry) (blank 4)

-- a write that no row declines
pub record Granted (k : ℕ) (e : RawEntry) (m after : Meaning) (r : Result (Unit {0}) Refusal) : Type 0 where
  pub left : after ≡ with_entry k (asked e) m
  pub value : r ≡ Ok tt

pub granted : (k : ℕ) (e : RawEntry) (m n after : Meaning) (r : Result (Unit {0}) Refusal) → m ≡ n → first_row (write_rows k e n) ≡ None → Writes k e m after r → Granted k e n after r
granted k e m n after r same none w = record {
  left = w.0 ∙ ap (λ (l : Meaning). unless (first_row (write_rows k e l)) l (with_entry k (asked e) l)) same ∙ ap (λ (o : Option Refusal). unless o n (with_entry k (asked e) n)) none;
  value = w.1 ∙ ap (λ (l : Meaning). say (first_row (write_rows k e l)) tt) same ∙ ap (λ (o : Option Refusal). say o tt) none;
}

pub first_granted : first_row (write_rows 0 first_entry (blank 4)) ≡ None
unfolding some
first_granted = refl

pub second_granted : first_row (write_rows 1 second_entry with_first) ≡ None
unfolding some
second_granted = refl

pub pending_word : word_read 0x100 worked_device ≡ Ok 0x15000025
unfolding some lowest
pending_word = refl

pub active_word : word_read 0x104 worked_device ≡ Ok 0x2F8003FB
unfolding some lowest
active_word = refl

pub kind_word : word_read 0x004 worked_device ≡ Ok 0x90000003
kind_word = refl

pub machine_word : word_read 0x008 worked_device ≡ Ok 0xF04C0001
machine_word = refl
