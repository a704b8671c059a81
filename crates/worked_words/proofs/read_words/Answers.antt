use Rattle.std.proofs.Common.{◌≡◌, ℕ, Ok, Err, ap, ◌∙◌, arith}
use Rattle.refusal.specs.declared.Refusal.{Refusal}
use Rattle.list_register.specs.Meaning.{Meaning}
use Rattle.register_device.specs.Access.{word_read}
use Rattle.worked_words.specs.Worked.{worked_device}
use Rattle.worked_words.proofs.Granted.{pending_word, active_word, kind_word, machine_word}
use Rattle.worked_words.proofs.read_words.Goals as goal

-- a word that was read of a device that means the worked one
read : (offset word expected : ℕ) (m : Meaning) → m ≡ worked_device → word_read offset worked_device ≡ Ok expected → Ok word ≡ word_read offset m → word ≡ expected
read offset word expected m same known said = let e = said ∙ ap (word_read offset) same ∙ known in cc

-- none of them is refused
not_refused : {A : Type 0} (offset expected : ℕ) (r : Refusal) (m : Meaning) → m ≡ worked_device → word_read offset worked_device ≡ Ok expected → Err r ≡ word_read offset m → A
not_refused offset expected r m same known said = absurd (let e = said ∙ ap (word_read offset) same ∙ known in let z : ◌≡◌ {A = ℕ} 0 1 = cc in omega arith)

pub returns-in_err-read_word : goal.returns-in_err-read_word
returns-in_err-read_word c = not_refused 0x100 _ _ _ c.requires pending_word c.in_err-read_word.ensures

pub returns-in_err-read_word-2 : goal.returns-in_err-read_word-2
returns-in_err-read_word-2 c = not_refused 0x104 _ _ _ c.requires active_word c.in_err-read_word-2.ensures

pub returns : goal.returns
returns c =
    let d = c.requires in
    λ i. Ok (record {
      pending = read 0x100 _ _ _ d pending_word c.in_ok-read_word.ensures i;
      active = read 0x104 _ _ _ d active_word c.in_ok-read_word-2.ensures i;
      kind = read 0x004 _ _ _ d kind_word c.in_ok-read_word-3.ensures i;
      machine = read 0x008 _ _ _ d machine_word c.in_ok-read_word-4.ensures i;
    })
