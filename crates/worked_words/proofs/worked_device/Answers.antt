use Rattle.std.proofs.Common.{◌≡◌, ℕ, true, Ok, ap, ◌∙◌, arith}
use Rattle.interrupt.specs.Cpu.{with_opened, with_mask}
use Rattle.list_register.specs.Meaning.{Meaning, blank, with_cpu}
use Rattle.register_device.specs.Meaning.{register_device}
use Rattle.worked_words.proofs.Granted.{first_entry, second_entry, with_first, granted, first_granted, second_granted}
use Rattle.worked_words.proofs.worked_device.Goals as goal

pub returns-in_err-write : goal.returns-in_err-write
returns-in_err-write c =
    let new : register_device c.in_ok-device.device ≡ blank 4 = let e = c.in_ok-device.ensures in cc in
    let g = granted 0 first_entry _ (blank 4) _ _ new first_granted c.in_err-write.ensures in
    absurd (let v = g.value in let z : ◌≡◌ {A = ℕ} 0 1 = cc in omega arith)

pub returns-in_err-write-2 : goal.returns-in_err-write-2
returns-in_err-write-2 c =
    let new : register_device c.in_ok-device.device ≡ blank 4 = let e = c.in_ok-device.ensures in cc in
    let g = granted 0 first_entry _ (blank 4) _ _ new first_granted c.in_ok-write.ensures in
    let h = granted 1 second_entry _ with_first _ _ g.left second_granted c.in_err-write-2.ensures in
    absurd (let v = h.value in let z : ◌≡◌ {A = ℕ} 0 1 = cc in omega arith)

pub returns : goal.returns
returns c =
    let new : register_device c.in_ok-device.device ≡ blank 4 = let e = c.in_ok-device.ensures in cc in
    let g = granted 0 first_entry _ (blank 4) _ _ new first_granted c.in_ok-write.ensures in
    let h = granted 1 second_entry _ with_first _ _ g.left second_granted c.in_ok-write-2.ensures in
    let opened = c.set_open.ensures ∙ ap (λ (m : Meaning). with_cpu (with_opened true m.cpu) m) h.left in
    ap Ok (c.in_ok-set_mask.ensures.0 ∙ ap (λ (m : Meaning). with_cpu (with_mask 30 m.cpu) m) opened)
