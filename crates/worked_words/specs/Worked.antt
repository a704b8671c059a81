-- The worked words.
use Rattle.std.specs.Prelude.{true, false}
use Rattle.interrupt.specs.declared.cpu_interface.EoiMode.TheVariants.{Joined}
use Rattle.list_register.specs.declared.state.State.TheVariants.{Pending, Active}
use Rattle.list_register.specs.Meaning.{Meaning, blank, with_cpu, with_entry}
use Rattle.worked_words.specs.declared.WorkedWords.{WorkedWords}

-- 37 pending at priority 10, 1019 active at priority 31, the type word of four registers, and open with mask 30, joined
abbrev pub worked : WorkedWords
worked = record { pending = 0x15000025; active = 0x2F8003FB; kind = 0x90000003; machine = 0xF04C0001 }

-- a device of four registers with these entries and settings, and nothing else
abbrev pub worked_device : Meaning
worked_device =
    with_cpu (record { opened = true; mask = 30; mode = Joined; active = λ _. false })
    (with_entry 1 (record { state = Active; priority = 31; number = 1019 })
    (with_entry 0 (record { state = Pending; priority = 10; number = 37 }) (blank 4)))
