-- The letters of events, and the call that each asks for.
use Rattle.std.specs.Prelude.{ℕ, Bool, cond, ◌&&◌, Some, None, Option, ◌==◌, nat_lt}
use Rattle.interrupt.specs.Cpu.{mode_of_bit}
use Rattle.guest.specs.declared.call.Call.{Call}
use Rattle.guest.specs.declared.call.Call.TheVariants.{Enable, Disable, Raise, Lower, Mask, Open, Mode, Acknowledge, End, Deactivate, Park, Resume}

-- the call, where the fields that it does not use are zero and a field of 0 or 1 is no more
abbrev pub asks : Bool → Call → Option Call
asks right call = cond right (Some call) None

-- the call of an event with this letter, aux byte and number or word, or none
abbrev pub call_of : ℕ → ℕ → ℕ → Option Call
call_of letter aux number =
    cond (letter == 82) (asks (aux == 0) (Raise number))  -- R
    (cond (letter == 76) (asks (aux == 0) (Lower number))  -- L
    (cond (letter == 78) (asks (aux == 0) (Enable number))  -- N
    (cond (letter == 70) (asks (aux == 0) (Disable number))  -- F
    (cond (letter == 65) (asks (aux == 0 && number == 0) Acknowledge)  -- A
    (cond (letter == 69) (asks (aux == 0) (End number))  -- E
    (cond (letter == 68) (asks (aux == 0) (Deactivate number))  -- D
    (cond (letter == 77) (asks (number == 0) (Mask aux))  -- M
    (cond (letter == 73) (asks (nat_lt aux 2 && number == 0) (Open (aux == 1)))  -- I
    (cond (letter == 86) (asks (nat_lt aux 2 && number == 0) (Mode (mode_of_bit (aux == 1))))  -- V: 0 is joined, 1 split
    (cond (letter == 80) (asks (aux == 0 && number == 0) Park)  -- P
    (cond (letter == 81) (asks (aux == 0 && number == 0) Resume)  -- Q
    None)))))))))))
