-- Records: 8 bytes each.
use Rattle.std.specs.Prelude.{ℕ, Bool, cond, ◌&&◌, ◌||◌, List, length, Some, None, Option, ◌==◌, nat_lt}
use Rattle.std.specs.Option.{option_map}
use Rattle.interrupt.specs.declared.kind.Kind.{Kind}
use Rattle.interrupt.specs.declared.kind.Kind.TheVariants.{Edge, Level}
use Rattle.records.specs.declared.record.Setup.{Setup}
use Rattle.records.specs.declared.record.Event.{Event}
use Rattle.records.specs.Bytes.{byte, le16, le32}
use Rattle.records.specs.Letters.{call_of}

abbrev pub whole : List ℕ → Bool
whole r = length r == 8

-- a setup: number in 2 bytes, letter e (101) or l (108) for the kind, priority, enabled 0 or 1, three zeros

abbrev pub setup_fields : List ℕ → Bool
setup_fields r = (byte r 2 == 101 || byte r 2 == 108) && nat_lt (byte r 4) 2 && byte r 5 == 0 && byte r 6 == 0 && byte r 7 == 0

abbrev pub setup_right : List ℕ → Bool
setup_right r = whole r && setup_fields r

abbrev pub setup_in : List ℕ → Setup
setup_in r = record { number = le16 r 0; kind = cond (byte r 2 == 108) Level Edge; priority = byte r 3; enabled = (byte r 4 == 1) }

abbrev pub setup_of : List ℕ → Option Setup
setup_of r = cond (setup_right r) (Some (setup_in r)) None

-- an event: time in milliseconds in 4 bytes, letter, aux byte, number or word in 2 bytes

abbrev pub event_in : List ℕ → Option Event
event_in r = option_map (λ c. record { time = le32 r 0; call = c }) (call_of (byte r 4) (byte r 5) (le16 r 6))

abbrev pub event_of : List ℕ → Option Event
event_of r = cond (whole r) (event_in r) None

-- a setup's letter and flag by themselves

abbrev pub kind_of : ℕ → Option Kind
kind_of letter = cond (letter == 101) (Some Edge) (cond (letter == 108) (Some Level) None)

abbrev pub flag_of : ℕ → Option Bool
flag_of value = cond (nat_lt value 2) (Some (value == 1)) None
