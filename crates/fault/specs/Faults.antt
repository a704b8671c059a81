-- Faults: in which layer, for which refusal, at which byte of the file. Of several, the first that is judged.
use Rattle.std.specs.Prelude.{ℕ, zero, suc, Bool, cond, List, ◌++◌, Some, None, Option, codes, decimal}
use Rattle.refusal.specs.Numbers.{refusal_number}
use Rattle.refusal.specs.declared.Refusal.{Refusal}
use Rattle.refusal.specs.declared.Refusal.TheVariants.{BadContents, BadField, TimeFalls, AreaTooSmall}
use Rattle.fault.specs.declared.Layer.{Layer}
use Rattle.fault.specs.declared.Layer.TheVariants.{Contents, Record, Guest}
use Rattle.fault.specs.declared.Fault.{Fault}
use Rattle.fault.specs.declared.ContentsFault.{ContentsFault}
use Rattle.fault.specs.declared.ContentsFault.TheVariants.{Wrong, Area}
use Rattle.fault.specs.declared.RecordFault.{RecordFault}
use Rattle.fault.specs.declared.RecordFault.TheVariants.{Field, Time}
use Rattle.fault.specs.declared.GuestFault.{GuestFault}

-- the number of each layer
abbrev pub layer_number : Layer → ℕ
layer_number Contents = 1
layer_number Record = 2
layer_number Guest = 3

-- a fault as it is printed: `fault layer cause place`
abbrev pub fault_text : Fault → List ℕ
fault_text f = codes "fault " ++ (decimal (layer_number f.layer) ++ (codes " " ++ (decimal (refusal_number f.cause) ++ (codes " " ++ decimal f.place))))

-- the size, or the table of contents
abbrev pub bad_contents : ℕ → Fault
bad_contents place = record { layer = Contents; cause = BadContents; place = place }

-- a record's letter or field
abbrev pub bad_field : ℕ → Fault
bad_field place = record { layer = Record; cause = BadField; place = place }

-- an event that is earlier than the one before it
abbrev pub time_falls : ℕ → Fault
time_falls place = record { layer = Record; cause = TimeFalls; place = place }

-- a setup that the guest declined
abbrev pub declined : Refusal → ℕ → Fault
declined refusal place = record { layer = Guest; cause = refusal; place = place }

-- a report area that is too small
abbrev pub area_too_small : Fault
area_too_small = record { layer = Contents; cause = AreaTooSmall; place = 0 }

-- the faults of the three layers

abbrev pub of_contents : ContentsFault → Fault
of_contents (Wrong place) = bad_contents place
of_contents Area = area_too_small

abbrev pub of_record : RecordFault → Fault
of_record (Field place) = bad_field place
of_record (Time place) = time_falls place

abbrev pub of_guest : GuestFault → Fault
of_guest e = declined e.refusal e.place

-- a fault where a test fails
infix 60 ◌unless◌
abbrev pub ◌unless◌ : Fault → Bool → Option Fault
f unless right = cond right None (Some f)

-- the first of two
infixr 50 ◌else◌
abbrev pub ◌else◌ : Option Fault → Option Fault → Option Fault
None else y = y
Some f else y = Some f

-- the first of those at the places below n
unfoldable pub first_fault : ℕ → (ℕ → Option Fault) → Option Fault
first_fault zero f = None
first_fault (suc n) f = first_fault n f else f n
