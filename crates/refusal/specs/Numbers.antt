-- The number of each refusal.
use Rattle.std.specs.Prelude.{ℕ}
use Rattle.refusal.specs.declared.Refusal.{Refusal}
use Rattle.refusal.specs.declared.Refusal.TheVariants.{UnknownInterrupt, Parked, Running, NotAtRest, PriorityRange, WrongKind, UnknownWord, NotRunningPriority, NotDropped, InterruptActive, UnknownRegister, ReadOnly, BadLayout, DuplicateNumber, BadContents, BadField, TimeFalls, AreaTooSmall}

abbrev pub refusal_number : Refusal → ℕ
refusal_number UnknownInterrupt = 1
refusal_number Parked = 2
refusal_number Running = 3
refusal_number NotAtRest = 4
refusal_number PriorityRange = 5
refusal_number WrongKind = 6
refusal_number UnknownWord = 7
refusal_number NotRunningPriority = 8
refusal_number NotDropped = 9
refusal_number InterruptActive = 10
refusal_number UnknownRegister = 11
refusal_number ReadOnly = 12
refusal_number BadLayout = 13
refusal_number DuplicateNumber = 14
refusal_number BadContents = 15
refusal_number BadField = 16
refusal_number TimeFalls = 17
refusal_number AreaTooSmall = 18
