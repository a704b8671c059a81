-- Which register acknowledge picks among those that it may.
use Rattle.std.specs.Prelude.{◌≡◌, ℕ, false, Some, None, Option}
use Rattle.interrupt.specs.Sets.{some}
use Rattle.list_register.specs.Meaning.{Meaning}
use Rattle.list_register.specs.Calls.{ready, Pick}

-- a register that may be picked, and comes before every other that may be, if one is ready
abbrev pub Chosen : (ℕ → ℕ → Type 0) → Meaning → Option ℕ → Type 0
Chosen before m None = some m.count (ready m) ≡ false
Chosen before m (Some k) = (Pick m k) × ((j : ℕ) → Pick m j → before k j)

-- of the registers that an acknowledge may pick, the one whose number it answers comes before every other
abbrev pub Prefers : (ℕ → ℕ → Type 0) → Meaning → Option ℕ → Type 0
Prefers before m r = (j k : ℕ) → Pick m j → Pick m k → r ≡ Some (m.at k).number → before k j
