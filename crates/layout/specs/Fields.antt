-- Fields of words.
use Rattle.std.specs.Prelude.{ℕ, ◌+◌, ◌-◌, ◌/◌, ◌%◌, ◌^◌, Bool, ◌==◌}

-- bits high down to low of a word
abbrev pub bits : ℕ → ℕ → ℕ → ℕ
bits high low w = w / 2 ^ low % 2 ^ (high + 1 - low)

-- one bit of a word is set
abbrev pub is_set : ℕ → ℕ → Bool
is_set place w = bits place place w == 1
