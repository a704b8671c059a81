-- A table of the priority of each interrupt, if it has one.
use Rattle.std.specs.Prelude.{ℕ, Bool, List, is_some, Some, None, Option, slice_index_or}
use Rattle.interrupt.specs.declared.priority.Priority.{Priority}

-- its level, and 32 where there is none
abbrev pub level_of : Option Priority → ℕ
level_of None = 32
level_of (Some p) = p.level

-- interrupt m has a priority
abbrev pub given : List (Option Priority) → ℕ → Bool
given ps m = is_some (slice_index_or ps m None)

-- the level of interrupt m, and 32 where it has no priority
abbrev pub level_at : List (Option Priority) → ℕ → ℕ
level_at ps m = level_of (slice_index_or ps m None)
