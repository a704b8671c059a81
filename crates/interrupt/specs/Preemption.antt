-- What may preempt what: a priority against the mask and the running priority.
use Rattle.std.specs.Prelude.{ℕ, Bool, ◌&&◌, nat_lt}

abbrev pub below_both : ℕ → ℕ → ℕ → Bool
below_both priority mask running = nat_lt priority mask && nat_lt priority running

-- below both mask and running priority; callers use the laws of it and not this text
unfoldable pub may_preempt : ℕ → ℕ → ℕ → Bool
may_preempt priority mask running = below_both priority mask running
