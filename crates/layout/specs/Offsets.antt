-- The byte offset of each register.
use Rattle.std.specs.Prelude.{ℕ, ◌+◌, ◌*◌, ◌<◌, cond, Some, None, Option, ◌==◌, nat_eq, nat_lt}
use Rattle.interrupt.specs.Sets.{lowest}
use Rattle.layout.specs.declared.register.Register.{Register}
use Rattle.layout.specs.declared.register.Register.TheVariants.{Hcr, Vtr, Vmcr, Elrsr0, Elrsr1, Apr, Lr}

abbrev pub offset_of : Register → ℕ
offset_of Hcr = 0x000
offset_of Vtr = 0x004
offset_of Vmcr = 0x008
offset_of Elrsr0 = 0x030
offset_of Elrsr1 = 0x034
offset_of Apr = 0x0F0
offset_of (Lr k) = 0x100 + 4 * k

-- this register, if its offset is o, and otherwise another
infixr 20 ◌at◌else◌
abbrev pub ◌at◌else◌ : Register → ℕ → Option Register → Option Register
r at o else other = cond (o == offset_of r) (Some r) other

-- the list register below n whose offset is o
abbrev pub numbered : ℕ → ℕ → Option Register
numbered n k = cond (nat_lt k n) (Some (Lr k)) None

abbrev pub list_at : ℕ → ℕ → Option Register
list_at n o = numbered n (lowest n (λ k. nat_eq o (offset_of (Lr k))))

-- the register of a device of n list registers whose offset is o
abbrev pub register_at : ℕ → ℕ → Option Register
register_at n o = (Hcr at o else (Vtr at o else (Vmcr at o else (Elrsr0 at o else (Elrsr1 at o else (Apr at o else list_at n o))))))

-- a list register, if it is one, is one of the first n
abbrev pub Exists : ℕ → Option Register → Type 0
Exists n None = Unit {0}
Exists n (Some Hcr) = Unit {0}
Exists n (Some Vtr) = Unit {0}
Exists n (Some Vmcr) = Unit {0}
Exists n (Some Elrsr0) = Unit {0}
Exists n (Some Elrsr1) = Unit {0}
Exists n (Some Apr) = Unit {0}
Exists n (Some (Lr k)) = k < n
