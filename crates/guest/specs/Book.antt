-- What a guest means: its interrupts, whether it runs, its CPU interface and its waiting list.
use Rattle.std.specs.Prelude.{ℕ, Bool, true, cond, ◌&&◌, List, [], ◌∷◌, ◌++◌, Some, None, Option, nat_le}
use Rattle.interrupt.specs.Cpu.{Cpu, closed, admits}
use Rattle.interrupt.specs.Lists.{has, without}
use Rattle.interrupt.specs.Sets.{put}
use Rattle.guest.specs.Interrupts.{Interrupt, waits, blank}

-- the interrupt of each number, whether the guest runs or is parked, its CPU interface, and those that wait, earliest first
pub record Book : Type 0 where
  pub at : ℕ → Interrupt
  pub running : Bool
  pub cpu : Cpu
  pub waiting : List ℕ

-- at the start the guest runs, with every interrupt blank, its CPU interface closed, and none waiting
abbrev pub start : Book
start = record { at = λ _. blank; running = true; cpu = closed; waiting = [] }

-- one that begins to wait joins at the end; one that stops leaves
abbrev pub settle : ℕ → Bool → List ℕ → List ℕ
settle n v xs = cond v (cond (has n xs) xs (xs ++ n ∷ [])) (without n xs)

-- interrupt n becomes i, and begins to wait, goes on waiting, or stops
abbrev pub touch : ℕ → Interrupt → Book → Book
touch n i b = record { at = put n i b.at; running = b.running; cpu = b.cpu; waiting = settle n (waits i) b.waiting }

abbrev pub with_running : Bool → Book → Book
with_running v b = record { at = b.at; running = v; cpu = b.cpu; waiting = b.waiting }

abbrev pub with_cpu : Cpu → Book → Book
with_cpu c b = record { at = b.at; running = b.running; cpu = c; waiting = b.waiting }

abbrev pub priority_of : Book → ℕ → ℕ
priority_of b n = (b.at n).priority

-- eligible: the guest is open, it waits, and its priority is below both mask and running priority
abbrev pub eligible : Book → ℕ → Bool
eligible b n = waits (b.at n) && admits b.cpu (priority_of b n)

-- x stands before y in the list: it is taken unless y has a lower priority number
abbrev pub sooner : (ℕ → ℕ) → ℕ → Option ℕ → Option ℕ
sooner priority x None = Some x
sooner priority x (Some y) = cond (nat_le (priority x) (priority y)) (Some x) (Some y)

-- of those in the list that fit, the one with the lowest priority number, and of equals the earliest
abbrev pub first_by : (ℕ → Bool) → (ℕ → ℕ) → List ℕ → Option ℕ
first_by fit priority [] = None
first_by fit priority (x ∷ xs) = cond (fit x) (sooner priority x (first_by fit priority xs)) (first_by fit priority xs)

-- first in turn: the eligible interrupt with the lowest priority number, and of equals the earliest in the list
abbrev pub first_in_turn : Book → Option ℕ
first_in_turn b = first_by (eligible b) (priority_of b) b.waiting
