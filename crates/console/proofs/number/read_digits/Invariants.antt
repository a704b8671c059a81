use Rattle.console.proofs.Digits.{Read}
use Rattle.console.proofs.number.read_digits.Given as goal

abbrev pub invariant-loop-c : goal.invariant-loop-c
invariant-loop-c l = Read l.base l.digits l.c-index l.so_far
