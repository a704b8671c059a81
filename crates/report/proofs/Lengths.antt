-- How long a line can be.
use Rattle.std.proofs.Common.{ℕ, ◌^◌, ◌<◌, ◌≤◌, List, ◌++◌, length, codes, decimal, arith, length-append}
use Rattle.std.proofs.lemmas.Fmt.{length-decimal-le}
use Rattle.report.specs.Lines.{number_line, newline}

-- a time and a number of at most four digits
pub line_short : (time n : ℕ) (between : List ℕ) → time < 2 ^ 32 → n < 10000 → length between ≤ 5 → length (number_line time between n) ≤ 20
line_short time n between t h l =
    let a = length-decimal-le 10 time (omega arith) (omega arith) (omega arith) in
    let b = length-decimal-le 4 n (omega arith) (omega arith) (omega arith) in
    simp length-append (omega arith)

pub none_short : (time : ℕ) → time < 2 ^ 32 → length (decimal time ++ (codes " ack none" ++ newline)) ≤ 20
none_short time t = let a = length-decimal-le 10 time (omega arith) (omega arith) (omega arith) in simp length-append (omega arith)

-- two numbers of at most five digits, where `done ` goes before them
pub counts_short : (a d : ℕ) → a < 2 ^ 16 → d < 2 ^ 16 → length (number_line a (codes " ") d) ≤ 15
counts_short a d h k =
    let m = length-decimal-le 5 a (omega arith) (omega arith) (omega arith) in
    let n = length-decimal-le 5 d (omega arith) (omega arith) (omega arith) in
    simp length-append (omega arith)
