-- Numbers in a command.
use Rattle.std.specs.Prelude.{ℕ, ◌+◌, ◌*◌, ◌^◌, cond, List, [], ◌∷◌, length, take, drop, Some, None, codes, Option, ◌==◌, nat_lt}
use Rattle.std.specs.Char.{digit_value}
use Rattle.std.specs.Str.{bytes_eq}

-- the number that the digits of n and then these write in a base, if each is a digit of the base and the number is below 2 ^ 32.
-- `digit_value` takes letters of either case for ten and more, and gives 36 for a byte that is neither digit nor letter
abbrev pub read_on : ℕ → ℕ → List ℕ → Option ℕ
read_on base n [] = cond (nat_lt n (2 ^ 32)) (Some n) None
read_on base n (c ∷ cs) = cond (nat_lt (digit_value c) base) (read_on base (n * base + digit_value c) cs) None

-- the same of one or more digits alone
abbrev pub numeral : ℕ → List ℕ → Option ℕ
numeral base digits = cond (length digits == 0) None (read_on base 0 digits)

-- decimal, or hexadecimal after `0x`
abbrev pub number : List ℕ → Option ℕ
number word = cond (bytes_eq (take 2 word) (codes "0x")) (numeral 16 (drop 2 word)) (numeral 10 word)
