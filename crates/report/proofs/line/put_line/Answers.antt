use Rattle.std.proofs.Common.{◌<◌, codes, arith}
use Rattle.report.proofs.Lengths.{line_short}
use Rattle.report.proofs.line.put_line.Goals as goal

pub put_numbers-requires : goal.put_numbers-requires
put_numbers-requires c =
    let n : c.from.result < 10000 = omega (arith, c.number.ensures, c.from.ensures, c.in-Ok-Acknowledged-Some.id.named) in
    omega (arith, line_short c.args.time c.from.result (codes " ack ") (omega arith) n (omega arith))

pub put_numbers-requires-in-Err : goal.put_numbers-requires-in-Err
put_numbers-requires-in-Err c = omega (arith, line_short c.args.time c.from-in-Err-2.result (codes " no ") (omega arith) (omega arith) (omega arith))

pub returns-in-Ok-Acknowledged-Some-clause-bound : goal.returns-in-Ok-Acknowledged-Some-clause-bound
returns-in-Ok-Acknowledged-Some-clause-bound c =
    let n : c.from.result < 10000 = omega (arith, c.number.ensures, c.from.ensures, c.in-Ok-Acknowledged-Some.id.named) in
    omega (arith, c.put_numbers.ensures.value, line_short c.args.time c.from.result (codes " ack ") (omega arith) n (omega arith))

pub returns-in-Err-clause-bound : goal.returns-in-Err-clause-bound
returns-in-Err-clause-bound c = omega (arith, c.put_numbers-in-Err.ensures.value, line_short c.args.time c.from-in-Err-2.result (codes " no ") (omega arith) (omega arith) (omega arith))
