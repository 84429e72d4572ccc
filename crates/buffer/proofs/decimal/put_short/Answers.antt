-- `buffer::decimal::put_short` meets its contract: below 10 the number is its one digit, and below 100 its two.
use Rattle.std.proofs.lemmas.Fmt.{decimal_digit}
use Rattle.itoa.proofs.Decimal.{decimal_two}
use Rattle.std.proofs.Common.{arith}
use Rattle.buffer.proofs.decimal.put_short.Goals as goal

pub put-requires : goal.put-requires
put-requires c = rw (decimal_digit c.args.n c.if-n-lt10.true) at c.requires

pub returns-then-n-lt10 : goal.returns-then-n-lt10
returns-then-n-lt10 c = rw (decimal_digit c.args.n c.if-n-lt10.true) c.put.ensures

pub put_two-requires : goal.put_two-requires
put_two-requires c = rw (decimal_two c.args.n (omega arith) c.if-n-lt100.true) at c.requires

pub returns-then-n-lt100 : goal.returns-then-n-lt100
returns-then-n-lt100 c = rw (decimal_two c.args.n (omega arith) c.if-n-lt100.true) c.put_two.ensures
