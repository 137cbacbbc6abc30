use native.Mathlib.Omega.{arith}
use Rattle.texts.proofs.Putting.{one_digit, decimal_long, put_long, put_only, put_last, put_three}
use Rattle.putting.proofs.put_short.Goals as goal

pub put_digit-requires : goal.put_digit-requires
put_digit-requires c = omega (arith, c.requires.1, one_digit c.args.k c.if-k-lt10.true)

pub returns-then-k-lt10 : goal.returns-then-k-lt10
returns-then-k-lt10 c = put_only c.if-k-lt10.true c.put_digit.ensures

pub put_digit-i-requires : goal.put_digit-i-requires
put_digit-i-requires c = omega (arith, c.requires.1, decimal_long 1 c.args.k (omega arith))

pub put_digit-requires-then-k-lt100 : goal.put_digit-requires-then-k-lt100
put_digit-requires-then-k-lt100 c = omega (arith, c.requires.1, decimal_long 1 c.args.k (omega arith), c.put_digit-i.ensures.after, put_long c.put_digit-i.ensures)

pub returns-then-k-lt100 : goal.returns-then-k-lt100
returns-then-k-lt100 c = put_last (omega arith) (put_only (omega arith) c.put_digit-i.ensures) c.put_digit-then-k-lt100.ensures

pub put_three-requires : goal.put_three-requires
put_three-requires c = omega (arith, c.requires.1, decimal_long 2 c.args.k (omega arith))

pub returns : goal.returns
returns c = put_three (omega arith) c.requires.0 c.put_three.ensures
