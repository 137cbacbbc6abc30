use native.Mathlib.Omega.{arith}
use Rattle.texts.proofs.Putting.{one_digit, more_digits, put_long, put_only, put_last}
use Rattle.putting.proofs.+put_long.Goals as goal

pub put_digit-requires : goal.put_digit-requires
put_digit-requires t c = omega (arith, one_digit c.args.k c.if-k-lt10.true)

pub returns-then-k-lt10 : goal.returns-then-k-lt10
returns-then-k-lt10 t c = put_only c.if-k-lt10.true c.put_digit.ensures

pub put_long-last-requires : goal.put_long-last-requires
put_long-last-requires t c = (omega arith, omega (arith, more_digits c.args.k (omega arith)))

pub put_digit-requires-2 : goal.put_digit-requires-2
put_digit-requires-2 t c =
    omega (arith, c.put_long-last.ensures.after, put_long c.put_long-last.ensures, more_digits c.args.k (omega arith))

pub returns : goal.returns
returns t c = put_last (omega arith) c.put_long-last.ensures c.put_digit-2.ensures
