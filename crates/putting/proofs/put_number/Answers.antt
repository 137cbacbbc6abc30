use native.Mathlib.Omega.{arith}
use Rattle.texts.proofs.Putting.{thousands_long, put_long, put_thousands}
use Rattle.putting.proofs.put_number.Goals as goal

pub put_short-i-requires : goal.put_short-i-requires
put_short-i-requires c = (omega arith, omega (arith, c.requires, thousands_long c.args.k (omega arith)))

pub put_three-requires : goal.put_three-requires
put_three-requires c = omega (arith, c.requires, thousands_long c.args.k (omega arith), c.put_short-i.ensures.after, put_long c.put_short-i.ensures)

pub returns-then-k-lt1000000 : goal.returns-then-k-lt1000000
returns-then-k-lt1000000 c = put_thousands (omega arith) c.put_short-i.ensures c.put_three.ensures
