use Prim.Native.Nat.{◌+◌}
use native.Mathlib.Omega.{arith}
use Rattle.block_rows.proofs.Putting.{along_none, along_more, along_all}
use mathlib.Core.Path.{refl}
use Rattle.block_rows.proofs.put_along.Goals as goal

pub loop-r-init : goal.loop-r-init
loop-r-init c = along_none c.args.e c.args.d (λ t. c.args.x + t) c.args.columns.now

pub overflow_mul-r : goal.overflow_mul-r
overflow_mul-r c = record { fits = omega (arith, c.requires.2 c.loop-r.r (omega arith)) }

pub overflow_add-e : goal.overflow_add-e
overflow_add-e c = omega (arith, c.requires.2 c.loop-r.r (omega arith))

pub overflow_add-x : goal.overflow_add-x
overflow_add-x c = omega (arith, c.requires.1)

pub put_column-requires : goal.put_column-requires
put_column-requires c = (omega (arith, c.requires.2 c.loop-r.r (omega arith), c.loop-r.invariant.long), omega (arith, c.requires.1))

pub loop-r-preserved : goal.loop-r-preserved
loop-r-preserved c = along_more c.loop-r.invariant c.requires.0 c.put_column.ensures refl

pub shape_of-columns : goal.shape_of-columns
shape_of-columns c = c.loop-r.invariant.long

pub returns : goal.returns
returns c = along_all c.loop-r.invariant (omega arith)
