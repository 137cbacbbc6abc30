use mathlib.Core.Path.{refl}
use Prim.Native.Nat.{◌+◌, ◌-◌}
use native.Mathlib.Nat.{add-mul, mul-le-mul_right}
use native.Mathlib.Omega.{arith}
use Rattle.block_rows.proofs.Putting.{entry_puts}
use Rattle.block_rows.proofs.put_entry.Goals as goal

pub overflow_add-base : goal.overflow_add-base
overflow_add-base c = omega (arith, c.requires.2)

pub put_along-requires : goal.put_along-requires
put_along-requires c = (c.requires.0, omega (arith, c.requires.2), λ r l. c.requires.4 r (omega arith))

pub overflow_mul-first : goal.overflow_mul-first
overflow_mul-first c = record { fits = omega (arith, c.requires.3, mul-le-mul_right {m = c.args.size - c.args.shift} {n = c.args.size} c.args.d (omega arith)) }

pub overflow_add-e : goal.overflow_add-e
overflow_add-e c = omega (arith, c.requires.3, mul-le-mul_right {m = c.args.size - c.args.shift} {n = c.args.size} c.args.d (omega arith))

pub put_along-requires-2 : goal.put_along-requires-2
put_along-requires-2 c = (c.requires.0, omega (arith, c.requires.2), λ r l. omega (arith, c.columns-1.given, add-mul (c.args.size - c.args.shift) r c.args.d, c.requires.4 (c.args.size - c.args.shift + r) (omega arith)))

pub returns : goal.returns
returns c = entry_puts c.args.e c.args.d c.args.base c.args.shift c.args.size (c.args.size - c.args.shift) c.requires.0 c.requires.1 refl c.put_along.ensures c.put_along-2.ensures
