use mathlib.Core.Path.{refl}
use native.Mathlib.Omega.{arith}
use Rattle.elimination.proofs.Bytes.{turned_whole, turned_part}
use Rattle.elimination.proofs.add_row.Goals as goal

pub returns-then-t-w : goal.returns-then-t-w
returns-then-t-w c = turned_part c.args.h c.span-t.ensures.0 (omega arith) c.requires.3 (omega arith) c.add_bytes.ensures refl

pub returns-else-t-w : goal.returns-else-t-w
returns-else-t-w c = turned_whole (omega (arith, c.span-t.ensures.1)) c.add_bytes.ensures
