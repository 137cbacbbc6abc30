use mathlib.Core.Path.{refl, ap, ◌∙◌}
use native.Mathlib.Omega.{arith}
use lib.ListN.{length}
use Rattle.words.specs.Roles.{wide}
use Rattle.words.proofs.Words.{length_stored}
use Rattle.block_rows.proofs.Rows.{going_none, going_all, going_known, going_end, going_small, going_room, going_more}
use Rattle.block_rows.proofs.read_row.Goals as goal

pub loop-d-init : goal.loop-d-init
loop-d-init c = (refl, refl, λ b e h. going_none h)

pub known_three_at-line-requires : goal.known_three_at-line-requires
known_three_at-line-requires c = let a = c.requires in going_known a.row_at (c.loop-d.invariant.2 a.blocks a.size_is a.row_at) (omega arith)

pub shape_of-bases-then-line-i : goal.shape_of-bases-then-line-i
shape_of-bases-then-line-i c = c.loop-d.invariant.0

pub shape_of-shifts-then-line-i : goal.shape_of-shifts-then-line-i
shape_of-shifts-then-line-i c = c.loop-d.invariant.1

pub returns-then-line-i : goal.returns-then-line-i
returns-then-line-i c = λ b e h. going_end h (c.loop-d.invariant.2 b e h) (omega arith) c.known_three_at-line.ensures c.if-line-i.true

pub overflow_mul-line : goal.overflow_mul-line
overflow_mul-line c = let a = c.requires in record { fits = omega (arith, (going_small a.row_at (c.loop-d.invariant.2 a.blocks a.size_is a.row_at) (omega arith) c.known_three_at-line.ensures a.size_is).0) }

pub put_column-requires : goal.put_column-requires
put_column-requires c = let a = c.requires in let g = c.loop-d.invariant.2 a.blocks a.size_is a.row_at in ((going_room a.row_at g (omega arith) c.known_three_at-line.ensures (omega arith)).0, omega (arith, (going_small a.row_at g (omega arith) c.known_three_at-line.ensures a.size_is).0))

pub put_column-requires-in-loop-d : goal.put_column-requires-in-loop-d
put_column-requires-in-loop-d c = let a = c.requires in let g = c.loop-d.invariant.2 a.blocks a.size_is a.row_at in ((going_room a.row_at g (omega arith) c.known_three_at-line.ensures (omega arith)).1, omega (arith, (going_small a.row_at g (omega arith) c.known_three_at-line.ensures a.size_is).1))

pub loop-d-preserved : goal.loop-d-preserved
loop-d-preserved c = (ap length c.put_column.ensures ∙ length_stored wide _ _ _ ∙ c.loop-d.invariant.0, ap length c.put_column-in-loop-d.ensures ∙ length_stored wide _ _ _ ∙ c.loop-d.invariant.1, λ b e h. going_more h (c.loop-d.invariant.2 b e h) (omega arith) c.known_three_at-line.ensures (omega arith) e c.put_column.ensures c.put_column-in-loop-d.ensures)

pub shape_of-bases : goal.shape_of-bases
shape_of-bases c = c.loop-d.invariant.0

pub shape_of-shifts : goal.shape_of-shifts
shape_of-shifts c = c.loop-d.invariant.1

pub returns : goal.returns
returns c = λ b e h. going_all h (c.loop-d.invariant.2 b e h) (omega arith)
