use mathlib.Core.Path.{◌∙◌}
use native.Mathlib.Omega.{arith}
use Rattle.block_rows.proofs.Putting.{row_none, row_more, row_all, place_below}
use Rattle.block_rows.proofs.put_row.Goals as goal

pub loop-p-init : goal.loop-p-init
loop-p-init c = row_none c.args.bases.now c.args.shifts.now c.args.d c.args.size c.args.e c.args.columns.now

pub column-base-requires : goal.column-base-requires
column-base-requires c = omega (arith, c.requires.0.room_bases)

pub column-shift-requires : goal.column-shift-requires
column-shift-requires c = omega (arith, c.requires.0.room_shifts)

pub overflow_add-e : goal.overflow_add-e
overflow_add-e c = omega (arith, c.requires.1)

pub put_entry-requires : goal.put_entry-requires
put_entry-requires c = (omega arith, omega (arith, c.column-shift.ensures.0, c.requires.0.shift c.loop-p.p (omega arith)), omega (arith, c.column-base.ensures.0, c.requires.0.small c.loop-p.p (omega arith)), omega (arith, c.requires.1), λ r l. omega (arith, c.requires.2, c.loop-p.invariant.long, place_below c.args.d c.args.size c.args.e c.loop-p.p (omega arith) r l))

pub loop-p-preserved : goal.loop-p-preserved
loop-p-preserved c = row_more c.loop-p.invariant (omega arith) (c.columns-1.given ∙ c.loop-p.invariant.long) c.column-base.ensures.0 c.column-shift.ensures.0 c.put_entry.ensures

pub shape_of-columns : goal.shape_of-columns
shape_of-columns c = c.loop-p.invariant.long

pub returns : goal.returns
returns c = row_all c.loop-p.invariant (omega arith)
