use mathlib.Core.Path.{refl, ap, ◌∙◌}
use native.Mathlib.Omega.{arith}
use lib.ListN.{length}
use Rattle.words.specs.Roles.{wide}
use Rattle.words.proofs.Words.{length_stored}
use Rattle.block_sheets.specs.Text.Expansion.{expansion}
use Rattle.block_sheets.specs.Reader.Storing.{blocks_from}
use Rattle.block_rows.proofs.Stages.{storing_none, stage_at, stage_ahead, stage_checks, stage_columns, stage_left, stage_ones, start_at_lem, stage_more, stage_last, stage_all}
use Rattle.block_rows.proofs.store.Goals as goal

pub loop-i-init : goal.loop-i-init
loop-i-init c = (refl, refl, storing_none c.requires.blocks_at.0 c.args.starts.now c.args.columns.now c.requires.size_in_bounds.1 (λ k. (c.slice_known-2-1.given k).fits))

pub slice_bounds-read_row-end : goal.slice_bounds-read_row-end
slice_bounds-read_row-end c = omega (arith, c.loop-i.invariant.0)

pub slice_bounds-read_row-end-in-loop-i : goal.slice_bounds-read_row-end-in-loop-i
slice_bounds-read_row-end-in-loop-i c = omega (arith, c.loop-i.invariant.1)

pub read_row-row-requires : goal.read_row-row-requires
read_row-row-requires c = stage_ahead c.requires.blocks_at.0 c.loop-i.invariant.2 (omega arith) (omega (arith, c.requires.blocks_at.1 c.loop-i.i (omega arith), c.loop-i.invariant.0)) (omega (arith, c.requires.blocks_at.1 c.loop-i.i (omega arith), c.loop-i.invariant.1))

pub put_starts-requires : goal.put_starts-requires
put_starts-requires c = let r = c.read_row-row.ensures (blocks_from c.args.text.now c.args.counts c.args.at) refl (stage_at c.requires.blocks_at.0 c.loop-i.invariant.2 (omega arith) (omega (arith, c.requires.blocks_at.1 c.loop-i.i (omega arith), c.loop-i.invariant.0)) (omega (arith, c.requires.blocks_at.1 c.loop-i.i (omega arith), c.loop-i.invariant.1))) in let e = stage_columns c.requires.blocks_at.0 c.loop-i.invariant.2 (omega arith) r in (omega (arith, e.0, e.1), omega (arith, stage_checks c.requires.blocks_at.0 c.loop-i.invariant.2 (omega arith), c.requires.size_in_bounds.0, c.loop-i.invariant.2.starts_are.long))

pub slice_bounds-put_row-end : goal.slice_bounds-put_row-end
slice_bounds-put_row-end c = omega (arith, c.bases-in-loop-i-1.given)

pub slice_bounds-put_row-end-in-loop-i : goal.slice_bounds-put_row-end-in-loop-i
slice_bounds-put_row-end-in-loop-i c = omega (arith, c.shifts-in-loop-i-1.given)

pub put_row-requires : goal.put_row-requires
put_row-requires c = let r = c.read_row-row.ensures (blocks_from c.args.text.now c.args.counts c.args.at) refl (stage_at c.requires.blocks_at.0 c.loop-i.invariant.2 (omega arith) (omega (arith, c.requires.blocks_at.1 c.loop-i.i (omega arith), c.loop-i.invariant.0)) (omega (arith, c.requires.blocks_at.1 c.loop-i.i (omega arith), c.loop-i.invariant.1))) in let room = c.requires.blocks_at.1 c.loop-i.i (omega arith) in let e = stage_columns c.requires.blocks_at.0 c.loop-i.invariant.2 (omega arith) r in (stage_ones c.requires.blocks_at.0 c.loop-i.invariant.2 (omega arith) r (omega (arith, room, c.bases-in-loop-i-1.given)) (omega (arith, room, c.shifts-in-loop-i-1.given)), omega (arith, e.0, e.1, r.degree, room), omega (arith, e.0, c.requires.size_in_bounds.1, c.loop-i.invariant.2.columns_are.holds.long))

pub overflow_sub-left : goal.overflow_sub-left
overflow_sub-left c = let r = c.read_row-row.ensures (blocks_from c.args.text.now c.args.counts c.args.at) refl (stage_at c.requires.blocks_at.0 c.loop-i.invariant.2 (omega arith) (omega (arith, c.requires.blocks_at.1 c.loop-i.i (omega arith), c.loop-i.invariant.0)) (omega (arith, c.requires.blocks_at.1 c.loop-i.i (omega arith), c.loop-i.invariant.1))) in stage_left c.requires.blocks_at.0 c.loop-i.invariant.2 (omega arith) r

pub overflow_add-c : goal.overflow_add-c
overflow_add-c c = omega (arith, stage_checks c.requires.blocks_at.0 c.loop-i.invariant.2 (omega arith), c.requires.blocks_at.0.valid.checks.1)

pub overflow_mul-e : goal.overflow_mul-e
overflow_mul-e c = let r = c.read_row-row.ensures (blocks_from c.args.text.now c.args.counts c.args.at) refl (stage_at c.requires.blocks_at.0 c.loop-i.invariant.2 (omega arith) (omega (arith, c.requires.blocks_at.1 c.loop-i.i (omega arith), c.loop-i.invariant.0)) (omega (arith, c.requires.blocks_at.1 c.loop-i.i (omega arith), c.loop-i.invariant.1))) in let e = stage_columns c.requires.blocks_at.0 c.loop-i.invariant.2 (omega arith) r in record { fits = omega (arith, e.0, e.1) }

pub overflow_add-e : goal.overflow_add-e
overflow_add-e c = let r = c.read_row-row.ensures (blocks_from c.args.text.now c.args.counts c.args.at) refl (stage_at c.requires.blocks_at.0 c.loop-i.invariant.2 (omega arith) (omega (arith, c.requires.blocks_at.1 c.loop-i.i (omega arith), c.loop-i.invariant.0)) (omega (arith, c.requires.blocks_at.1 c.loop-i.i (omega arith), c.loop-i.invariant.1))) in let e = stage_columns c.requires.blocks_at.0 c.loop-i.invariant.2 (omega arith) r in omega (arith, e.0, e.1)

pub loop-i-preserved : goal.loop-i-preserved
loop-i-preserved c = let r = c.read_row-row.ensures (blocks_from c.args.text.now c.args.counts c.args.at) refl (stage_at c.requires.blocks_at.0 c.loop-i.invariant.2 (omega arith) (omega (arith, c.requires.blocks_at.1 c.loop-i.i (omega arith), c.loop-i.invariant.0)) (omega (arith, c.requires.blocks_at.1 c.loop-i.i (omega arith), c.loop-i.invariant.1))) in (omega (arith, c.bases-in-loop-i-1.given), omega (arith, c.shifts-in-loop-i-1.given), stage_more c.requires.blocks_at.0 c.loop-i.invariant.2 (omega arith) r (c.put_starts.ensures (expansion (blocks_from c.args.text.now c.args.counts c.args.at)).start c.args.starts.now c.loop-i.invariant.2.starts_are (start_at_lem c.requires.blocks_at.0 c.loop-i.invariant.2 (omega arith) r)) c.put_row.ensures)

pub put_start-requires : goal.put_start-requires
put_start-requires c = (omega (arith, c.requires.size_in_bounds.0, c.loop-i.invariant.2.starts_are.long, (stage_last c.requires.blocks_at.0 c.loop-i.invariant.2 (omega arith)).0), omega (arith, (stage_last c.requires.blocks_at.0 c.loop-i.invariant.2 (omega arith)).1))

pub shape_of-starts : goal.shape_of-starts
shape_of-starts c = ap length c.put_start.ensures ∙ length_stored wide _ _ _ ∙ c.loop-i.invariant.2.starts_are.long

pub shape_of-columns : goal.shape_of-columns
shape_of-columns c = c.loop-i.invariant.2.columns_are.holds.long

pub returns : goal.returns
returns c = stage_all c.requires.blocks_at.0 c.loop-i.invariant.2 (omega arith) c.requires.size_in_bounds.0 c.put_start.ensures
