use native.Mathlib.Omega.{arith}
use Rattle.graph.proofs.Calls.{row_within, row_bounds}
use Rattle.graph.proofs.row.Goals as goal

pub start-a-requires : goal.start-a-requires
start-a-requires c = omega (arith, row_within _ _ c.judge_row.ensures c.is_err.ensures.value c.if-is_err.false)

pub overflow_add-i : goal.overflow_add-i
overflow_add-i c = omega (arith, row_within _ _ c.judge_row.ensures c.is_err.ensures.value c.if-is_err.false)

pub start-b-requires : goal.start-b-requires
start-b-requires c = omega (arith, row_within _ _ c.judge_row.ensures c.is_err.ensures.value c.if-is_err.false)

pub slice_bounds-result-count : goal.slice_bounds-result-count
slice_bounds-result-count c = omega (arith, (row_bounds _ _ c.judge_row.ensures c.is_err.ensures.value c.if-is_err.false c.start-a.ensures.0 c.start-b.ensures.0).0)

pub slice_bounds-result-start : goal.slice_bounds-result-start
slice_bounds-result-start c = omega (arith, (row_bounds _ _ c.judge_row.ensures c.is_err.ensures.value c.if-is_err.false c.start-a.ensures.0 c.start-b.ensures.0).0)

pub slice_bounds-result-end-2 : goal.slice_bounds-result-end-2
slice_bounds-result-end-2 c = omega (arith, (row_bounds _ _ c.judge_row.ensures c.is_err.ensures.value c.if-is_err.false c.start-a.ensures.0 c.start-b.ensures.0).1)
