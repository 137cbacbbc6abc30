use native.Mathlib.Nat.{mul-le-mul_right}
use native.Mathlib.Omega.{arith}
use Rattle.block_degrees.proofs.Judging.{judge_checks, judge_variables}
use Rattle.block_degrees.proofs.judge.Goals as goal

pub overflow_mul-result : goal.overflow_mul-result
overflow_mul-result c = record { fits = omega (arith, mul-le-mul_right {m = c.args.rows.low} {n = c.args.counts.rows} c.args.counts.size (omega arith), c.requires.checks) }

pub returns-then-rows-counts : goal.returns-then-rows-counts
returns-then-rows-counts c = judge_checks c.args.counts c.args.rows c.spread.ensures (omega arith)

pub returns : goal.returns
returns c = judge_variables c.args.counts c.args.rows c.spread.ensures (omega arith) c.judge_columns-columns.ensures
