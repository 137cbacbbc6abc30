use Rattle.block_degrees.proofs.Columns.{Looking}
use Rattle.block_degrees.proofs.judge_columns.Given as goal

abbrev pub invariant-loop-j : goal.invariant-loop-j
invariant-loop-j l = Looking l.counts l.degrees l.j l.v
