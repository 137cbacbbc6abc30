use Rattle.elimination.specs.Systems.{cleared}
use Rattle.elimination.specs.Rows.{rows_in, Done}
use Rattle.elimination.proofs.clear_others.Given as goal

abbrev pub invariant-loop-j : goal.invariant-loop-j
invariant-loop-j l = Done l.n l.j (cleared l.i l.h (rows_in l.n l.initial.work)) l.initial.work l.work
