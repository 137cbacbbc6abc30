use Rattle.elimination.specs.Systems.{replaced}
use Rattle.elimination.specs.Rows.{rows_in, Done}
use Rattle.elimination.proofs.replace.Given as goal

abbrev pub invariant-loop-j : goal.invariant-loop-j
invariant-loop-j l = Done l.n l.j (replaced l.n l.v l.b (rows_in l.n l.initial.work)) l.initial.work l.work
