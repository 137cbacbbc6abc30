use Rattle.elimination.specs.Rows.{rows_in}
use Rattle.solving.specs.Solving.{Put}
use Rattle.solving.proofs.put_ones.Given as goal

abbrev pub invariant-loop-i : goal.invariant-loop-i
invariant-loop-i l = Put l.m l.n l.i (rows_in l.n l.work) l.initial.codeword l.codeword
