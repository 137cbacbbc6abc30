use Rattle.run_lines.proofs.Words.{Reading}
use Rattle.run_lines.proofs.hex_digits_at.Given as goal

abbrev pub invariant-loop-k : goal.invariant-loop-k
invariant-loop-k l = Reading l.s l.at l.value l.k
