use Rattle.sheet_lines.specs.Passing.{ReadsOn}
use Rattle.sheet_lines.proofs.read_block.Given as goal

abbrev pub invariant-loop-j : goal.invariant-loop-j
invariant-loop-j l = ReadsOn l.text l.initial.rows l.initial.next l.k l.rows l.next l.block l.j l.size
