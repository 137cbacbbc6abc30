use Rattle.sheet_lines.specs.Adding.{AddsOn}
use Rattle.sheet_lines.proofs.add_block.Given as goal

abbrev pub invariant-loop-j : goal.invariant-loop-j
invariant-loop-j l = AddsOn l.block l.size l.initial.degrees l.degrees l.j
