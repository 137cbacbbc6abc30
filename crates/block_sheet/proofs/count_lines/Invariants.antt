use Rattle.block_sheet.proofs.Counting.{CountingLines}
use Rattle.block_sheet.proofs.count_lines.Given as goal

abbrev pub invariant-loop-q : goal.invariant-loop-q
invariant-loop-q l = CountingLines l.text l.counts l.at l.initial.degrees l.degrees l.rows l.i l.q
