use Rattle.texts.proofs.Places.{Digits}
use Rattle.lines.proofs.number_at.Given as goal

abbrev pub invariant-loop-next : goal.invariant-loop-next
invariant-loop-next l = Digits l.s l.at l.value l.next
