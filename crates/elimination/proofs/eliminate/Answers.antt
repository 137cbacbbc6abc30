use Rattle.elimination.proofs.Steps.{eliminated_more, eliminated_fail, eliminated_next}
use Rattle.elimination.proofs.eliminate.Goals as goal

pub returns-then-not-reduce : goal.returns-then-not-reduce
returns-then-not-reduce c = eliminated_fail c.if-not-reduce.true (eliminated_more c.loop-i.invariant c.reduce.ensures)

pub loop-i-preserved : goal.loop-i-preserved
loop-i-preserved c = eliminated_next c.if-not-reduce.false (eliminated_more c.loop-i.invariant c.reduce.ensures)
