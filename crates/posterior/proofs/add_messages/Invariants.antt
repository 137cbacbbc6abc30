use Rattle.nodes.specs.Lists.{part_in}
use Rattle.nodes.proofs.SumLaws.{Added}
use Rattle.posterior.proofs.add_messages.Given as goal

abbrev pub invariant-loop-e : goal.invariant-loop-e
invariant-loop-e l = Added l.columns (part_in l.parts l.messages) l.initial.sums l.sums l.e
