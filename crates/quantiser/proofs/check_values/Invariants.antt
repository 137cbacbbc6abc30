use lib.Ieee.Scale.{finite}
use Rattle.refusals.specs.declared.Refusal.TheVariants.{Value}
use Rattle.refusals.proofs.Judging.{Passed}
use Rattle.words.specs.Roles.{value_at}
use Rattle.quantiser.proofs.check_values.Given as goal

abbrev pub invariant-loop-v : goal.invariant-loop-v
invariant-loop-v l = Passed (λ k. finite (value_at l.values k)) (λ k. Value k) l.v
