use Prim.Native.Nat.{◌+◌}
use Rattle.rules.specs.Graphs.{limits, least_variable_degree, between}
use Rattle.refusals.specs.declared.Refusal.TheVariants.{Degree}
use Rattle.refusals.proofs.Judging.{Passed}
use Rattle.words.specs.Roles.{degree_at}
use Rattle.degrees.proofs.judge.Given as goal

abbrev pub invariant-loop-v : goal.invariant-loop-v
invariant-loop-v l = Passed (λ w. between least_variable_degree (degree_at l.degrees w) limits.variable_degree) (λ w. Degree (l.m + w)) l.v
