use Rattle.refusals.specs.declared.Refusal.TheVariants.{Positions}
use Rattle.refusals.proofs.Judging.{Passed}
use Rattle.words.specs.Roles.{position_at}
use Rattle.codewords.specs.Encoding.{position_fits}
use Rattle.encoder.proofs.check_positions.Given as goal

abbrev pub invariant-loop-k : goal.invariant-loop-k
invariant-loop-k l = Passed (position_fits l.n (position_at l.positions)) (λ i. Positions) l.k
