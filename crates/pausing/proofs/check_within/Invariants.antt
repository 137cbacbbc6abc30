use lib.Dec.{leb}
use Rattle.refusals.specs.declared.Refusal.TheVariants.{Advance}
use Rattle.refusals.proofs.Judging.{Passed}
use Rattle.nodes.specs.Memory.{level_in}
use Rattle.pausing.proofs.check_within.Given as goal

abbrev pub invariant-loop-byte : goal.invariant-loop-byte
invariant-loop-byte l = Passed (λ k. leb (level_in l.list k).magnitude l.most) (λ k. Advance) l.byte-index
