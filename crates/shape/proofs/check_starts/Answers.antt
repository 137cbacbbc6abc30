use mathlib.Core.Path.{sym}
use native.Mathlib.Omega.{arith}
use native.Mathlib.Nat.{add-sub_cancel}
use Rattle.refusals.proofs.Judging.{passed_none, passed_more, passed_all, failed_at}
use Rattle.graphs.specs.Judging.{starts_judged}
use Rattle.graphs.proofs.Parts.{counts_told}
use Rattle.shape.proofs.check_starts.Goals as goal

pub start-last-requires : goal.start-last-requires
start-last-requires c = omega (arith, (counts_told _ c.requires).checks)

pub loop-i-init : goal.loop-i-init
loop-i-init c = record { last = c.start-last.ensures.0; passed = passed_none }

pub returns-then-not-start_good : goal.returns-then-not-start_good
unfolding starts_judged
returns-then-not-start_good c = sym (failed_at c.loop-i.invariant.passed (cc) (omega arith))

pub loop-i-preserved : goal.loop-i-preserved
loop-i-preserved c = record {
  last = rw add-sub_cancel c.start-s.ensures.0;
  passed = passed_more c.loop-i.invariant.passed (cc);
}

pub start-s-requires : goal.start-s-requires
start-s-requires c = omega (arith, (counts_told _ c.requires).checks)

pub returns : goal.returns
unfolding starts_judged
returns c = sym (passed_all c.loop-i.invariant.passed (omega arith))
