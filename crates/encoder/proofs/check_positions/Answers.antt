use mathlib.Core.Path.{sym}
use native.Mathlib.Omega.{arith}
use Rattle.refusals.proofs.Judging.{passed_none, passed_more, passed_all, failed_at}
use Rattle.codewords.specs.Encoding.{positions_judged}
use Rattle.encoder.proofs.check_positions.Goals as goal

pub loop-k-init : goal.loop-k-init
loop-k-init c = passed_none

pub returns-then-not-position_fits : goal.returns-then-not-position_fits
unfolding positions_judged
returns-then-not-position_fits c = sym (failed_at c.loop-k.invariant (cc) (omega arith))

pub loop-k-preserved : goal.loop-k-preserved
loop-k-preserved c = passed_more c.loop-k.invariant (cc)

pub returns : goal.returns
unfolding positions_judged
returns c = sym (passed_all c.loop-k.invariant (omega arith))
