use mathlib.Core.Path.{sym}
use native.Mathlib.Omega.{arith}
use borrow.Author.Tests.{le-leb, lt-leb}
use Rattle.rules.specs.Levels.{level_of}
use Rattle.refusals.proofs.Judging.{passed_none, passed_more, passed_all, failed_at}
use Rattle.nodes.specs.Memory.{level_in}
use Rattle.pausing.specs.Pausing.{within_judged}
use Rattle.pausing.proofs.check_within.Goals as goal

pub loop-byte-init : goal.loop-byte-init
loop-byte-init c = passed_none

pub returns-then-most-byte : goal.returns-then-most-byte
unfolding within_judged level_of
returns-then-most-byte c = sym (failed_at c.loop-byte.invariant (lt-leb (level_in c.args.list.now c.loop-byte.byte-index).magnitude c.args.most (omega (arith, c.if-most-byte.true))) (omega arith))

pub loop-byte-preserved : goal.loop-byte-preserved
unfolding level_of
loop-byte-preserved c = passed_more c.loop-byte.invariant (le-leb (level_in c.args.list.now c.loop-byte.byte-index).magnitude c.args.most (omega (arith, c.if-most-byte.false)))

pub returns : goal.returns
unfolding within_judged
returns c = sym (passed_all c.loop-byte.invariant (omega arith))
