use Rattle.decoder.proofs.Beginning.{begun_given, runs_ended, runs_on}
use Rattle.decoder.proofs.run.Goals as goal

pub returns-then-halts : goal.returns-then-halts
returns-then-halts c = runs_ended _ _ _ c.requires.holds c.halts.ensures c.if-halts.true

pub returns : goal.returns
returns c = let h = c.requires.holds in runs_on _ _ _ h c.halts.ensures c.if-halts.false (c.go_on.ensures _ (begun_given _ _ _ _ _ h))
