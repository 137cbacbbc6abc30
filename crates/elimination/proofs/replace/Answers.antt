use Rattle.elimination.proofs.Steps.{replace_more}
use Rattle.elimination.proofs.replace.Goals as goal

pub loop-j-preserved : goal.loop-j-preserved
loop-j-preserved c = replace_more _ _ c.requires.1 c.loop-j.invariant c.replace_one.ensures
