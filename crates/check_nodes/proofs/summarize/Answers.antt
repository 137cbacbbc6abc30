use Rattle.rules.specs.Levels.{level_of}
use Rattle.nodes.specs.Memory.{level_in}
use Rattle.nodes.proofs.RowLaws.{kept_none, kept_more}
use Rattle.check_nodes.proofs.summarize.Goals as goal

pub loop-b-init : goal.loop-b-init
loop-b-init c = kept_none (level_in c.args.incoming.now)

pub loop-b-preserved : goal.loop-b-preserved
unfolding level_of
loop-b-preserved c = kept_more (level_in c.args.incoming.now) c.loop-b.invariant c.absorb-s.ensures.0 c.absorb-s.ensures.1 c.absorb-s.ensures.2
