use Rattle.words.specs.Roles.{graph_lent}
use Rattle.solving.proofs.Loading.{loads_more}
use Rattle.solving.proofs.load.Goals as goal

pub loop-j-preserved : goal.loop-j-preserved
loop-j-preserved c = loads_more (graph_lent c.args.graph) c.requires.2 c.loop-j.invariant c.load_row.ensures
