use Rattle.words.specs.Roles.{graph_lent}
use Rattle.pausing.proofs.Pausing.{begins_exactly}
use Rattle.pausing.proofs.exact.begin_exactly.Goals as goal

pub returns : goal.returns
returns c = let a = c.args in begins_exactly (graph_lent a.graph) a.values.now c.requires.ready c.begin_exactly.ensures c.odd_checks.ensures c.run_at.ensures
