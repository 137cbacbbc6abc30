use Rattle.steps.proofs.Stepping.{iterated_is}
use Rattle.steps.proofs.iterate.Goals as goal

pub returns : goal.returns
returns c =
    let a = c.args in
    let z = c.requires.0 in
    iterated_is a.graph.variables a.graph.starts.now a.graph.columns.now z.summed.admitted z c.requires.1 c.check_nodes.ensures c.add_up.ensures c.decide.ensures
