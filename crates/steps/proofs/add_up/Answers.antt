use native.Mathlib.Omega.{arith}
use Rattle.steps.proofs.Stepping.{part_small, part_length, summed_is}
use Rattle.steps.proofs.add_up.Goals as goal

pub add_messages-requires-clause-by_index_2 : goal.add_messages-requires-clause-by_index_2
add_messages-requires-clause-by_index_2 c =
    let a = c.args in
    let z = c.requires.0 in
    let e = c.channel_parts.ensures in
    λ v h. part_small a.graph.variables a.graph.starts.now a.graph.columns.now z.admitted z e v (omega (arith, part_length a.graph.variables a.graph.starts.now a.graph.columns.now z.admitted z e))

pub returns : goal.returns
returns c =
    let a = c.args in
    let z = c.requires.0 in
    summed_is a.graph.variables a.graph.starts.now a.graph.columns.now z.admitted z c.channel_parts.ensures a.parts.now c.add_messages.ensures
