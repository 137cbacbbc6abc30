use Rattle.words.specs.Roles.{graph_lent}
use Rattle.decoder.specs.Runs.{levels_under}
use Rattle.decoder.proofs.Beginning.{levels_told, none_odd_early, reported, runs_same}
use Rattle.decoder.proofs.decode_exactly.Goals as goal

pub odd_at-requires-clause-bits_value : goal.odd_at-requires-clause-bits_value
odd_at-requires-clause-bits_value c = none_odd_early c.run-t.ensures

pub returns : goal.returns
returns c =
    let z = c.requires.ready in
    let a = c.args in
    let b = c.begin_exactly.ensures in
    let r = c.run-t.ensures in
    let same = runs_same (graph_lent a.graph) z.admitted _ _ _ _ (levels_under a.settings a.values.now) (levels_told z.settings a.graph.variables a.values.now b.levels) a.settings.limit
    (reported _ _ _ r c.odd_at.ensures c.ended.ensures) r.holds in
    record { levels = b.levels; report = same.0; holds = same.1 }
