use mathlib.Core.Path.{ap, ◌∙◌}
use Rattle.rules.specs.Ranges.{tabulate}
use Rattle.rules.specs.Levels.{byte}
use Rattle.steps.specs.Steps.{offsets_in, lifting_in}
use Rattle.decoder.specs.Runs.{levels_under}
use Rattle.decoder.proofs.Beginning.{begins_as, begun_holds}
use Rattle.decoder.proofs.begin_exactly.Goals as goal

pub returns : goal.returns
returns c =
    let z = c.requires.ready in
    let a = c.args in
    let w = begins_as c.largest-channel_most.ensures c.largest-message_most.ensures c.begin.ensures in
    record {
      levels = w.levels ∙ ap (tabulate (λ v. byte (levels_under a.settings a.values.now v))) z.count;
      holds = begun_holds a.graph.variables a.graph.starts.now a.graph.columns.now _ (offsets_in a.settings) (lifting_in a.settings) w z.count c.requires.exact.2 c.requires.exact.3;
    }
