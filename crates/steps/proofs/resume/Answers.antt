use mathlib.Core.Path.{refl, ap, ◌∙◌}
use native.Mathlib.Omega.{arith}
use Rattle.rules.specs.Ranges.{tabulate}
use Rattle.steps.proofs.Stepping.{sum_small}
use Rattle.steps.proofs.Lifting.{small_under, parts_under_lem}
use Rattle.steps.proofs.Running.{resumed_none, resumed_sends, made_none}
use Rattle.steps.proofs.resume.Goals as goal

pub returns-then-t-eq0 : goal.returns-then-t-eq0
returns-then-t-eq0 c =
    let a = c.args in
    λ σ given. resumed_none a.graph.variables a.graph.starts.now a.graph.columns.now c.requires.admissible.1.admitted _ _ _ (small_under c.requires.admissible.0) a.levels.now given (omega (arith, c.if-t-eq0.true))

pub add_up-requires : goal.add_up-requires
add_up-requires c = (c.requires.admissible.1, parts_under_lem c.requires.admissible.0 c.args.t c.parts.ensures)

pub send-requires-clause-admissible : goal.send-requires-clause-admissible
send-requires-clause-admissible c =
    (c.requires.admissible.0, omega arith, made_none refl, parts_under_lem c.requires.admissible.0 c.args.t c.parts.ensures)

pub send-requires-clause-by_index_2 : goal.send-requires-clause-by_index_2
send-requires-clause-by_index_2 c =
    let a = c.args in
    let z = c.requires.admissible.1 in
    let w = parts_under_lem c.requires.admissible.0 a.t c.parts.ensures in
    λ v h. sum_small a.graph.variables a.graph.starts.now a.graph.columns.now z.admitted a.levels.now w a.check_messages.now c.add_up.ensures v (omega (arith, c.add_up.auto.sums, z.sums))

pub returns : goal.returns
returns c =
    let a = c.args in
    let z = c.requires.admissible.1 in
    λ σ given. resumed_sends a.graph.variables a.graph.starts.now a.graph.columns.now z.admitted _ _ _ (small_under c.requires.admissible.0) a.levels.now given (λ h. omega (arith, c.if-t-eq0.false)) c.parts.ensures
    (parts_under_lem c.requires.admissible.0 c.args.t c.parts.ensures) (c.send.ensures.0 refl) c.add_up.ensures (c.send.ensures.1 ∙ ap (tabulate _) z.check_messages)
