use mathlib.Core.Path.{sym, ap, ◌∙◌}
use native.Mathlib.Omega.{arith}
use Rattle.rules.specs.Ranges.{tabulate}
use Rattle.rules.specs.Levels.{largest}
use Rattle.rules.specs.Nodes.{contribution, lifted}
use Rattle.nodes.specs.Lists.{up_to}
use Rattle.steps.specs.Steps.{lifting_in}
use Rattle.steps.proofs.Lifting.{parts_before, parts_lifted}
use Rattle.steps.proofs.parts.Goals as goal

pub returns-then-settings-t : goal.returns-then-settings-t
returns-then-settings-t c =
    let a = c.args in
    parts_lifted (largest a.settings.message) (lifting_in a.settings) a.t c.if-settings-t.true c.requires.1
    (c.lift.ensures ∙ ap (λ k. tabulate (up_to k (λ l. contribution 1 (lifted k a.settings.lift_to l))) 256) c.largest-most.ensures)

pub returns-else-settings-t : goal.returns-else-settings-t
returns-else-settings-t c =
    let a = c.args in
    c.put_contributions.ensures ∙ ap (λ k. tabulate (up_to k (contribution 1)) 256) c.largest-most.ensures ∙ sym (parts_before (largest a.settings.message) (lifting_in a.settings) a.t (omega (arith, c.if-settings-t.false)))
