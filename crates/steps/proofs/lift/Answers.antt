use mathlib.Core.Path.{sym, ap, ◌∙◌}
use Prim.Native.Nat.{◌+◌}
use native.Mathlib.Omega.{arith}
use Rattle.rules.specs.Ranges.{tabulate}
use Rattle.rules.specs.Levels.{largest}
use Rattle.rules.specs.Nodes.{contribution, lifted}
use Rattle.rules.proofs.Own.{largest_within}
use Rattle.nodes.specs.Lists.{up_to}
use Rattle.steps.specs.Steps.{lifting_in}
use Rattle.steps.proofs.Lifting.{parts_before, parts_lifted, parts_stay}
use Rattle.steps.proofs.lift.Goals as goal

pub lift-requires : goal.lift-requires
lift-requires c =
    let p = c.requires in
    let a = c.args in (
      omega (arith, c.largest.ensures, largest_within a.settings.message (omega (arith, p.0.message, p.0.channel))),
      omega (arith, p.0.lifting),
      p.2 ∙ parts_before (largest a.settings.message) (lifting_in a.settings) a.t (omega (arith, c.if-t-settings.true)) ∙ ap (λ k. tabulate (up_to k (contribution 1)) 256) (sym c.largest.ensures),
    )

pub returns-then-t-settings : goal.returns-then-t-settings
returns-then-t-settings c =
    let p = c.requires in
    let a = c.args in
    parts_lifted (largest a.settings.message) (lifting_in a.settings) (a.t + 1) (omega (arith, c.if-t-settings.true)) (omega (arith, p.1))
    (c.lift.ensures ∙ ap (λ k. tabulate (up_to k (λ l. contribution 1 (lifted k a.settings.lift_to l))) 256) c.largest.ensures)

pub returns-else-t-settings : goal.returns-else-t-settings
returns-else-t-settings c =
    let a = c.args in
    parts_stay (largest a.settings.message) (lifting_in a.settings) a.t c.if-t-settings.false c.requires.2
