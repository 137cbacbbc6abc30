use mathlib.Core.Path.{◌≡◌}
use Prim.Native.Nat.{◌-◌}
use Rattle.rules.specs.Levels.{largest}
use Rattle.words.specs.Roles.{graph_lent}
use Rattle.nodes.specs.Memory.{level_in}
use Rattle.steps.specs.Steps.{rules_under, parts_under, MadeBy}
use Rattle.running.proofs.Going.{Going}
use Rattle.running.proofs.iterations.Given as goal

abbrev pub invariant-loop-t : goal.invariant-loop-t
invariant-loop-t l = Going (graph_lent l.graph) (rules_under l.settings (graph_lent l.graph) (level_in l.levels)) l.settings.limit (largest l.settings.message) l.begun l.end l.initial.variable_messages l.variable_messages l.t
    × (l.parts ≡ parts_under l.settings l.t) × MadeBy l.settings (l.t - l.begun) l.messages
