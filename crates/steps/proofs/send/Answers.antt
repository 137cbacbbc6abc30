use mathlib.Core.Path.{refl, sym, ◌∙◌}
use mathlib.Core.Bool.{true≢false}
use Rattle.steps.proofs.send.Goals as goal

pub returns-then-not-halted : goal.returns-then-not-halted
returns-then-not-halted c = (λ _. c.messages.ensures, rw c.if-not-halted.true c.variable_nodes.ensures)

pub returns-else-not-halted : goal.returns-else-not-halted
returns-else-not-halted c = (λ h. absurd (true≢false (sym c.if-not-halted.false ∙ h)), rw c.if-not-halted.false refl)
