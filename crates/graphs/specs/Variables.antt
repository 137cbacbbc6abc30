-- Document 01, 'Check a graph', 5: the degrees of the variables, by a list of them.
use Rattle.std.specs.Prelude.{ℕ, ◌+◌}
use Rattle.rules.specs.Graphs.{Limits, least_variable_degree, between}
use Rattle.refusals.specs.Refusals.{unless, each, Judged}
use Rattle.refusals.specs.declared.Refusal.TheVariants.{Degree}

-- '5, a degree outside its limits (m + lowest variable)': v has `degree v` entries, and m checks stand before the n variables.
abbrev pub variables_judged : Limits → ℕ → (ℕ → ℕ) → ℕ → Judged
variables_judged L m degree n = each (λ v. unless (between least_variable_degree (degree v) L.variable_degree) (Degree (m + v))) n
