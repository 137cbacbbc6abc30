-- Equal degrees are judged alike.
use mathlib.Core.Path.{◌≡◌, ap, ap₂, ◌∙◌}
use Prim.Native.Nat.{ℕ, ◌+◌, ◌<◌}
use Rattle.rules.specs.Graphs.{Limits, least_variable_degree, between}
use Rattle.refusals.specs.Refusals.{unless}
use Rattle.refusals.specs.declared.Refusal.TheVariants.{Degree}
use Rattle.refusals.proofs.Judging.{each_same}
use Rattle.graphs.specs.Variables.{variables_judged}

pub variables_alike : (L : Limits) {m m' n n' : ℕ} {f g : ℕ → ℕ} → m ≡ m' → n ≡ n' → ((v : ℕ) → v < n → f v ≡ g v) → variables_judged L m f n ≡ variables_judged L m' g n'
variables_alike L {m} {m'} {n} {n'} {f} {g} p q e =
    each_same (λ v. unless (between least_variable_degree (f v) L.variable_degree) (Degree (m + v))) (λ v. unless (between least_variable_degree (g v) L.variable_degree) (Degree (m' + v))) n
    (λ v l. ap₂ (λ (x k : ℕ). unless (between least_variable_degree x L.variable_degree) (Degree (k + v))) (e v l) p)
    ∙ ap (variables_judged L m' g) q
