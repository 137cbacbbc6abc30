-- A run under a limit that it does not outlast.
use mathlib.Core.Path.{◌≡◌, sym, ap, ◌∙◌}
use mathlib.Core.Bool.{cond}
use Prim.Native.Nat.{ℕ, ◌≤◌, min}
use native.Mathlib.Omega.{arith}
use lib.Dec.{eqb}
use Rattle.rules.specs.Graphs.{Graph}
use Rattle.rules.specs.Sequence.{Scheme, State, state, unsatisfied_in, stop, final, report}
use Rattle.rules.specs.Halting.{halted}
use Rattle.rules.specs.declared.Verdict.TheVariants as Verdicts
use Rattle.rules.proofs.Simulation.{state_number}
use Rattle.rules.proofs.Stops.{run_stops}
use Rattle.rules.proofs.Halting.{run_halts, final_number}

module _ (G : Graph) (R : Scheme) (limit : ℕ) where
  module _ (g : ℕ) (l : g ≤ stop G R limit) where
    pub final_at : final G R g ≡ state G R g
    unfolding halted
    final_at =
        let m : min g limit ≡ g = omega (arith, (run_stops G R limit).within) in
        let h : min g (stop G R limit) ≡ g = omega arith in
        ap (final G R) (sym m) ∙ sym ((run_halts G R limit).shorter g) ∙ ap (state G R) h

    pub stop_at : stop G R g ≡ g
    stop_at = sym (final_number G R g) ∙ ap (λ (σ : State). σ.iteration) final_at ∙ state_number G R g

  -- under the limit where it ends, it is the run itself
  pub alone_final : final G R (stop G R limit) ≡ final G R limit
  unfolding final
  alone_final = ap (state G R) (stop_at (stop G R limit) (omega arith))

  pub alone_report : report G R (stop G R limit) ≡ report G R limit
  unfolding report
  alone_report = ap (λ (t : ℕ). record { verdict = cond (eqb (unsatisfied_in G R t) 0) Verdicts.Codeword Verdicts.Stopped; iterations = t; unsatisfied = unsatisfied_in G R t }) (stop_at (stop G R limit) (omega arith))
