-- The run stops at the first codeword, or at the limit.
use mathlib.Core.Path.{◌≡◌, refl, sym, ap, ◌∙◌}
use mathlib.Core.Bool.{Bool, true, false, cond}
use Prim.Native.Nat.{ℕ}
use native.Mathlib.Omega.{arith}
use borrow.Author.Tests.{eq-eqb, eqb-true}
use lib.Dec.{eqb}
use Rattle.rules.specs.Graphs.{Graph, Codeword, odd_check, unsatisfied}
use Rattle.rules.specs.Sequence.{Scheme, bit_at, state, unsatisfied_in, stop, final, report}
use Rattle.rules.specs.Theorems.{RunStops}
use Rattle.rules.specs.declared.Verdict.TheVariants as Verdicts
use Rattle.rules.proofs.Ranges.{First, first_is, count_zero, zero_count}

-- no check is odd exactly in a codeword
pub none_odd : (G : Graph) (b : ℕ → Bool) → unsatisfied G b ≡ 0 → Codeword G b
unfolding unsatisfied
none_odd G b h = zero_count (odd_check G b) G.checks h

pub codeword_none : (G : Graph) (b : ℕ → Bool) → Codeword G b → unsatisfied G b ≡ 0
unfolding unsatisfied
codeword_none G b w = count_zero (odd_check G b) G.checks w

module _ (G : Graph) (R : Scheme) (limit : ℕ) where
  test : ℕ → Bool
  test t = eqb (unsatisfied_in G R t) 0

  found : (t : ℕ) → test t ≡ true → Codeword G (bit_at (state G R t).bits)
  unfolding test unsatisfied_in
  found t h = none_odd G (bit_at (state G R t).bits) (eqb-true (unsatisfied_in G R t) 0 h)

  tested : (t : ℕ) → Codeword G (bit_at (state G R t).bits) → test t ≡ true
  unfolding test unsatisfied_in
  tested t w = eq-eqb (unsatisfied_in G R t) 0 (codeword_none G (bit_at (state G R t).bits) w)

  stops_first : First test 0 limit (stop G R limit)
  unfolding test stop
  stops_first = first_is test 0 limit

  says : (b : Bool) → cond b Verdicts.Codeword Verdicts.Stopped ≡ Verdicts.Codeword → b ≡ true
  says true h = refl
  says false h = cc

pub run_stops : RunStops
unfolding test final report
run_stops G R limit = record {
  within = omega (arith, f.high);
  earlier = λ t l w. clash (sym (tested G R limit t w) ∙ f.before t (omega arith) l);
  reached = λ l. found G R limit (stop G R limit) (f.found (omega arith));
  verdict = (
    (λ h. found G R limit (stop G R limit) (says G R limit (test G R limit (stop G R limit)) h)),
    (λ w. ap (λ b. cond b Verdicts.Codeword Verdicts.Stopped) (tested G R limit (stop G R limit) w)),
  );
}
  where
    f : First (test G R limit) 0 limit (stop G R limit)
    f = stops_first G R limit

    clash : true ≡ false → ⊥
    clash p = let z : ◌≡◌ {A = ℕ} 0 1 = cc in absurd (omega arith)
