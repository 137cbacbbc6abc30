-- Demand 3 over levels.
use mathlib.Core.Path.{◌≡◌, sym, ap, ap₂, ◌∙◌}
use mathlib.Core.Bool.{Bool, false, cond, xor}
use mathlib.Core.List.{List}
use Prim.Native.Nat.{ℕ, zero, suc, ◌<◌, min}
use native.Mathlib.Omega.{arith}
use lib.Dec.{eqb}
use lib.ListN.{get_or}
use lib.IntN.{ℤ, pos}
use Rattle.rules.specs.Levels.{Level, plus_zero}
use Rattle.rules.specs.Graphs.{Graph, Admitted, Codeword, unsatisfied}
use Rattle.rules.specs.Nodes.{Offsets, Lifting, first_message, first_bit, from_check, counted, bit_of, outgoing_sum, outgoing, from_variable}
use Rattle.rules.specs.Sequence.{Scheme, State, unlifted, counted_in, sign_preserving, level_at, bit_at, begun, sent, iterated, next, state, unsatisfied_in, stop, final, report}
use Rattle.rules.specs.declared.Report.{Report}
use Rattle.rules.specs.declared.Verdict.TheVariants.{Codeword as codeword, Stopped as stopped}
use Rattle.rules.specs.Halting.{halted}
use Rattle.rules.specs.Symmetry.{turned, opposite, Reversed, Mirrored, SameRun, SameHalt, Symmetry}
use Rattle.rules.proofs.Ranges.{get_d_tabulate, first_ext}
use Rattle.rules.proofs.Signs.{bit_turned, outgoing_turned}
use Rattle.rules.proofs.Parity.{outgoing_nonzero}
use Rattle.rules.proofs.Turns.{Reverses, check_mirrored, only_codewords, posterior_turned, outgoing_sum_turned, unsatisfied_turned}
use Rattle.rules.proofs.Lifts.{counted_turned}
use Rattle.rules.proofs.Simulation.{state_number, Simulates, Mirrors, states_mirror}
use Rattle.rules.proofs.Halting.{halted_shorter}

module _ (G : Graph) (ok : Admitted G) (Nq : ℕ) (φ : Offsets) (Λ : Lifting) (c : ℕ → Bool) (y y' : ℕ → Level) (hy : Reversed G c y y') where
  R : Scheme
  R = sign_preserving G Nq φ Λ y

  R' : Scheme
  R' = sign_preserving G Nq φ Λ y'

  -- messages that are reversed count as reversed ones
  counted_reversed : (t : ℕ) (C C' : ℕ → Level) → Reverses G ok c C C' → Reverses G ok c (counted_in Nq Λ t C) (counted_in Nq Λ t C')
  counted_reversed t C C' h e u = ap (counted Nq Λ t) (h e u) ∙ counted_turned Nq Λ t (c (G.column e)) (C e)

  module _ (w : Codeword G c) where
    simulates : Simulates G G R R' (λ e. e) (λ v. v) (λ e. turned (c (G.column e))) (λ v. opposite (c v))
    unfolding R R' sign_preserving unlifted first_message from_variable turned
    simulates = record {
      entries = λ e u. u;
      variables = λ v u. u;
      first_message = λ e u. ap (λ (l : Level). record { minus = l.minus; magnitude = min l.magnitude Nq }) (hy (G.column e) (ok.within e u));
      check = check_mirrored G ok c w;
      sum = λ t C C' h v u. posterior_turned G ok c y y' (counted_in Nq Λ t C) (counted_in Nq Λ t C') hy (counted_reversed t C C' h) v u;
      variable = λ t C C' h e u. ap (outgoing Nq φ) (outgoing_sum_turned G ok c y y' (counted_in Nq Λ t C) (counted_in Nq Λ t C') hy (counted_reversed t C C' h) e u)
          ∙ outgoing_turned Nq φ (c (G.column e)) (outgoing_sum G y (counted_in Nq Λ t C) e) (outgoing_nonzero G y (counted_in Nq Λ t C) e u);
    }

    mirrors : (t : ℕ) → Mirrors G G R R' (λ e. e) (λ v. v) (λ e. turned (c (G.column e))) (λ v. opposite (c v)) (state G R t) (state G R' t)
    mirrors = states_mirror G G R R' (λ e. e) (λ v. v) (λ e. turned (c (G.column e))) (λ v. opposite (c v)) simulates

    mirrored : (t : ℕ) → Mirrored G c R R' t
    mirrored t = record {
      variable_messages = (mirrors t).variable_messages;
      check_messages = λ l. (mirrors t).check_messages (omega (arith, state_number G R t));
      sums = λ l. (mirrors t).sums (omega (arith, state_number G R t));
    }

    bits_turned : (t v : ℕ) → v < G.variables → bit_at (state G R' t).bits v ≡ xor (c v) (bit_at (state G R t).bits v)
    unfolding R R' sign_preserving unlifted state begun next iterated first_bit turned
    bits_turned zero v u =
        get_d_tabulate (first_bit y') G.variables v false u ∙ ap (λ l. l.minus) (hy v u)
        ∙ ap (xor (c v)) (sym (get_d_tabulate (first_bit y) G.variables v false u))
    bits_turned (suc t) v u =
        get_d_tabulate (λ v. bit_of (get_or S' v (pos 0)) (y' v).minus) G.variables v false u
        ∙ ap₂ bit_of ((mirrors (suc t)).sums (omega arith) v u) (ap (λ l. l.minus) (hy v u))
        ∙ bit_turned (c v) (get_or S v (pos 0)) (y v).minus
        ∙ ap (xor (c v)) (sym (get_d_tabulate (λ v. bit_of (get_or S v (pos 0)) (y v).minus) G.variables v false u))
      where
        S : List ℤ
        S = (state G R (suc t)).sums

        S' : List ℤ
        S' = (state G R' (suc t)).sums

    unsatisfied_same : (t : ℕ) → unsatisfied_in G R' t ≡ unsatisfied_in G R t
    unfolding unsatisfied_in
    unsatisfied_same t = unsatisfied_turned G ok c w (bit_at (state G R t).bits) (bit_at (state G R' t).bits) (bits_turned t)

    same_run : (limit : ℕ) → SameRun G c R R' limit
    unfolding stop final report
    same_run limit = record {
      report = ap₂ reported stops (ap (unsatisfied_in G R') stops ∙ unsatisfied_same (stop G R limit));
      bits = λ v u. ap (λ t. bit_at (state G R' t).bits v) stops ∙ bits_turned (stop G R limit) v u;
    }
      where
        reported : ℕ → ℕ → Report
        reported t k = record { verdict = cond (eqb k 0) codeword stopped; iterations = t; unsatisfied = k }

        stops : stop G R' limit ≡ stop G R limit
        stops = first_ext (λ t. eqb (unsatisfied_in G R' t) 0) (λ t. eqb (unsatisfied_in G R t) 0) (λ t. ap (λ k. eqb k 0) (unsatisfied_same t)) 0 limit

    -- halted at k, the runs are where those of a smaller limit end
    same_halt : (limit k : ℕ) → SameHalt G c R R' limit k
    unfolding final report unsatisfied_in
    same_halt limit k = record {
      iteration = ap (λ (σ : State). σ.iteration) at' ∙ state_number G R' (stop G R' (min k limit)) ∙ ap (λ r. r.iterations) same.report
          ∙ sym (ap (λ (σ : State). σ.iteration) at ∙ state_number G R (stop G R (min k limit)));
      unsatisfied = ap (λ (σ : State). unsatisfied G (bit_at σ.bits)) at' ∙ ap (λ r. r.unsatisfied) same.report ∙ sym (ap (λ (σ : State). unsatisfied G (bit_at σ.bits)) at);
      bits = λ v u. ap (λ (σ : State). bit_at σ.bits v) at' ∙ same.bits v u ∙ ap (λ (σ : State). xor (c v) (bit_at σ.bits v)) (sym at);
    }
      where
        same : SameRun G c R R' (min k limit)
        same = same_run (min k limit)

        at : halted G R limit k ≡ final G R (min k limit)
        at = halted_shorter G R limit k

        at' : halted G R' limit k ≡ final G R' (min k limit)
        at' = halted_shorter G R' limit k

  -- the check messages of iteration 1 tell whether c is a codeword
  only : ((t : ℕ) → Mirrored G c R R' t) → Codeword G c
  unfolding R R' sign_preserving unlifted state begun next iterated
  only m = only_codewords G ok c (level_at q) (level_at q') (m 0).variable_messages
      (λ e u. sym (get_d_tabulate (from_check G (level_at q')) G.entries e plus_zero u)
      ∙ (m 1).check_messages (omega arith) e u
      ∙ ap (turned (c (G.column e))) (get_d_tabulate (from_check G (level_at q)) G.entries e plus_zero u))
    where
      q : List Level
      q = sent G R (begun G R)

      q' : List Level
      q' = sent G R' (begun G R')

pub symmetry : Symmetry
unfolding R R'
symmetry G ok Nq φ Λ c y y' hy = record {
  exactly = (mirrored G ok Nq φ Λ c y y' hy, only G ok Nq φ Λ c y y' hy);
  runs = same_run G ok Nq φ Λ c y y' hy;
  halts = same_halt G ok Nq φ Λ c y y' hy;
  nonzero = (
    (λ t. outgoing_nonzero G y (counted_in Nq Λ t (level_at (state G (sign_preserving G Nq φ Λ y) t).check_messages))),
    (λ t. outgoing_nonzero G y' (counted_in Nq Λ t (level_at (state G (sign_preserving G Nq φ Λ y') t).check_messages))),
  );
}
