-- The calls on a graph, each where it ends: the answer, and the list of degrees as the check of the graph left it.
use Rattle.std.specs.Prelude.{Ok, Err}
use Rattle.std.specs.Result.{is_err}
use mathlib.Core.Path.{◌≡◌, refl, sym, ap, ◌∙◌}
use mathlib.Core.Bool.{Bool, false}
use mathlib.Core.List.{List}
use Prim.Native.Nat.{ℕ, ◌+◌, ◌≤◌, ◌<◌}
use native.Mathlib.Omega.{arith}
use borrow.Author.Tests.{le-ltb, lt-ltb, ltb-true, eq-eqb, ne_eqb}
use lib.Dec.{ltb}
use lib.ListN.{length}
use Rattle.rules.specs.Ranges.{one}
use Rattle.rules.specs.Graphs.{Graph, limits, unsatisfied}
use Rattle.rules.proofs.Rows.{admitted_row}
use Rattle.refusals.specs.Refusals.{Judged}
use Rattle.refusals.specs.declared.Refusal.{Refusal}
use Rattle.refusals.specs.declared.Refusal.TheVariants.{Range, Length}
use Rattle.refusals.proofs.Judging.{or_else_left, or_else_right, unless_true}
use Rattle.words.specs.Roles.{bit_of_byte}
use Rattle.graphs.specs.Judging.{graph_judged_in}
use Rattle.graphs.specs.Degrees.{Checks}
use Rattle.graphs.specs.Calls.{row_judgement, bytes_judged, bits_judged, JudgesRow, CountsOdd}
use Rattle.graphs.proofs.Lending.{lent_admitted}

-- ---- row of a check

not_err : (j : Judged) → is_err j ≡ false → j ≡ Ok tt
not_err (Ok _) h = refl
not_err (Err r) h = absurd (omega (arith, ap one h))

module _ (G : Graph) (i : ℕ) {old now : List ℕ} where
  pub row_graph : {r : Refusal} → Checks limits G (Err r) old now → JudgesRow G i (Err r) old now
  unfolding row_judgement
  row_graph k = record { answer = sym (rw (sym k.answer)); degrees = k.degrees }

  module _ (k : Checks limits G (Ok tt) old now) {m : ℕ} (q : m ≡ G.checks) where
    pub row_number : m ≤ i → JudgesRow G i (Err (Range i)) old now
    unfolding row_judgement
    row_number l = record { answer = sym (rw (sym k.answer, le-ltb i G.checks (omega arith))); degrees = k.degrees }

    pub row_good : i < m → JudgesRow G i (Ok tt) old now
    unfolding row_judgement
    row_good l = record { answer = sym (rw (sym k.answer, lt-ltb i G.checks (omega arith))); degrees = k.degrees }

module _ (G : Graph) (i : ℕ) {j : Judged} {e : Bool} {old now : List ℕ} (k : JudgesRow G i j old now) (q : e ≡ is_err j) where
  -- where row i is given, it begins and ends within the columns
  module _ (no : e ≡ false) where
    given : j ≡ Ok tt
    given = not_err j (sym q ∙ no)

    pub row_within : i < G.checks
    unfolding row_judgement
    row_within = ltb-true i G.checks (unless_true (ltb i G.checks) (Range i) (or_else_right (graph_judged_in limits G (length old)) _ (sym k.answer ∙ given)))

    pub row_bounds : {a b : ℕ} → a ≡ G.start i → b ≡ G.start (i + 1) → (a ≤ b) × (b ≤ G.entries)
    unfolding row_judgement
    row_bounds p r =
        let good = lent_admitted G (length old) (or_else_left (graph_judged_in limits G (length old)) _ (sym k.answer ∙ given)) in
        let ends = admitted_row G good i row_within p r in
        (omega (arith, ends.0), ends.2)

-- ---- count odd checks

module _ (G : Graph) (bits : List ℕ) {old now : List ℕ} where
  pub odd_graph : {r : Refusal} → Checks limits G (Err r) old now → CountsOdd G bits (Err r) old now
  unfolding bits_judged
  odd_graph k = record { answer = sym (rw (sym k.answer)); degrees = k.degrees }

  module _ (k : Checks limits G (Ok tt) old now) where
    pub odd_length : (length bits ≡ G.variables → ⊥) → CountsOdd G bits (Err (Length 0)) old now
    unfolding bits_judged
    odd_length n = record { answer = sym (rw (sym k.answer, ne_eqb (length bits) G.variables n)); degrees = k.degrees }

    module _ (l : length bits ≡ G.variables) where
      pub odd_bit : {r : Refusal} → Err r ≡ bytes_judged bits → CountsOdd G bits (Err r) old now
      unfolding bits_judged
      odd_bit q = record { answer = sym (rw (sym k.answer, eq-eqb (length bits) G.variables l, sym q)); degrees = k.degrees }

      pub odd_counted : {x : ℕ} → Ok tt ≡ bytes_judged bits → x ≡ unsatisfied G (bit_of_byte bits) → CountsOdd G bits (Ok x) old now
      unfolding bits_judged
      odd_counted q c = record {
        answer = ap Ok c ∙ sym (rw (sym k.answer, eq-eqb (length bits) G.variables l, sym q));
        degrees = k.degrees;
      }
