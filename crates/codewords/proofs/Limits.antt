-- The encoder's limits: a graph within them is judged as under the wider ones, and any other is refused with 2.
use Rattle.std.specs.Prelude.{Ok, Err}
use mathlib.Core.Path.{◌≡◌, refl, sym, ap, ◌∙◌}
use mathlib.Core.Bool.{Bool, true, false, ◌&&◌, true≢false}
use mathlib.Core.List.{List}
use Prim.Native.Nat.{ℕ, ◌/◌}
use native.Mathlib.Omega.{arith}
use borrow.Author.Tests.{leb-true, le-leb}
use lib.Dec.{eqb, leb}
use lib.ListN.{length}
use Rattle.rules.specs.Graphs.{Graph, Wider, limits, AdmittedWithin}
use Rattle.refusals.specs.Refusals.{unless, or_else, Judged}
use Rattle.refusals.specs.declared.Refusal.TheVariants.{Count, Positions}
use Rattle.rules.proofs.Tests.{and_left, and_right}
use Rattle.graphs.specs.Judging.{counts_judged, shape_judged, countable, graph_judged_in}
use Rattle.graphs.specs.Calls.{bytes_judged}
use Rattle.graphs.specs.Degrees.{Checks}
use Rattle.graphs.proofs.Wider.{check_degrees_alike, variable_degrees_alike}
use Rattle.codewords.specs.Encoding.{encoder_limits, positions_judged, given_judged, input_judged, JudgesInput}

encoder_wider : Wider encoder_limits limits
encoder_wider = record { variables = omega arith; checks = omega arith; entries = omega arith; check_degree = refl; variable_degree = refl }

-- admitted under wider limits
pub admitted_wider : {G : Graph} → AdmittedWithin encoder_limits G → AdmittedWithin limits G
admitted_wider a = record {
  variables = (a.variables.0, omega (arith, a.variables.1));
  checks = (a.checks.0, omega (arith, a.checks.1));
  entries = a.entries;
  begins = a.begins;
  ends = a.ends;
  within = a.within;
  rising = a.rising;
  check_degrees = a.check_degrees;
  variable_degrees = a.variable_degrees;
}

module _ (G : Graph) where
  -- not too many variables and checks
  abbrev pub small : Bool
  small = leb G.variables encoder_limits.variables && leb G.checks encoder_limits.checks

  module _ (large : small ≡ false) where
    counts_large : counts_judged encoder_limits G ≡ Err (Count 0)
    unfolding counts_judged
    counts_large = go (leb 2 G.variables) (leb G.variables 2048) (leb 1 G.checks) (leb G.checks 512) (leb G.entries limits.entries) large
      where
        go : (a b c d e : Bool) → b && d ≡ false → or_else (unless (a && b) (Count 0)) (or_else (unless (c && d) (Count 0)) (unless e (Count 0))) ≡ Err (Count 0)
        go false b c d e h = refl
        go true false c d e h = refl
        go true true false d e h = refl
        go true true true false e h = refl
        go true true true true e h = absurd (true≢false h)

    pub judges_large : (positions given d : List ℕ) → JudgesInput G positions given (Err (Count 0)) d d
    unfolding shape_judged countable graph_judged_in input_judged
    judges_large positions given d = record { answer = sym (rw counts_large); degrees = sym (rw counts_large) }

  module _ (few : small ≡ true) where
    counts_alike : counts_judged encoder_limits G ≡ counts_judged limits G
    unfolding counts_judged
    counts_alike =
        let n = leb-true G.variables 2048 (and_left (leb G.variables 2048) (leb G.checks 512) few) in
        let m = leb-true G.checks 512 (and_right (leb G.variables 2048) (leb G.checks 512) few) in
        rw (le-leb G.variables 2048 n, le-leb G.variables 1_000_000 (omega (arith, n)), le-leb G.checks 512 m, le-leb G.checks 1_000_000 (omega (arith, m)))

    countable_alike : (d : ℕ) → countable encoder_limits G d ≡ countable limits G d
    unfolding shape_judged countable
    countable_alike d = rw counts_alike

    pub graph_alike : (d : ℕ) → graph_judged_in encoder_limits G d ≡ graph_judged_in limits G d
    unfolding graph_judged_in
    graph_alike d = rw (countable_alike d, ← check_degrees_alike encoder_wider G, ← variable_degrees_alike encoder_wider G)

    pub judges_small : (positions given : List ℕ) {j r : Judged} {d d' : List ℕ} → Checks limits G j d d' → r ≡ or_else j (given_judged G.variables positions given)
        → JudgesInput G positions given r d d'
    unfolding input_judged
    judges_small positions given {d = d} k e = record {
      answer = e ∙ ap (λ x. or_else x (given_judged G.variables positions given)) (k.answer ∙ sym (graph_alike (length d)));
      degrees = k.degrees ∙ sym (rw (countable_alike (length d)));
    }

-- ---- what is refused of the given bits

or_else_assoc : (a b c : Judged) → or_else a (or_else b c) ≡ or_else (or_else a b) c
or_else_assoc (Ok _) b c = refl
or_else_assoc (Err r) b c = refl

-- all of 18 comes before 15
pub positions_first : (n : ℕ) (positions given : List ℕ)
    → given_judged n positions given ≡ or_else (or_else (unless (eqb (length positions / 2) (length given)) Positions) (positions_judged n positions)) (bytes_judged given)
unfolding given_judged
positions_first n positions given = or_else_assoc (unless (eqb (length positions / 2) (length given)) Positions) (positions_judged n positions) (bytes_judged given)
