-- Each way out after the last line gives what the definition says of the answer and of the lists.
use Rattle.std.specs.Prelude.{Ok, Err}
use mathlib.Core.Path.{◌≡◌, refl, sym, ap, ◌∙◌}
use mathlib.Core.Bool.{true}
use mathlib.Core.List.{List}
use Prim.Native.Nat.{ℕ, suc, ◌*◌, ◌/◌, ◌≤◌, ◌<◌}
use native.Mathlib.Omega.{arith}
use borrow.Author.Tests.{le-leb, lt-leb, leb-true}
use lib.Dec.{leb}
use lib.ListN.{length}
use Rattle.rules.specs.Graphs.{Graph, limits}
use Rattle.refusals.specs.Refusals.{unless, Judged}
use Rattle.refusals.specs.declared.Refusal.{Refusal}
use Rattle.refusals.specs.declared.Refusal.TheVariants.{Buffer}
use Rattle.refusals.proofs.Judging.{or_else_right, unless_true}
use Rattle.rules.proofs.Tests.{and_left, and_right, and_no}
use Rattle.words.specs.Roles.{wide, degree_at}
use Rattle.graphs.specs.Variables.{variables_judged}
use Rattle.graphs.proofs.Lending.{variables_off}
use Rattle.graphs.specs.Judging.{degrees_judged}
use Rattle.code_sheets.specs.Text.Reading.{Lines}
use Rattle.code_sheets.specs.declared.Counts.{Counts}
use Rattle.code_sheets.specs.Reader.Reading.{graph, room_for, room_for_degrees, after_lines, degrees_in, answer_of}
use Rattle.code_sheets.specs.Reader.Storing.{lines_graph, graph_from, EntriesAt, Stores, CountedInto, AfterLines, Finished}

module _ {t : List ℕ} {k : Counts} {at : ℕ} (h : EntriesAt t k at) where
  abbrev G : Graph
  G = graph_from t k at

  -- the counts of the graph, as the code has them
  pub counts_are : (G.variables ≡ k.variables) × (G.checks ≡ k.checks) × (G.entries ≡ k.entries)
  counts_are = (
    ap (λ (x : Lines). (lines_graph x).variables) h.are,
    ap (λ (x : Lines). (lines_graph x).checks) h.are,
    ap (λ (x : Lines). (lines_graph x).entries) h.are ∙ h.many,
  )

  -- ---- what is refused after the last line

  -- the list of degrees is too short
  pub degrees_short : {d : List ℕ} {s c : ℕ} → length d / 4 < k.variables → AfterLines G (Err Buffer) d d s c
  degrees_short {d} l =
      let no = lt-leb (4 * G.variables) (length d) (omega (arith, counts_are)) in
      record { judged = rw no; degrees = rw no }

  -- the checks' degrees are refused, or not
  fits : (d : List ℕ) → k.variables ≤ length d / 4 → room_for_degrees G (length d) ≡ true
  fits d room = le-leb (4 * G.variables) (length d) (omega (arith, counts_are))

  module _ {d d' : List ℕ} (room : k.variables ≤ length d / 4) where
    held : {j : Judged} → CountedInto G j d d' → d' ≡ degrees_in G d
    held q = q.degrees ∙ sym (rw (fits d room))

    pub checks_refused : {s c : ℕ} {r : Refusal} → CountedInto G (Err r) d d' → AfterLines G (Err r) d d' s c
    checks_refused q = record { judged = rw (fits d room, sym q.judged); degrees = held q }

    module _ {u : Unit {0}} (q : CountedInto G (Ok u) d d') where
      -- the variables' degrees, off the list
      degrees_are : {j : Judged} → j ≡ variables_judged limits k.checks (degree_at d') k.variables → degrees_judged limits G ≡ j
      degrees_are v =
          rw (sym q.judged)
          (sym (v ∙ variables_off limits G d q.degrees (omega (arith, counts_are, h.small.entries)) (omega (arith, counts_are)) (omega (arith, counts_are))))

      pub variables_refused : {s c : ℕ} {r : Refusal} → Err r ≡ variables_judged limits k.checks (degree_at d') k.variables → AfterLines G (Err r) d d' s c
      variables_refused v = record { judged = rw (fits d room, degrees_are v); degrees = held q }

      module _ {w : Unit {0}} (v : Ok w ≡ variables_judged limits k.checks (degree_at d') k.variables) where
        pub starts_short : {s c : ℕ} → s / wide ≤ k.checks → AfterLines G (Err Buffer) d d' s c
        starts_short {s} {c} l = record { judged = rw (fits d room, degrees_are v, lt-leb (wide * suc G.checks) s (omega (arith, counts_are))); degrees = held q }

        pub columns_short : {s c : ℕ} → c / wide < k.entries → AfterLines G (Err Buffer) d d' s c
        columns_short {s} {c} l = record {
          judged = rw (fits d room, degrees_are v, lt-leb (wide * G.entries) c (omega (arith, counts_are)), and_no (leb (wide * suc G.checks) s));
          degrees = held q;
        }

        pub long_enough_lem : {s c : ℕ} → k.checks < s / wide → k.entries ≤ c / wide → AfterLines G (Ok tt) d d' s c
        long_enough_lem {s} {c} ls lc = record {
          judged = rw (fits d room, degrees_are v, le-leb (wide * suc G.checks) s (omega (arith, counts_are)), le-leb (wide * G.entries) c (omega (arith, counts_are)));
          degrees = held q;
        }

  -- ---- the answer, and the lists

  module _ {d d' : List ℕ} (st co : List ℕ) {j : Judged} (q : AfterLines G j d d' (length st) (length co)) where
    pub finished_refused : {r : Refusal} → j ≡ Err r → Finished G (Err r) d d' st st co co
    finished_refused e = record { read = rw (sym q.judged ∙ e) (record { answer = refl; starts = refl; columns = refl }); degrees = q.degrees }

    module _ (e : j ≡ Ok tt) where
      pub room_told : (wide * suc k.checks ≤ length st) × (wide * k.entries ≤ length co)
      room_told =
          let a = leb (wide * suc G.checks) (length st) in
          let b = leb (wide * G.entries) (length co) in
          let lists = or_else_right (unless (room_for_degrees G (length d)) Buffer) (after_lines limits G (length st) (length co)) (sym q.judged ∙ e) in
          let room = unless_true (room_for G (length st) (length co)) Buffer (or_else_right (degrees_judged limits G) (unless (room_for G (length st) (length co)) Buffer) lists) in (
            omega (arith, counts_are, leb-true (wide * suc G.checks) (length st) (and_left a b room)),
            omega (arith, counts_are, leb-true (wide * G.entries) (length co) (and_right a b room)),
          )

      pub finished_all : {st' co' : List ℕ} → Stores G st st' co co' → Finished G (Ok k) d d' st st' co co'
      finished_all m = record { read = rw (sym q.judged ∙ e) (record { answer = answer; starts = m.starts; columns = m.columns }); degrees = q.degrees }
        where
          answer : Ok k ≡ answer_of (graph G)
          answer = rw (h.are, h.many)
