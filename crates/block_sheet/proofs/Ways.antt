-- Each way out after the last line gives what the definition says of the answer and of the lists.
use Rattle.std.specs.Prelude.{Ok, Err}
use mathlib.Core.Path.{◌≡◌, refl, sym, ap, ◌∙◌}
use mathlib.Core.Bool.{true}
use mathlib.Core.List.{List}
use Prim.Native.Nat.{ℕ, suc, ◌*◌, ◌/◌, ◌≤◌, ◌<◌}
use native.Mathlib.Nat.{add-zero}
use native.Mathlib.Omega.{arith}
use borrow.Author.Tests.{le-leb, lt-leb, leb-true}
use lib.Dec.{leb}
use lib.ListN.{length}
use Rattle.rules.specs.Graphs.{Graph, limits, check_degree}
use Rattle.refusals.specs.Refusals.{unless, Judged}
use Rattle.refusals.specs.declared.Refusal.{Refusal}
use Rattle.refusals.specs.declared.Refusal.TheVariants.{Buffer}
use Rattle.refusals.proofs.Judging.{or_else_left, or_else_right, unless_true}
use Rattle.rules.proofs.Tests.{and_left, and_right, and_no}
use Rattle.words.specs.Roles.{wide}
use Rattle.graphs.specs.Judging.{check_degrees_judged, variable_degrees_judged, degrees_judged}
use Rattle.graphs.specs.Degrees.{Judges}
use Rattle.graphs.proofs.Parts.{check_degrees_told}
use Rattle.code_sheets.specs.Reader.Reading.{graph, room_for, room_for_degrees, after_lines, degrees_in, answer_of}
use Rattle.code_sheets.specs.Reader.Storing.{Stores, AfterLines, Finished}
use Rattle.block_sheets.specs.Text.Blocks.{Blocks, places_of, block_degree}
use Rattle.block_sheets.specs.Text.Expansion.{expansion}
use Rattle.block_sheets.specs.declared.Counts.{Counts}
use Rattle.block_sheets.proofs.Text.Rows.{part_div, part_below}
use Rattle.block_text.proofs.Degrees.{degrees}
use Rattle.block_degrees.specs.Counting.{Judgeable}
use Rattle.block_sheets.specs.Reader.Storing.{blocks_from, BlocksAt}

module _ {t : List ℕ} {k : Counts} {at : ℕ} (h : BlocksAt t k at) where
  abbrev b : Blocks
  b = blocks_from t k at

  abbrev G : Graph
  G = expansion b

  -- E, as the code has it
  entries_are : G.entries ≡ k.size * k.entries
  entries_are = ap (λ (n : ℕ). k.size * n) h.many

  pub judgeable : {d : List ℕ} → k.columns * k.size ≤ length d / 4 → Judgeable k d
  judgeable l = record { some = h.valid.ordered.some; variables = h.valid.variables.1; checks = h.valid.checks.1; enough = omega arith }

  pub entries_small : k.size * k.entries ≤ limits.entries
  entries_small = omega (arith, entries_are, h.valid.few)

  -- ---- what is refused after the last line

  -- the list of degrees is too short
  pub degrees_short : {d : List ℕ} {s c : ℕ} → length d / 4 < k.columns * k.size → AfterLines G (Err Buffer) d d s c
  degrees_short {d} l = let no = lt-leb (4 * G.variables) (length d) (omega arith) in record { judged = rw no; degrees = rw no }

  module _ {d d' : List ℕ} (room : k.columns * k.size ≤ length d / 4) {j : Judged} (q : Judges limits G j d d') where
    fit : room_for_degrees G (length d) ≡ true
    fit = le-leb (4 * G.variables) (length d) (omega arith)

    held : d' ≡ degrees_in G d
    held = q.degrees ∙ sym (rw fit)

    pub degrees_refused : {s c : ℕ} {r : Refusal} → j ≡ Err r → AfterLines G (Err r) d d' s c
    degrees_refused e = record { judged = rw (fit, sym q.answer ∙ e); degrees = held }

    module _ (e : j ≡ Ok tt) where
      pub starts_short : {s c : ℕ} → s / wide ≤ k.rows * k.size → AfterLines G (Err Buffer) d d' s c
      starts_short {s} {c} l = record { judged = rw (fit, sym q.answer ∙ e, lt-leb (wide * suc G.checks) s (omega arith)); degrees = held }

      pub columns_short : {s c : ℕ} → c / wide < k.size * k.entries → AfterLines G (Err Buffer) d d' s c
      columns_short {s} {c} l = record {
        judged = rw (fit, sym q.answer ∙ e, lt-leb (wide * G.entries) c (omega (arith, entries_are)), and_no (leb (wide * suc G.checks) s));
        degrees = held;
      }

      pub long_enough_lem : {s c : ℕ} → k.rows * k.size < s / wide → k.size * k.entries ≤ c / wide → AfterLines G (Ok tt) d d' s c
      long_enough_lem {s} {c} ls lc = record {
        judged = rw (fit, sym q.answer ∙ e, le-leb (wide * suc G.checks) s (omega arith), le-leb (wide * G.entries) c (omega (arith, entries_are)));
        degrees = held;
      }

  -- ---- the answer, and the lists

  module _ {d d' : List ℕ} (st co : List ℕ) {j : Judged} (q : AfterLines G j d d' (length st) (length co)) where
    pub finished_refused : {r : Refusal} → j ≡ Err r → Finished G (Err r) d d' st st co co
    finished_refused e = record { read = rw (sym q.judged ∙ e) (record { answer = refl; starts = refl; columns = refl }); degrees = q.degrees }

    module _ (e : j ≡ Ok tt) where
      lists : after_lines limits G (length st) (length co) ≡ Ok tt
      lists = or_else_right (unless (room_for_degrees G (length d)) Buffer) (after_lines limits G (length st) (length co)) (sym q.judged ∙ e)

      pub room_told : (wide * suc (k.rows * k.size) ≤ length st) × (wide * (k.size * k.entries) ≤ length co)
      room_told =
          let x = leb (wide * suc G.checks) (length st) in
          let y = leb (wide * G.entries) (length co) in
          let room = unless_true (room_for G (length st) (length co)) Buffer (or_else_right (degrees_judged limits G) (unless (room_for G (length st) (length co)) Buffer) lists) in (
            leb-true (wide * suc G.checks) (length st) (and_left x y room),
            omega (arith, entries_are, leb-true (wide * G.entries) (length co) (and_right x y room)),
          )

      -- no block row has more entries than a check may have
      pub rows_told : (i : ℕ) → i < k.rows → block_degree b i ≤ limits.check_degree
      rows_told i l =
          let good = or_else_left (degrees_judged limits G) (unless (room_for G (length st) (length co)) Buffer) lists in
          let c = i * k.size in
          let z = part_below k.size i 0 h.valid.ordered.some k.rows l in
          let told = check_degrees_told limits G (or_else_left (check_degrees_judged limits G) (variable_degrees_judged limits G) good) c (omega arith) in
          let same : check_degree G c ≡ check_degree (places_of b) i =
          (degrees b h.valid.ordered).checks c ∙ ap (check_degree (places_of b)) (ap (λ (n : ℕ). n / k.size) (sym (add-zero c)) ∙ part_div k.size i 0 h.valid.ordered.some) in
          omega (arith, told.1, same)

      pub finished_all : {st' co' : List ℕ} → Stores G st st' co co'
          → Finished G (Ok (record { variables = k.columns * k.size; checks = k.rows * k.size; entries = k.size * k.entries })) d d' st st' co co'
      finished_all m = record { read = rw (sym q.judged ∙ e) (record { answer = answer; starts = m.starts; columns = m.columns }); degrees = q.degrees }
        where
          answer : Ok (record { variables = k.columns * k.size; checks = k.rows * k.size; entries = k.size * k.entries }) ≡ answer_of (graph G)
          answer = ap (λ (n : ℕ). Ok (record { variables = k.columns * k.size; checks = k.rows * k.size; entries = n })) (sym entries_are)
