-- The whole call: from the lines of a sheet under limits to what follows them; and a list of degrees that is long enough.
use Rattle.std.specs.Prelude.{Ok, Err}
use mathlib.Core.Path.{◌≡◌, refl, sym, ap, ◌∙◌, subst}
use mathlib.Core.List.{List}
use Prim.Native.Nat.{ℕ, ◌*◌, ◌≤◌}
use native.Mathlib.Omega.{arith}
use borrow.Author.Tests.{le-leb}
use lib.ListN.{length, drop}
use Rattle.rules.specs.Graphs.{Graph, Limits, limits, program_limits}
use Rattle.refusals.specs.declared.Refusal.{Refusal}
use Rattle.refusals.specs.Refusals.{Judged}
use Rattle.graphs.specs.Judging.{check_degrees_judged, variable_degrees_judged}
use Rattle.graphs.proofs.Wider.{program_wider}
use Rattle.texts.specs.Lines.{pair}
use Rattle.texts.proofs.Sheets.{rows_enough}
use Rattle.code_sheets.specs.Text.Reading.{Lines, refused, lines, sheet_entries, sheet_lines}
use Rattle.code_sheets.specs.Text.Scanning.{counted, within, largest_counts, UpTo, LinesAt}
use Rattle.code_sheets.specs.declared.Counts.{Counts}
use Rattle.code_sheets.proofs.Text.Order.{Fits}
use Rattle.code_sheets.proofs.Text.Sheets.{readable, judging, counts_told, sheet_told}
use Rattle.code_sheets.proofs.Text.Wider.{lines_alike}
use Rattle.code_sheets.specs.Reader.Reading.{Reading, after_lines, after_lines_in, unless_refused, read_judged, read_lines, sheet_read, sheet_read_in, degrees_in, degrees_of, answer_of, starts_of, columns_of, ReadAs, ReadInto, JudgedInto, Sheet}
use Rattle.code_sheets.specs.Reader.Storing.{lines_graph, lines_from, graph_from, EntriesAt, AfterLines, Finished}
use Rattle.code_sheets.specs.Reader.Theorems.{LongEnough, SameReading, SheetsAsBefore}

-- ---- the lines are refused

module _ {L : Limits} {t : List ℕ} {r : Refusal} (e : sheet_lines L t ≡ refused r) where
  pub lines_refused : {d s c : List ℕ} → ReadInto L t (Err r) d d s s c c
  unfolding sheet_read_in
  lines_refused = record { answer = rw e; degrees = rw e; starts = rw e; columns = rw e }

  pub lines_judged_lem : {d : List ℕ} {s c : ℕ} → JudgedInto L t (Err r) d d s c
  unfolding sheet_read_in
  lines_judged_lem = record { judged = rw e; degrees = rw e }

-- ---- the lines are not refused

judged_back : (j : Judged) (G : Graph) → read_judged (unless_refused j G) ≡ j
judged_back (Ok _) G = refl
judged_back (Err r) G = refl

-- the limits of the degrees are always the same
same_degrees : (most : Counts) (G : Graph) (d s c : ℕ) → after_lines_in (within most) G d s c ≡ after_lines_in limits G d s c
unfolding check_degrees_judged variable_degrees_judged
same_degrees most G d s c = refl

module _ {most : Counts} (u : UpTo most limits) {t : List ℕ} {k : Counts} {at : ℕ} (h : LinesAt (within most) t (sheet_lines (within most) t) k at) where
  from_here : lines_from t k at ≡ lines (counted k) h.entries
  from_here = rows_enough sheet_entries readable Fits judging (counted k) most.entries k.entries 4 (pair 0 0) (drop at t) h.entries h.rest (omega (arith, h.many))

  pub entries_at : EntriesAt t k at
  entries_at =
      let told = (sheet_told (within most) t (counted k) h.entries h.are).1 in
      let n = counts_told (within most) (counted k) told.counts in
      record {
        entries = h.entries;
        are = from_here;
        many = h.many;
        small = record {
          variables = omega (arith, n.0.1, u.variables);
          checks = omega (arith, n.1.1, u.checks);
          entries = omega (arith, told.few, h.many, u.entries);
        };
      }

  same_lines : sheet_lines (within most) t ≡ lines_from t k at
  same_lines = h.are ∙ sym from_here

  reading : (d s c : ℕ) → sheet_read_in (within most) t d s c ≡ unless_refused (after_lines_in limits (graph_from t k at) d s c) (graph_from t k at)
  unfolding sheet_read_in
  reading d s c = rw (same_lines, from_here) (ap (λ (j : Judged). unless_refused j (lines_graph (lines (counted k) h.entries))) (same_degrees most (lines_graph (lines (counted k) h.entries)) d s c))

  degrees_same : (d : List ℕ) → degrees_of (sheet_lines (within most) t) d ≡ degrees_in (graph_from t k at) d
  degrees_same d = rw (same_lines, from_here)

  pub read_into : {r : Sheet} {d d' s s' c c' : List ℕ} → Finished (graph_from t k at) r d d' s s' c c' → ReadInto (within most) t r d d' s s' c c'
  read_into {d} {s} {c} f =
      let x = sym (reading (length d) (length s) (length c)) in
      record {
        answer = f.read.answer ∙ ap answer_of x;
        degrees = f.degrees ∙ sym (degrees_same d);
        starts = f.read.starts ∙ ap (λ (y : Reading). starts_of y s) x;
        columns = f.read.columns ∙ ap (λ (y : Reading). columns_of y c) x;
      }

  pub judged_into : {r : Judged} {d d' : List ℕ} {s c : ℕ} → AfterLines (graph_from t k at) r d d' s c → JudgedInto (within most) t r d d' s c
  judged_into {d} {s} {c} f = record {
    judged = f.judged ∙ sym (ap read_judged (reading (length d) s c) ∙ judged_back (after_lines_in limits (graph_from t k at) (length d) s c) (graph_from t k at));
    degrees = f.degrees ∙ sym (degrees_same d);
  }

-- ---- under the limits of a sheet

module _ {k : Counts} (e : k ≡ largest_counts) where
  pub largest_up : UpTo k limits
  largest_up = record {
    variables = omega (arith, ap (λ (x : Counts). x.variables) e);
    checks = omega (arith, ap (λ (x : Counts). x.checks) e);
    entries = omega (arith, ap (λ (x : Counts). x.entries) e);
  }

  pub read_all : {t : List ℕ} {r : Sheet} {d d' s s' c c' : List ℕ} → ReadInto (within k) t r d d' s s' c c' → ReadInto limits t r d d' s s' c c'
  read_all {t} {r} {d} {d'} {s} {s'} {c} {c'} w = subst (λ x. ReadInto (within x) t r d d' s s' c c') e w

  pub judged_all : {t : List ℕ} {r : Judged} {d d' : List ℕ} {s c : ℕ} → JudgedInto (within k) t r d d' s c → JudgedInto limits t r d d' s c
  judged_all {t} {r} {d} {d'} {s} {c} w = subst (λ x. JudgedInto (within x) t r d d' s c) e w

-- ---- a list of degrees that is long enough

pub same_reading : SameReading
unfolding sheet_read sheet_read_in
same_reading L t d s c l = go (sheet_lines L t) refl
  where
    go : (x : Lines) → sheet_lines L t ≡ x → read_lines (λ G. after_lines_in L G d s c) x ≡ read_lines (λ G. after_lines L G s c) x
    go (refused r) e = refl
    go (lines k ps) e = rw (le-leb (4 * k.first) d (l k ps e))

-- a list for the most variables that L allows
pub most_enough : (L : Limits) (t : List ℕ) {d : ℕ} → 4 * L.variables ≤ d → LongEnough L t d
most_enough L t l k ps e = omega (arith, (counts_told L k (sheet_told L t k ps e).1.counts).0.1)

pub sheets_as_before : SheetsAsBefore
unfolding sheet_read sheet_read_in check_degrees_judged variable_degrees_judged
sheets_as_before t d s c h l = rw (lines_alike program_limits limits program_wider t h) (same_reading program_limits t d s c l)

module _ {L : Limits} {t : List ℕ} where
  pub read_as : {r : Sheet} {d d' s s' c c' : List ℕ} → 4 * L.variables ≤ length d → ReadInto L t r d d' s s' c c' → ReadAs (sheet_read L t (length s) (length c)) r s s' c c'
  read_as {d} {s} {c} l f =
      let x = same_reading L t (length d) (length s) (length c) (most_enough L t l) in
      record {
        answer = f.answer ∙ ap answer_of x;
        starts = f.starts ∙ ap (λ (y : Reading). starts_of y s) x;
        columns = f.columns ∙ ap (λ (y : Reading). columns_of y c) x;
      }
