-- The pass that counts: the degrees after some of the lines, one line on, and after the last.
use Rattle.std.specs.Prelude.{Ok, Err}
use mathlib.Core.Path.{◌≡◌, sym, ap, ◌∙◌, subst}
use mathlib.Core.List.{List, ◌++◌}
use Prim.Native.Nat.{ℕ, ◌+◌, ◌*◌, ◌/◌, ◌^◌, ◌≤◌, ◌<◌}
use native.Mathlib.Decide.{dec_lt}
use native.Mathlib.Nat.{add-zero, add_assoc}
use native.Mathlib.Omega.{arith}
use borrow.Author.Tests.{le-leb, lt-leb}
use lib.Dec.{leb}
use lib.ListN.{length, drop}
use Rattle.rules.specs.Graphs.{limits, variable_degree}
use Rattle.refusals.specs.Refusals.{unless, each, Judged}
use Rattle.refusals.specs.declared.Refusal.TheVariants.{Degree}
use Rattle.refusals.proofs.Judging.{each_none}
use Rattle.words.specs.Words.{stored, table}
use Rattle.words.specs.Roles.{wide, column_at, degree_at}
use Rattle.words.proofs.Words.{word_same, word_other}
use Rattle.graphs.specs.Counting.{tally}
use Rattle.degrees.proofs.Tallies.{Tallies, Cleared, tallies_none, tallies_long, tallies_small, tallies_more, tallies_from}
use Rattle.graphs.specs.Judging.{check_degrees_judged}
use Rattle.texts.specs.Lines.{pair, line}
use Rattle.texts.specs.Places.{LineRead, KnownLine}
use Rattle.code_sheets.specs.Text.Reading.{Lines, start_in, column_in}
use Rattle.code_sheets.specs.Text.Scanning.{counted}
use Rattle.code_sheets.specs.declared.Counts.{Counts}
use Rattle.code_sheets.proofs.Text.Entries.{start_zero, column_within}
use Rattle.code_sheets.specs.Reader.Storing.{lines_graph, graph_from, EntriesAt, row_judged, GoesOn, CountedInto}
use Rattle.code_sheets.specs.declared.Rows.{Rows}
use Rattle.sheet_lines.specs.Passing.{At, Reached, ReadTo, ReadsOn}
use Rattle.sheet_lines.specs.Adding.{Next, Addable, AddsOn}
use Rattle.sheet_lines.proofs.Passing.{pass_none, pass_known, pass_numbers, pass_starts, pass_column, pass_more, pass_ends, entries_rising}

-- ---- reading

module _ {s : List ℕ} {counts : Counts} {from : ℕ} (h : EntriesAt s counts from) where
  -- the columns of the graph
  columns_are : (graph_from s counts from).column ≡ column_in h.entries
  columns_are = ap (λ (x : Lines). (lines_graph x).column) h.are

  reached_none : Reached s counts from (record { low = 0; check = 0; first = 0 }) from 0
  reached_none = record {
    pass = record { held = h; at = pass_none h (omega arith) };
    rows_are = record { judged = each_none (row_judged (start_in h.entries)); first = sym (start_zero h.entries) };
    first = omega arith;
  }

module _ {s : List ℕ} {counts : Counts} {from : ℕ} {rows : Rows} {i k : ℕ} (q : Reached s counts from rows i k) (h : k < counts.entries) where
  pub reached_known : KnownLine s i
  reached_known = pass_known q.pass h

  module _ {a b next : ℕ} (r : LineRead (line (drop i s)) s i a b next) where
    pub reached_row : (rows.check ≤ a) × (a ≤ limits.checks) × (rows.first ≤ k)
    reached_row = let n = pass_numbers q.pass h r in (omega (arith, n), omega (arith, n, q.pass.held.small.checks), q.first)

    pub reached_variable : b < 256 ^ wide
    reached_variable = omega (arith, pass_numbers q.pass h r, q.pass.held.small.variables)

    reached_column : b ≡ (graph_from s counts from).column k
    reached_column = pass_column q.pass h r ∙ sym (ap (λ (f : ℕ → ℕ). f k) (columns_are q.pass.held))

    reached_more : {rows' : Rows} → GoesOn rows a k rows' → Reached s counts from rows' next (k + 1)
    reached_more {rows'} g =
        let w = q.pass.held in
        record {
          pass = record { held = w; at = subst (λ (x : ℕ). At (counted counts) w.entries s next (k + 1) (x + 1)) (sym g.check) (pass_more q.pass h r) };
          rows_are = g.holds (start_in w.entries) q.rows_are (λ j l u. pass_starts q.pass h r j (omega arith) (omega arith));
          first = omega (arith, g.first);
        }

-- ---- a block

pub read_none : (size : ℕ) {s : List ℕ} {rows : Rows} {i k : ℕ} {block : List ℕ} → ReadsOn s rows i k rows i block 0 size
read_none size {s} {rows} {i} {k} counts from q l = record {
  reached = subst (Reached s counts from rows i) (sym (add-zero k)) q;
  columns = λ e u. absurd (omega arith);
}

-- one line more
pub read_more : (size : ℕ) {s : List ℕ} {rows rows₁ rows₂ : Rows} {i k j i₁ a b next : ℕ} {block later : List ℕ} → ReadsOn s rows i k rows₁ i₁ block j size → j < size
    → wide * size ≤ length block → LineRead (line (drop i₁ s)) s i₁ a b next → later ≡ stored wide block (wide * j) b → GoesOn rows₁ a (k + j) rows₂
    → ReadsOn s rows i k rows₂ next later (j + 1) size
read_more size {s} {rows₂ = rows₂} {k = k} {j = j} {b = b} {next = next} {block} {later} on l room r e g counts from q u =
    let p = on counts from q u in
    let h : k + j < counts.entries = omega arith in
    record {
      reached = subst (Reached s counts from rows₂ next) (add_assoc k j 1) (reached_more p.reached h r g);
      columns = λ x y. go x y (dec_lt x j);
    }
  where
    go : (x : ℕ) → x < j + 1 → Dec (x < j) → column_at later x ≡ (graph_from s counts from).column (k + x)
    go x y (yes z) = ap (λ (t : List ℕ). column_at t x) e ∙ word_other wide block j b x (omega arith) ∙ (on counts from q u).columns x z
    go x y (no z) =
        let h : k + j < counts.entries = omega arith in
        let same : x ≡ j = omega arith in
        ap (λ (t : List ℕ). column_at t x) e ∙ ap (λ (t : ℕ). column_at (stored wide block (wide * j) b) t) same
        ∙ word_same wide block (wide * j) b (omega arith) (reached_variable (on counts from q u).reached h r)
        ∙ reached_column (on counts from q u).reached h r ∙ ap (λ (t : ℕ). (graph_from s counts from).column (k + t)) (sym same)

-- the whole block
pub read_all : (size : ℕ) {s : List ℕ} {rows rows' : Rows} {i k j next : ℕ} {block : List ℕ} → j ≡ size → ReadsOn s rows i k rows' next block j size
    → ReadsOn s rows i k rows' next block size size
read_all size {s} {rows' = rows'} {k = k} {next = next} {block} e on counts from q u = subst (ReadTo s counts from k rows' next block) e (on counts from q u)

module _ {block : List ℕ} {size : ℕ} {d d₁ : List ℕ} {j : ℕ} (on : AddsOn block size d d₁ j) (l : j < size) {v : ℕ} (e : v ≡ column_at block j) where
  pub add_room : Addable block d size → (v < length d₁ / 4) × (degree_at d₁ v + 1 < 2 ^ 32)
  add_room a =
      let t = on a.variables a.column a.old a.k a.tallies a.next in
      let u : v < a.variables = omega (arith, a.next.columns j l, a.next.within j l) in
      (omega (arith, tallies_long t), omega (arith, a.next.small, tallies_small t u (omega (arith, a.next.small))))

  pub add_more : {d₂ : List ℕ} → d₂ ≡ stored 4 d₁ (4 * v) (degree_at d₁ v + 1) → AddsOn block size d d₂ (j + 1)
  add_more {d₂} w n column old k t x =
      subst (Tallies 4 n column old d₂) (add_assoc k j 1)
      (tallies_more (on n column old k t x) (omega (arith, x.columns j l, x.within j l)) (omega (arith, x.small)) (e ∙ x.columns j l) w)

-- ---- the pass

-- the entries so far are counted in the list, and the checks below that of the last one are judged
pub record Counting (s : List ℕ) (counts : Counts) (from : ℕ) (old now : List ℕ) (rows : Rows) (i k : ℕ) : Type 0 where
  pub reached : Reached s counts from rows i k
  pub tallies : Tallies 4 counts.variables (graph_from s counts from).column old now k

pub counting_none : {s : List ℕ} {counts : Counts} {from : ℕ} (older : List ℕ) {old : List ℕ} → EntriesAt s counts from → Cleared 4 counts.variables older old
    → Counting s counts from old old (record { low = 0; check = 0; first = 0 }) from 0
counting_none {s} {counts} {from} older h e = record { reached = reached_none h; tallies = tallies_none 4 counts.variables (graph_from s counts from).column older e }

module _ {s : List ℕ} {counts : Counts} {from : ℕ} {old now : List ℕ} {rows : Rows} {i k : ℕ} (q : Counting s counts from old now rows i k) where
  module _ {size : ℕ} (l : k + size ≤ counts.entries) where
    module _ {rows' : Rows} {next : ℕ} {block : List ℕ} (on : ReadsOn s rows i k rows' next block size size) where
      block_next : Next counts.variables (graph_from s counts from).column block k size
      block_next = let w = q.reached.pass.held in record {
        columns = (on counts from q.reached l).columns;
        within = λ e u.
            omega (arith, ap (λ (f : ℕ → ℕ). f (k + e)) (columns_are w), column_within (counted counts) (pair 0 0) w.entries (entries_rising w) (k + e) (omega (arith, w.many)));
        small = omega (arith, w.small.entries);
      }

      pub counting_addable : Addable block now size
      counting_addable = record {
        variables = counts.variables;
        column = (graph_from s counts from).column;
        old = old;
        k = k;
        tallies = q.tallies;
        next = block_next;
      }

      pub counting_more : {later : List ℕ} → AddsOn block size now later size → Counting s counts from old later rows' next (k + size)
      counting_more a = record {
        reached = (on counts from q.reached l).reached;
        tallies = a counts.variables (graph_from s counts from).column old k q.tallies block_next;
      }

  -- after the last line
  module _ (e : k ≡ counts.entries) {rows' : Rows} (g : GoesOn rows counts.checks k rows') (older : List ℕ) (z : Cleared 4 counts.variables older old) where
    counting_all : CountedInto (graph_from s counts from) (unless (leb counts.checks rows'.low) (Degree rows'.low)) older now
    unfolding check_degrees_judged variable_degree
    counting_all =
        let w = q.reached.pass.held in
        let to = g.holds (start_in w.entries) q.reached.rows_are (λ j l u. pass_ends q.reached.pass (omega arith) j (omega arith)) in
        subst (λ (x : Lines). CountedInto (lines_graph x) (unless (leb counts.checks rows'.low) (Degree rows'.low)) older now) (sym w.are)
        (record {
          judged = sym (subst (λ (m : ℕ). each (row_judged (start_in w.entries)) m ≡ unless (leb m rows'.low) (Degree rows'.low)) g.check to.judged);
          degrees = tallies_from q.tallies older z
              ∙ ap (λ (f : ℕ → ℕ). table 4 (tally f k) counts.variables ++ drop (4 * counts.variables) older) (columns_are w)
              ∙ ap (λ (n : ℕ). table 4 (tally (column_in w.entries) n) counts.variables ++ drop (4 * counts.variables) older) (e ∙ sym w.many);
        })

    pub counting_refused : rows'.low < counts.checks → CountedInto (graph_from s counts from) (Err (Degree rows'.low)) older now
    counting_refused l = subst (λ (j : Judged). CountedInto (graph_from s counts from) j older now) (rw (lt-leb counts.checks rows'.low l)) counting_all

    pub counting_admitted : counts.checks ≤ rows'.low → CountedInto (graph_from s counts from) (Ok tt) older now
    counting_admitted l = subst (λ (j : Judged). CountedInto (graph_from s counts from) j older now) (rw (le-leb counts.checks rows'.low l)) counting_all
