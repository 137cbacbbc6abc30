-- What is known in a pass over the entries' lines, after some of them.
use Rattle.std.specs.Prelude.{◌≡◌, List, ◌++◌, ℕ, suc, ◌+◌, ◌≤◌, ◌<◌, length, drop}
use Rattle.texts.specs.Lines.{Pair, lines_text}
use Rattle.words.specs.Roles.{column_at}
use Rattle.code_sheets.specs.Text.Reading.{start_in}
use Rattle.code_sheets.specs.Text.Scanning.{counted}
use Rattle.code_sheets.specs.declared.Counts.{Counts}
use Rattle.code_sheets.proofs.Text.Order.{Rising}
use Rattle.code_sheets.specs.Reader.Storing.{graph_from, EntriesAt, RowsTo}
use Rattle.code_sheets.specs.declared.Rows.{Rows}

-- after k of the entries ps, at place i; the rows from `filled` on have not begun
pub record At (c : Pair) (ps : List Pair) (s : List ℕ) (i k filled : ℕ) : Type 0 where
  pub done : List Pair
  pub rest : List Pair
  pub low : Pair
  pub all : ps ≡ done ++ rest
  pub text : drop i s ≡ lines_text rest
  pub got : length done ≡ k
  pub rising : Rising c low rest
  pub near : filled ≤ suc low.first
  pub high : filled ≤ suc c.second
  pub past : (d : ℕ) → filled ≤ d → start_in done d ≡ k

-- the same at the numbers of the code
pub record Pass (s : List ℕ) (counts : Counts) (from i k filled : ℕ) : Type 0 where
  pub held : EntriesAt s counts from
  pub at : At (counted counts) held.entries s i k filled

-- .. and the checks below that of the last line are judged
pub record Reached (s : List ℕ) (counts : Counts) (from : ℕ) (rows : Rows) (i k : ℕ) : Type 0 where
  pub pass : Pass s counts from i k (rows.check + 1)
  pub rows_are : RowsTo (start_in pass.held.entries) rows
  pub first : rows.first ≤ k

-- ---- a block of lines

-- j lines from entry k on were read, and their variables stand in a list.
pub record ReadTo (s : List ℕ) (counts : Counts) (from k : ℕ) (rows : Rows) (i : ℕ) (block : List ℕ) (j : ℕ) : Type 0 where
  pub reached : Reached s counts from rows i (k + j)
  pub columns : (e : ℕ) → e < j → column_at block e ≡ (graph_from s counts from).column (k + e)

-- There are lines to read.
pub record Ahead (s : List ℕ) (rows : Rows) (i k size : ℕ) : Type 0 where
  pub counts : Counts
  pub from : ℕ
  pub reached : Reached s counts from rows i k
  pub enough : k + size ≤ counts.entries

-- They were read: whatever sheet they are of.
abbrev pub ReadsOn : List ℕ → Rows → ℕ → ℕ → Rows → ℕ → List ℕ → ℕ → ℕ → Type 0
ReadsOn s rows i k rows' next block j size =
    (counts : Counts) (from : ℕ) → Reached s counts from rows i k → k + size ≤ counts.entries → ReadTo s counts from k rows' next block j
