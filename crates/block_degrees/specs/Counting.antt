-- 5 on the blocks: what counting their entries owes, before anything of the expansion is stored.
use Rattle.std.specs.Prelude.{◌≡◌, List, ◌++◌, ℕ, zero, suc, ◌+◌, ◌*◌, ◌≤◌, ◌<◌, length, drop}
use Rattle.rules.specs.Graphs.{limits, least_variable_degree, between}
use Rattle.refusals.specs.Refusals.{unless, each, Judged}
use Rattle.refusals.specs.declared.Refusal.TheVariants.{Degree}
use Rattle.words.specs.Words.{stored, table}
use Rattle.words.specs.Roles.{degree_at}
use Rattle.graphs.specs.Counting.{tally}
use Rattle.graphs.specs.Degrees.{Judges}
use Rattle.texts.specs.Triples.{Triple}
use Rattle.code_sheets.specs.Reader.Storing.{RowsTo}
use Rattle.code_sheets.specs.declared.Rows.{Rows}
use Rattle.block_sheets.specs.Text.Blocks.{Blocks, block_at, start_of_block}
use Rattle.block_sheets.specs.Text.Expansion.{expansion}
use Rattle.block_sheets.specs.Text.Scanning.{counts_in}
use Rattle.block_sheets.specs.Text.Reading.{counted}
use Rattle.block_sheets.specs.Text.Theorems.{Valid}
use Rattle.block_sheets.specs.declared.Counts.{Counts}

-- The list with 0 at the first variable of each of so many block columns, and else as it was.
unfoldable pub cleared : ℕ → ℕ → List ℕ → List ℕ
cleared zero size old = old
cleared (suc j) size old = stored 4 (cleared j size old) (4 * (j * size)) 0

-- The first variable of block column j has the number g j, and what follows the variables is as it was. Of the other variables nothing is said.
pub record Heads (columns size : ℕ) (g : ℕ → ℕ) (old now : List ℕ) : Type 0 where
  pub long : length now ≡ length old
  pub heads : (j : ℕ) → j < columns → degree_at now (j * size) ≡ g j
  pub rest : drop (4 * (columns * size)) now ≡ drop (4 * (columns * size)) old

-- How many of the first q entries are in block column j.
abbrev pub in_column : Blocks → ℕ → ℕ → ℕ
in_column b q j = tally (λ e. (block_at b e).second) q j

-- All entries are counted in the list so, and the block rows went by.
pub record BlocksCounted (b : Blocks) (rows : Rows) (old now : List ℕ) : Type 0 where
  pub counts : Heads b.columns b.size (in_column b (length b.entries)) old now
  pub to : rows.check ≡ b.rows
  pub rows_are : RowsTo (start_of_block b) rows

-- 5 for the variables, of size, rows and columns c: looked for at the first variable of each block column alone.
abbrev pub column_degrees_judged : Triple → List ℕ → Judged
column_degrees_judged c d =
    each (λ j. unless (between least_variable_degree (degree_at d (j * c.first)) limits.variable_degree) (Degree (c.second * c.first + j * c.first))) c.third

-- Every variable of a block column has the number of the first.
abbrev pub Spread : ℕ → ℕ → List ℕ → List ℕ → Type 0
Spread columns size old now =
    (f : ℕ → ℕ) → ((j r : ℕ) → j < columns → r < size → degree_at old (j * size) ≡ f (j * size + r))
    → now ≡ table 4 f (columns * size) ++ drop (4 * (columns * size)) old

-- Counts whose expansion is within limits, and a list for its degrees.
pub record Judgeable (k : Counts) (d : List ℕ) : Type 0 where
  pub some : 0 < k.size
  pub variables : k.columns * k.size ≤ limits.variables
  pub checks : k.rows * k.size ≤ limits.checks
  pub enough : 4 * (k.columns * k.size) ≤ length d

-- 5 of the expansion, and its variables' degrees in the list: of any blocks of these counts that were counted.
abbrev pub JudgesBlocks : Counts → Rows → Judged → List ℕ → List ℕ → Type 0
JudgesBlocks k rows r d d' =
    (b : Blocks) (old : List ℕ) → Valid b → counted b ≡ counts_in k → BlocksCounted b rows old d → Judges limits (expansion b) r old d'
