-- The expansion of blocks, an ordinary graph.
use Rattle.std.specs.Prelude.{ℕ, suc, ◌+◌, ◌-◌, ◌*◌, ◌/◌, ◌%◌, ltb, length}
use Rattle.rules.specs.Ranges.{fold, first}
use Rattle.rules.specs.Graphs.{Graph}
use Rattle.texts.specs.Triples.{Triple}
use Rattle.block_sheets.specs.Text.Blocks.{Blocks, block_at, start_of_block, block_degree}

-- ---- a graph given by its rows

-- Where row c starts, for rows of these degrees: how many entries are above it.
unfoldable pub row_start : (ℕ → ℕ) → ℕ → ℕ
row_start degree c = fold ◌+◌ 0 degree 0 c

-- The row of entry e: the first that ends after it.
unfoldable pub row_of : (ℕ → ℕ) → ℕ → ℕ → ℕ
row_of degree m e = first (λ c. ltb e (row_start degree (suc c))) 0 m

-- n variables, and m checks of these degrees, whose entry p is at variable `at c p`. E is given beside them.
abbrev pub rows_graph : ℕ → ℕ → ℕ → (ℕ → ℕ) → (ℕ → ℕ → ℕ) → Graph
rows_graph n m total degree at = record {
  variables = n;
  checks = m;
  entries = total;
  start = row_start degree;
  column = λ e. at (row_of degree m e) (e - row_start degree (row_of degree m e));
}

-- ---- the expansion

-- 'Variable jZ + ((r + k) mod Z)', for the entry (i, j, k).
abbrev pub one_at : ℕ → Triple → ℕ → ℕ
one_at Z p r = p.second * Z + (r + p.third) % Z

-- Check iZ + r has an entry for each of block row i, in their order.
abbrev pub degree_of : Blocks → ℕ → ℕ
degree_of b c = block_degree b (c / b.size)

abbrev pub column_of : Blocks → ℕ → ℕ → ℕ
column_of b c p = one_at b.size (block_at b (start_of_block b (c / b.size) + p)) (c % b.size)

abbrev pub expansion : Blocks → Graph
expansion b = rows_graph (b.columns * b.size) (b.rows * b.size) (b.size * length b.entries) (degree_of b) (column_of b)
