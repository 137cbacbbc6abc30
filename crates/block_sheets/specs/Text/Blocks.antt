-- Document 02, item 2: 'sheets by shifted blocks'. Size, counts and entries, and the graph of their places.
use Rattle.std.specs.Prelude.{List, map, ℕ, get_or}
use Rattle.rules.specs.Graphs.{Graph, check_degree}
use Rattle.texts.specs.Lines.{Pair, pair}
use Rattle.code_sheets.specs.Text.Reading.{graph_in}
use Rattle.texts.specs.Triples.{Triple, triple}

pub record Blocks : Type 0 where
  pub size : ℕ  -- Z
  pub rows : ℕ
  pub columns : ℕ
  pub entries : List Triple  -- (i, j, k): row, column, shift

-- Row and column of an entry.
abbrev pub place : Triple → Pair
place p = pair p.first p.second

-- Entry q.
abbrev pub block_at : Blocks → ℕ → Triple
block_at b q = get_or b.entries q (triple 0 0 0)

-- The places alone, as the ordinary graph of a sheet: its checks are the block rows, its variables the block columns.
abbrev pub places_of : Blocks → Graph
places_of b = graph_in (pair b.columns b.rows) (map place b.entries)

-- The number of the first entry of block row i, and how many entries the row has.
abbrev pub start_of_block : Blocks → ℕ → ℕ
start_of_block b i = (places_of b).start i

abbrev pub block_degree : Blocks → ℕ → ℕ
block_degree b i = check_degree (places_of b) i
