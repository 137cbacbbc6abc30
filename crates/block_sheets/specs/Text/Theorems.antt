-- What the expansion of blocks is: the ones that the paper's sentence puts, in the order of an ordinary graph.
use Rattle.std.specs.Prelude.{◌≡◌, List, ℕ, suc, ◌+◌, ◌*◌, ◌/◌, ◌%◌, ◌≤◌, ◌<◌, length}
use Rattle.rules.specs.Graphs.{Graph, Limits, limits, fewest_variables, fewest_checks, check_degree, variable_degree}
use Rattle.texts.specs.Lines.{Pair, pair}
use Rattle.refusals.specs.declared.Refusal.TheVariants.{Form}
use Rattle.texts.specs.Reading.{refused, lines, given}
use Rattle.code_sheets.specs.Text.Reading.{sheet_lines}
use Rattle.texts.specs.Order.{Rising}
use Rattle.code_sheets.proofs.Text.Order.{Fits}
use Rattle.texts.specs.Triples.{Triple}
use Rattle.block_sheets.specs.Text.Blocks.{Blocks, place, block_at, places_of}
use Rattle.block_sheets.specs.Text.Reading.{counted, blocks_of, block_entries, block_layout, block_text, block_lines}
use Rattle.block_sheets.specs.Text.Expansion.{expansion}

-- ---- blocks in range and order

-- Of size, rows and columns c, the entry p may stand at the place `low` or after it: row and column in range, the shift below Z.
pub record BlockFits (c : Triple) (low : Pair) (p : Triple) : Type 0 where
  pub place_fits : Fits (pair c.third c.second) low (place p)
  pub shift : p.third < c.first

-- 'Entries rising by row and then column, at most one per pair.'
pub record Ordered (b : Blocks) : Type 0 where
  pub some : 0 < b.size
  pub rising : Rising block_entries BlockFits (counted b) (pair 0 0) b.entries

-- ---- the ones

-- 'Entry (i, j, k) with size Z puts a one at check iZ + r and variable jZ + ((r + k) mod Z), for r from 0 to Z - 1.'
pub record Puts (b : Blocks) (c v : ℕ) : Type 0 where
  pub entry : ℕ
  pub r : ℕ
  pub is_entry : entry < length b.entries
  pub is_turn : r < b.size
  pub check : c ≡ (block_at b entry).first * b.size + r
  pub variable : v ≡ (block_at b entry).second * b.size + (r + (block_at b entry).third) % b.size

-- The graph has a one at check c and variable v.
pub record HasOne (G : Graph) (c v : ℕ) : Type 0 where
  pub entry : ℕ
  pub from : G.start c ≤ entry
  pub to : entry < G.start (suc c)
  pub column : G.column entry ≡ v

-- All that the ordinary limits ask of a graph but the limits themselves.
pub record Expands (b : Blocks) : Type 0 where
  pub begins : (expansion b).start 0 ≡ 0
  pub ends : (expansion b).start (expansion b).checks ≡ (expansion b).entries
  pub rises : (c : ℕ) → (expansion b).start c ≤ (expansion b).start (suc c)
  pub within : (e : ℕ) → e < (expansion b).entries → (expansion b).column e < (expansion b).variables
  pub rising : (c e : ℕ) → c < (expansion b).checks → (expansion b).start c ≤ e → suc e < (expansion b).start (suc c)
      → (expansion b).column e < (expansion b).column (suc e)
  pub only : (c v : ℕ) → c < (expansion b).checks → HasOne (expansion b) c v → Puts b c v
  pub all : (c v : ℕ) → Puts b c v → (c < (expansion b).checks) × HasOne (expansion b) c v

-- Blocks in order expand to the ordinary graph of their ones.
abbrev pub Expanding : Type 0
Expanding = (b : Blocks) → Ordered b → Expands b

-- ---- degrees

-- The degrees of the expansion are those of the places: so 5 is judged on the blocks, before anything is stored.
pub record Degrees (b : Blocks) : Type 0 where
  pub checks : (c : ℕ) → check_degree (expansion b) c ≡ check_degree (places_of b) (c / b.size)
  pub variables : (v : ℕ) → variable_degree (expansion b) v ≡ variable_degree (places_of b) (v / b.size)

-- ---- texts and blocks

-- 'Never by `frame`': under any limits the text of blocks is no sheet.
abbrev pub NoSheet : Type 0
NoSheet = (L : Limits) (b : Blocks) → sheet_lines L (block_text b) ≡ refused (Form 1)

-- Blocks that a sheet may have.
pub record Valid (b : Blocks) : Type 0 where
  pub ordered : Ordered b
  pub variables : (fewest_variables ≤ b.columns * b.size) × (b.columns * b.size ≤ limits.variables)
  pub checks : (fewest_checks ≤ b.rows * b.size) × (b.rows * b.size ≤ limits.checks)
  pub few : b.size * length b.entries ≤ limits.entries

-- Texts whose lines are right and blocks in range and order determine each other.
pub record TextsAndBlocks : Type 0 where
  pub accepted : (t : List ℕ) (c : Triple) (ps : List Triple) → block_lines t ≡ lines c ps → Valid (blocks_of c ps) × (t ≡ block_text (blocks_of c ps))
  pub back : (b : Blocks) → Valid b → block_lines (block_text b) ≡ lines (counted b) b.entries
  -- whatever the blocks: their text is refused as they are, entry by entry, which is what their writer owes
  pub refused_alike : (b : Blocks) → block_lines (block_text b) ≡ given block_layout (counted b) b.entries
  pub one_blocks : (a b : Blocks) → Valid a → Valid b → block_text a ≡ block_text b → a ≡ b
