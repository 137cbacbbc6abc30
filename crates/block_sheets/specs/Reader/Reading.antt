-- Document 02, item 2: reading a block sheet. 'The result is the ordinary graph, under the ordinary limits and refusals.'
use Rattle.std.specs.Prelude.{◌≡◌, List, ℕ, length}
use Rattle.rules.specs.Graphs.{Graph, limits}
use Rattle.refusals.specs.Refusals.{Judged}
use Rattle.texts.specs.Triples.{Triple}
use Rattle.texts.specs.Reading.{Lines, refused, lines}
use Rattle.code_sheets.specs.Reader.Reading.{Reading, turned, after_lines_in, unless_refused, read_judged, ReadAs, Sheet}
use Rattle.block_sheets.specs.Text.Expansion.{expansion}
use Rattle.block_sheets.specs.Text.Reading.{blocks_of, block_lines}
use Rattle.block_sheets.specs.Degrees.Lending.{block_degrees_of}

-- What the lines give, where `after` is what is refused after the last.
abbrev pub read_blocks : (Graph → Judged) → Lines Triple Triple → Reading
read_blocks after (refused r) = turned r
read_blocks after (lines c ps) = unless_refused (after (expansion (blocks_of c ps))) (expansion (blocks_of c ps))

-- What reading the text gives, where lists of d, s and c bytes are lent for degrees, starts and columns: after the last line 6, 5 and 6, as for a
-- sheet.
unfoldable pub block_read_in : List ℕ → ℕ → ℕ → ℕ → Reading
block_read_in t d s c = read_blocks (λ G. after_lines_in limits G d s c) (block_lines t)

-- The answer, and the three lists before and after.
pub record BlocksReadInto (t : List ℕ) (r : Sheet) (d d' s s' c c' : List ℕ) : Type 0 where
  pub read : ReadAs (block_read_in t (length d) (length s) (length c)) r s s' c c'
  pub degrees : d' ≡ block_degrees_of (block_lines t) d

-- What is refused of it where lists of s and c bytes are lent, and the list of degrees before and after.
pub record BlocksJudgedInto (t : List ℕ) (r : Judged) (d d' : List ℕ) (s c : ℕ) : Type 0 where
  pub judged : r ≡ read_judged (block_read_in t (length d) s c)
  pub degrees : d' ≡ block_degrees_of (block_lines t) d
