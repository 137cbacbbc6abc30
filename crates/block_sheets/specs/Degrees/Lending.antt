-- Document 02, item 9, of blocks: the list of degrees after a call on them.
use Rattle.std.specs.Prelude.{List, ℕ}
use Rattle.texts.specs.Triples.{Triple}
use Rattle.texts.specs.Reading.{Lines, refused, lines}
use Rattle.code_sheets.specs.Reader.Reading.{degrees_in}
use Rattle.block_sheets.specs.Text.Expansion.{expansion}
use Rattle.block_sheets.specs.Text.Reading.{blocks_of}

-- Where no line is refused, as a sheet's of the expansion; else as it was.
abbrev pub block_degrees_of : Lines Triple Triple → List ℕ → List ℕ
block_degrees_of (refused r) old = old
block_degrees_of (lines c ps) old = degrees_in (expansion (blocks_of c ps)) old
