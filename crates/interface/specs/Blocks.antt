-- What the C entries for block sheets promise.
use Rattle.std.specs.Prelude.{◌≡◌, List, ℕ, length}
use Rattle.code_sheets.specs.Reader.Reading.{read_judged, answer_of, starts_of, columns_of}
use Rattle.texts.specs.Reading.{given}
use Rattle.block_sheets.specs.Text.Blocks.{Blocks}
use Rattle.block_sheets.specs.Text.Reading.{counted, block_layout, block_lines}
use Rattle.block_sheets.specs.Degrees.Lending.{block_degrees_of}
use Rattle.block_sheets.specs.Reader.Reading.{block_read_in}
use Rattle.block_sheets.specs.Writer.Writing.{blocks_write_finds, blocks_write_answer, blocks_written_in}
use Rattle.interface.specs.Packing.{pack_read, pack_written, place_of}

-- The entry for reading: its answer r, packed as a sheet's, and the three lists, before and after.
pub record HostReadsBlocks (t d d' s s' c c' : List ℕ) (r : ℕ) : Type 0 where
  pub answer : r ≡ pack_read (answer_of (block_read_in t (length d) (length s) (length c)))
  pub degrees : d' ≡ block_degrees_of (block_lines t) d
  pub starts : s' ≡ starts_of (block_read_in t (length d) (length s) (length c)) s
  pub columns : c' ≡ columns_of (block_read_in t (length d) (length s) (length c)) c

-- Its companion, where lists of s and c bytes are lent.
pub record TellsBlocksLine (t d d' : List ℕ) (s c r : ℕ) : Type 0 where
  pub answer : r ≡ place_of (read_judged (block_read_in t (length d) s c))
  pub degrees : d' ≡ block_degrees_of (block_lines t) d

-- The entry for writing: its answer r, packed as a sheet's, the list of degrees and the text, before and after.
pub record HostWritesBlocks (b : Blocks) (d d' old now : List ℕ) (r : ℕ) : Type 0 where
  pub answer : r ≡ pack_written (blocks_write_answer (blocks_write_finds b (length d) (length old)) b)
  pub degrees : d' ≡ block_degrees_of (given block_layout (counted b) b.entries) d
  pub text : now ≡ blocks_written_in (blocks_write_finds b (length d) (length old)) b old

-- Its companion, where a text of so many bytes is lent.
pub record TellsBlocksPlace (b : Blocks) (d d' : List ℕ) (room r : ℕ) : Type 0 where
  pub answer : r ≡ place_of (blocks_write_finds b (length d) room)
  pub degrees : d' ≡ block_degrees_of (given block_layout (counted b) b.entries) d
