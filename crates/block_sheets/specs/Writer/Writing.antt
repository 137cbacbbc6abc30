-- Document 02, item 2: the block sheet's writer. The answer on any size, counts and entries, and every lent byte afterwards.
use Rattle.std.specs.Prelude.{◌≡◌, List, ◌++◌, ℕ, ◌+◌, ◌*◌, ◌/◌, leb, length, drop, Ok, Err}
use Rattle.rules.specs.Ranges.{tabulate}
use Rattle.rules.specs.Graphs.{limits}
use Rattle.refusals.specs.Refusals.{unless, or_else, Judged}
use Rattle.refusals.specs.declared.Refusal.TheVariants.{Buffer}
use Rattle.words.specs.Words.{word}
use Rattle.graphs.specs.Judging.{degrees_judged}
use Rattle.texts.specs.Triples.{Triple, triple}
use Rattle.texts.specs.Reading.{Lines, refused, lines, given}
use Rattle.code_sheets.specs.Reader.Reading.{room_for_degrees}
use Rattle.code_sheets.specs.Writer.Writing.{Written}
use Rattle.block_sheets.specs.declared.Blocks as Lent
use Rattle.block_sheets.specs.Text.Blocks.{Blocks}
use Rattle.block_sheets.specs.Text.Expansion.{expansion}
use Rattle.block_sheets.specs.Text.Reading.{counted, blocks_of, block_layout, block_text}
use Rattle.block_sheets.specs.Degrees.Lending.{block_degrees_of}

-- ---- 'takes size, counts and entries'

-- Entry q of a list of bytes: row, column and shift, 32-bit numbers, lowest byte first.
abbrev pub entry_in : List ℕ → ℕ → Triple
entry_in list q = triple (word 4 list (12 * q)) (word 4 list (12 * q + 4)) (word 4 list (12 * q + 8))

-- The entries of such a list. A part of an entry at the end is none.
abbrev pub entries_in : List ℕ → List Triple
entries_in list = tabulate (entry_in list) (length list / 12)

abbrev pub blocks_given : ℕ → ℕ → ℕ → List ℕ → Blocks
blocks_given size rows columns list = blocks_of (triple size rows columns) (entries_in list)

-- The blocks that are lent.
abbrev pub blocks_lent : Lent.Blocks → Blocks
blocks_lent b = blocks_given b.size b.rows b.columns b.entries.now

-- ---- 'refuses as its reader would up to 5, then 6'

-- What is refused of lines.
abbrev pub lines_judged : Lines Triple Triple → Judged
lines_judged (refused r) = Err r
lines_judged (lines c ps) = Ok tt

-- What the writer finds, where a list of d bytes is lent for the variables' degrees and a buffer of so many bytes for the text: what the reader
-- would of the text's lines; for the list of degrees 'a shorter one gets 6 directly before 5'; 5 of the expansion; then 6.
abbrev pub blocks_write_finds : Blocks → ℕ → ℕ → Judged
blocks_write_finds b d room =
    or_else (lines_judged (given block_layout (counted b) b.entries))
    (or_else (unless (room_for_degrees (expansion b) d) Buffer)
    (or_else (degrees_judged limits (expansion b)) (unless (leb (length (block_text b)) room) Buffer)))

-- ---- the answer, and the lent bytes

-- 'Gives the only block sheet that has them', and its length.
abbrev pub blocks_write_answer : Judged → Blocks → Written
blocks_write_answer (Ok _) b = Ok (length (block_text b))
blocks_write_answer (Err r) b = Err r

-- The lent bytes: the text in front, and those past it unchanged; all unchanged after a refusal.
abbrev pub blocks_written_in : Judged → Blocks → List ℕ → List ℕ
blocks_written_in (Ok _) b old = block_text b ++ drop (length (block_text b)) old
blocks_written_in (Err r) b old = old

-- What is refused, and the list of degrees before and after.
pub record JudgesBlocksWrite (b : Blocks) (room : ℕ) (r : Judged) (d d' : List ℕ) : Type 0 where
  pub answer : r ≡ blocks_write_finds b (length d) room
  pub degrees : d' ≡ block_degrees_of (given block_layout (counted b) b.entries) d

-- The answer, the list of degrees, and the text, before and after.
pub record WritesBlocksInto (b : Blocks) (r : Written) (d d' old now : List ℕ) : Type 0 where
  pub answer : r ≡ blocks_write_answer (blocks_write_finds b (length d) (length old)) b
  pub degrees : d' ≡ block_degrees_of (given block_layout (counted b) b.entries) d
  pub text : now ≡ blocks_written_in (blocks_write_finds b (length d) (length old)) b old
