-- How much memory a block sheet needs, and how its writer and its reader agree.
use Rattle.std.specs.Prelude.{◌≡◌, true, List, ℕ, ◌+◌, ◌*◌, ◌≤◌, length, Ok}
use Rattle.texts.specs.Reading.{lines}
use Rattle.code_sheets.specs.Reader.Reading.{graph, room_for, read_judged}
use Rattle.code_sheets.specs.Reader.Theorems.{Suffice}
use Rattle.block_sheets.specs.Text.Blocks.{Blocks}
use Rattle.block_sheets.specs.Text.Expansion.{expansion}
use Rattle.block_sheets.specs.Text.Reading.{counted, block_text, block_lines}
use Rattle.block_sheets.specs.Text.Theorems.{Valid}
use Rattle.block_sheets.specs.Reader.Reading.{block_read_in}
use Rattle.block_sheets.specs.Writer.Writing.{blocks_write_finds}

-- The text of blocks that a sheet may have: fixed lines of 18 and 17 bytes, at most 24 bytes for size and counts, and at most 21 for each entry.
abbrev pub BlocksShort : Type 0
BlocksShort = (b : Blocks) → Valid b → length (block_text b) ≤ 59 + 21 * length b.entries

pub record WrittenAndRead : Type 0 where
  -- 'the only block sheet that has them': no other text has lines of these numbers
  pub only : (b : Blocks) (t : List ℕ) → block_lines t ≡ lines (counted b) b.entries → t ≡ block_text b
  -- 'which reads to their expansion': what is written is accepted where the reader's lists suffice, and gives that graph
  pub reads : (b : Blocks) (d room : ℕ) → blocks_write_finds b d room ≡ Ok tt → (s c : ℕ) → Suffice (expansion b) d s c
      → block_read_in (block_text b) d s c ≡ graph (expansion b)
  -- 'refuses as its reader would': of any numbers, with a list of degrees as long, writer and reader find the same, number and place, where the
  -- text has room and the expansion's lists have
  pub alike : (b : Blocks) (d room s c : ℕ) → length (block_text b) ≤ room → room_for (expansion b) s c ≡ true
      → blocks_write_finds b d room ≡ read_judged (block_read_in (block_text b) d s c)
