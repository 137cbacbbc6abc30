-- What the parts of judging owe.
use Rattle.std.specs.Prelude.{◌≡◌, List, [], ℕ, length}
use Rattle.rules.specs.Graphs.{limits}
use Rattle.refusals.specs.Refusals.{unless, or_else, Judged}
use Rattle.refusals.specs.declared.Refusal.TheVariants.{Buffer}
use Rattle.graphs.specs.Judging.{degrees_judged}
use Rattle.texts.specs.Triples.{Triple}
use Rattle.texts.specs.Reading.{Lines, walked}
use Rattle.code_sheets.specs.Reader.Reading.{room_for_degrees, degrees_in}
use Rattle.block_sheets.specs.Text.Blocks.{Blocks}
use Rattle.block_sheets.specs.Text.Expansion.{expansion}
use Rattle.block_sheets.specs.Text.Reading.{block_entries, block_layout}

-- The entries alone, under size and counts that are within limits.
abbrev pub entries_given : Triple → List Triple → Lines Triple Triple
entries_given c ps = walked block_entries c (block_layout.room c) 4 block_entries.low [] ps

-- 6 for the list of degrees, and 5; and the list before and after.
pub record JudgesDegrees (b : Blocks) (r : Judged) (d d' : List ℕ) : Type 0 where
  pub answer : r ≡ or_else (unless (room_for_degrees (expansion b) (length d)) Buffer) (degrees_judged limits (expansion b))
  pub degrees : d' ≡ degrees_in (expansion b) d
