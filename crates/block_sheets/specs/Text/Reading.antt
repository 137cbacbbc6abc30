-- Document 02, item 2: the block sheet's lines, and what is refused of them.
use Rattle.std.specs.Prelude.{◌&&◌, List, ℕ, ◌*◌, ◌/◌, ltb}
use Rattle.refusals.specs.Refusals.{unless, or_else, Judged}
use Rattle.refusals.specs.declared.Refusal.TheVariants.{Count, Range, Order, Shift}
use Rattle.texts.specs.Quoted.{ascii}
use Rattle.texts.specs.Lines.{Pair, pair}
use Rattle.rules.specs.Graphs.{limits}
use Rattle.code_sheets.specs.Text.Reading.{counts_fit, not_before, after}
use Rattle.texts.specs.Layouts.{EntryLines, Layout, sheet_of}
use Rattle.texts.specs.Reading.{Lines, sheet_lines}
use Rattle.texts.specs.Triples.{Triple, triple, triple_text, triple_line}
use Rattle.block_sheets.specs.Text.Blocks.{Blocks, place}

-- Size, rows and columns, as line 2 has them.
abbrev pub counted : Blocks → Triple
counted b = triple b.size b.rows b.columns

abbrev pub blocks_of : Triple → List Triple → Blocks
blocks_of c ps = record { size = c.first; rows = c.second; columns = c.third; entries = ps }

-- n and m of the expansion.
abbrev pub expanded : Triple → Pair
expanded c = pair (c.third * c.first) (c.second * c.first)

-- 'Z = 0 with 17 before 2', where n or m is outside its limits.
abbrev pub size_judged : Triple → Judged
size_judged c = or_else (unless (ltb 0 c.first) (Shift 2)) (unless (counts_fit limits (expanded c)) (Count 2))

-- For an entry 3, row or column out of range; 'a shift not below Z with 17 directly after 3'; 4, not after the entry above.
abbrev pub block_judged : Triple → ℕ → Pair → Triple → Judged
block_judged c l low p =
    or_else (unless (ltb p.first c.second && ltb p.second c.third) (Range l))
    (or_else (unless (ltb p.third c.first) (Shift l)) (unless (not_before low (place p)) (Order l)))

abbrev pub block_entries : EntryLines Triple Triple Pair
block_entries = record {
  entry = triple_line;
  entry_text = triple_text;
  entry_judged = block_judged;
  low = pair 0 0;
  after = λ p. after (place p);
}

-- 'An entry taking E past its limit gets 2 before its form': an entry takes Z of E.
abbrev pub room_of : ℕ → ℕ
room_of size = limits.entries / size

-- 'The line `size rows columns`, its values, the line `row column shift`, then entries rising by row and then column.'
abbrev pub block_layout : Layout Triple Triple Pair
block_layout = record {
  heading = ascii "size rows columns\n";
  counts = triple_line;
  counts_text = triple_text;
  counts_judged = size_judged;
  titles = ascii "row column shift\n";
  entries = block_entries;
  room = λ c. room_of c.first;
}

-- The text of blocks.
abbrev pub block_text : Blocks → List ℕ
block_text b = sheet_of block_layout (counted b) b.entries

-- The lines of a text.
abbrev pub block_lines : List ℕ → Lines Triple Triple
block_lines t = sheet_lines block_layout t
