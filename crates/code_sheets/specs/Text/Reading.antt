-- Document 01, 'Read a sheet', up to the last line: 'top line first, place the line counted from 1'.
-- The answer is a function of the text that is left, so that no place of the text stands in it.
use Rattle.std.specs.Prelude.{Bool, ◌&&◌, ◌||◌, List, [], ◌∷◌, ℕ, suc, ◌+◌, eqb, leb, ltb, length, get_or}
use Rattle.rules.specs.Ranges.{one}
use Rattle.rules.specs.Graphs.{Graph, Limits, fewest_variables, fewest_checks}
use Rattle.refusals.specs.Refusals.{unless, or_else, Judged}
use Rattle.refusals.specs.declared.Refusal.TheVariants.{Count, Range, Order}
use Rattle.texts.specs.Lines.{Pair, pair, line_text, line}
use Rattle.texts.specs.Layouts.{EntryLines, Layout}
use Rattle.texts.specs.Reading as Listing
pub use Rattle.texts.specs.Reading.{refused, lines}
use Rattle.code_sheets.specs.Text.Texts.{heading, titles}

-- A refusal, or the counts and the entries.
abbrev pub Lines : Type 0
Lines = Listing.Lines Pair Pair

-- Whether n and m are within limits.
abbrev pub counts_fit : Limits → Pair → Bool
counts_fit L c =
    (leb fewest_variables c.first && leb c.first L.variables) && (leb fewest_checks c.second && leb c.second L.checks)

-- Whether p is the place `low` or after it, by check and then variable.
abbrev pub not_before : Pair → Pair → Bool
not_before low p = ltb low.first p.first || (eqb low.first p.first && leb low.second p.second)

-- The place just after an entry.
abbrev pub after : Pair → Pair
after p = pair p.first (suc p.second)

-- 'For an entry 3, a number out of range; 4, not after the entry above.'
abbrev pub entry_judged : Pair → ℕ → Pair → Pair → Judged
entry_judged c l low p =
    or_else (unless (ltb p.first c.second && ltb p.second c.first) (Range l)) (unless (not_before low p) (Order l))

-- The lines of entries, a check and a variable each.
abbrev pub sheet_entries : EntryLines Pair Pair Pair
sheet_entries = record { entry = line; entry_text = line_text; entry_judged = entry_judged; low = pair 0 0; after = after }

-- The layout of a sheet under limits L. On line 2, '2, counts outside limits'; '2, .. a 32,769th entry, before its form', which 'moves to
-- the 4,000,001st'.
abbrev pub sheet_layout : Limits → Layout Pair Pair Pair
sheet_layout L = record {
  heading = heading;
  counts = line;
  counts_text = line_text;
  counts_judged = λ c. unless (counts_fit L c) (Count 2);
  titles = titles;
  entries = sheet_entries;
  room = λ c. L.entries;
}

-- Line l and those below it: k entries more are allowed, after the entries `done`, the next not before `low`.
abbrev pub rows : Pair → ℕ → ℕ → Pair → List Pair → List ℕ → Lines
rows c k l low done t = Listing.rows sheet_entries c k l low done t

-- All lines, under limits L.
abbrev pub sheet_lines : Limits → List ℕ → Lines
sheet_lines L t = Listing.sheet_lines (sheet_layout L) t

-- ---- the graph of the entries

-- How many entries are of a check below i: where row i starts.
unfoldable pub start_in : List Pair → ℕ → ℕ
start_in [] i = 0
start_in (p ∷ ps) i = one (ltb p.first i) + start_in ps i

-- The variable of entry e.
unfoldable pub column_in : List Pair → ℕ → ℕ
column_in ps e = (get_or ps e (pair 0 0)).second

abbrev pub graph_in : Pair → List Pair → Graph
graph_in c ps = record { variables = c.first; checks = c.second; entries = length ps; start = start_in ps; column = column_in ps }
