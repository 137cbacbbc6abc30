-- Document 01, 'Code sheet and program': the text of a graph.
use Rattle.std.specs.Prelude.{List, ◌++◌, ℕ, ◌+◌}
use Rattle.rules.specs.Ranges.{joined, tabulate}
use Rattle.rules.specs.Graphs.{Graph, check_degree}
use Rattle.texts.specs.Quoted.{ascii}
use Rattle.texts.specs.Lines.{Pair, pair, line_text, lines_text}

-- 'Line 1 is `variables checks`', with its LF.
abbrev pub heading : List ℕ
heading = ascii "variables checks\n"

-- 'Line 3 `check variable`', with its LF.
abbrev pub titles : List ℕ
titles = ascii "check variable\n"

-- The sheet of two counts, n and m, and entries, each a pair of a check and a variable.
unfoldable pub sheet_of : Pair → List Pair → List ℕ
sheet_of counts entries = heading ++ (line_text counts ++ (titles ++ lines_text entries))

-- The entries of check i.
unfoldable pub row_entries : Graph → ℕ → List Pair
row_entries G i = tabulate (λ k. pair i (G.column (G.start i + k))) (check_degree G i)

-- 'Then a line per graph entry, by check and then variable, rising.'
unfoldable pub entries_of : Graph → List Pair
entries_of G = joined (row_entries G) G.checks

-- The text of a graph.
unfoldable pub sheet_text : Graph → List ℕ
sheet_text G = sheet_of (pair G.variables G.checks) (entries_of G)
