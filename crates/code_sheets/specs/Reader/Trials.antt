-- The sheet of the document's example, and that sheet with one line damaged in each way, as one table.
use Rattle.std.specs.Prelude.{Bool, false, ◌&&◌, List, [], ◌∷◌, ◌++◌, ℕ, suc}
use Prim.Native.String.{String}
use Rattle.rules.specs.Tables.{AllPass, same_list}
use Rattle.rules.specs.Ranges.{tabulate}
use Rattle.rules.specs.Graphs.{limits}
use Rattle.refusals.specs.Refusals.{paper}
use Rattle.texts.specs.Quoted.{ascii}
use Rattle.code_sheets.specs.Text.Texts.{heading, titles, sheet_text}
use Rattle.code_sheets.specs.Text.Reading.{sheet_lines}
use Rattle.code_sheets.specs.Reader.Reading.{Reading, turned, graph, sheet_read_in, degrees_of}

-- A sheet with this line of counts and these lines of entries.
abbrev pub sheet : String → String → List ℕ
sheet counts entries = heading ++ (ascii counts ++ (titles ++ ascii entries))

pub data Trial : Type 0 where
  -- where so many bytes are lent for degrees, starts and columns: n, m, starts and columns
  reads : List ℕ → ℕ → ℕ → ℕ → ℕ → ℕ → List ℕ → List ℕ → Trial
  -- the refusal's number and place
  refuses : List ℕ → ℕ → ℕ → ℕ → ℕ → ℕ → Trial
  -- the list of degrees before and after
  counts : List ℕ → List ℕ → List ℕ → Trial

-- Bytes that no degree has left.
abbrev pub sevens : ℕ → List ℕ
sevens k = tabulate (λ _. 7) k

unfoldable pub trials : List Trial
trials =
    reads (sheet "3 2\n" "0 0\n0 1\n1 1\n1 2\n") 12 12 16 3 2 (0 ∷ 2 ∷ 4 ∷ []) (0 ∷ 1 ∷ 1 ∷ 2 ∷ [])
    -- 1: an empty text, another heading, no heading's LF
    ∷ refuses [] 12 12 16 1 1
    ∷ refuses (ascii "check variable\n3 2\ncheck variable\n0 0\n0 1\n1 1\n1 2\n") 12 12 16 1 1
    ∷ refuses (ascii "variables checks") 12 12 16 1 1
    -- 1: no counts, a leading zero in them, no titles
    ∷ refuses heading 12 12 16 1 2
    ∷ refuses (sheet "03 2\n" "0 0\n0 1\n1 1\n1 2\n") 12 12 16 1 2
    ∷ refuses (heading ++ ascii "3 2\n") 12 12 16 1 3
    ∷ refuses (heading ++ ascii "3 2\nvariables checks\n") 12 12 16 1 3
    -- 1: an entry with a leading zero, two spaces, no number, no LF; an empty line
    ∷ refuses (sheet "3 2\n" "0 0\n0 01\n") 12 12 16 1 5
    ∷ refuses (sheet "3 2\n" "0 0\n0 1\n1 1\n1  2\n") 12 12 16 1 7
    ∷ refuses (sheet "3 2\n" "0 0\n0 1\n1 1\n1 \n") 12 12 16 1 7
    ∷ refuses (sheet "3 2\n" "0 0\n0 1\n1 1\n1 2") 12 12 16 1 7
    ∷ refuses (sheet "3 2\n" "0 0\n0 1\n1 1\n\n1 2\n") 12 12 16 1 7
    -- 2: n of 1 and of 1,000,001, m of 0 and of 1,000,001, a count however long
    ∷ refuses (sheet "1 2\n" "0 0\n0 1\n1 1\n1 2\n") 12 12 16 2 2
    ∷ refuses (sheet "1000001 2\n" "0 0\n0 1\n1 1\n1 2\n") 12 12 16 2 2
    ∷ refuses (sheet "3 1000001\n" "0 0\n0 1\n1 1\n1 2\n") 12 12 16 2 2
    ∷ refuses (sheet "3 0\n" "0 0\n0 1\n1 1\n1 2\n") 12 12 16 2 2
    ∷ refuses (sheet "3 184467440737095516161844674407370955161618446744073709551616\n" "0 0\n0 1\n1 1\n1 2\n") 12 12 16 2 2
    -- 3: a check and a variable out of range, before 4; 2 ^ 64, and a number longer than any limit
    ∷ refuses (sheet "3 2\n" "0 0\n0 1\n1 1\n2 0\n") 12 12 16 3 7
    ∷ refuses (sheet "3 2\n" "1 1\n0 3\n") 12 12 16 3 5
    ∷ refuses (sheet "3 2\n" "0 0\n0 1\n1 1\n1 18446744073709551616\n") 12 12 16 3 7
    ∷ refuses (sheet "3 2\n" "0 0\n0 1\n1 1\n184467440737095516161844674407370955161618446744073709551616 2\n") 12 12 16 3 7
    -- 4: the entry above again, a variable and a check before those above
    ∷ refuses (sheet "3 2\n" "0 0\n0 1\n1 1\n1 1\n") 12 12 16 4 7
    ∷ refuses (sheet "3 2\n" "0 0\n0 1\n1 1\n1 0\n") 12 12 16 4 7
    ∷ refuses (sheet "3 2\n" "0 0\n0 1\n1 1\n0 2\n") 12 12 16 4 7
    -- 5: no entries, a check with one entry, a variable with none; 6, after 5
    ∷ refuses (sheet "3 2\n" "") 12 12 16 5 0
    ∷ refuses (sheet "3 2\n" "0 0\n0 1\n1 1\n") 12 0 0 5 1
    ∷ refuses (sheet "3 2\n" "0 0\n0 1\n1 0\n1 1\n") 12 12 16 5 4
    ∷ refuses (sheet "3 2\n" "0 0\n0 1\n1 1\n1 2\n") 12 11 16 6 0
    ∷ refuses (sheet "3 2\n" "0 0\n0 1\n1 1\n1 2\n") 12 12 15 6 0
    -- 6 for a list of degrees one byte short: after the lines, before 5; a sheet of 8,193 variables, past the old limit, needs more of it
    ∷ refuses (sheet "3 2\n" "0 0\n0 01\n") 11 0 0 1 5
    ∷ refuses (sheet "3 2\n" "0 0\n0 1\n1 1\n") 11 0 0 6 0
    ∷ refuses (sheet "8193 2\n" "0 0\n0 1\n1 1\n1 2\n") 32771 12 16 6 0
    -- the degrees, after a 5 too, and the byte past them; the list as it was after a refused line, and where it is too short
    ∷ counts (sheet "3 2\n" "0 0\n0 1\n1 1\n1 2\n") (sevens 13) (1 ∷ 0 ∷ 0 ∷ 0 ∷ 2 ∷ 0 ∷ 0 ∷ 0 ∷ 1 ∷ 0 ∷ 0 ∷ 0 ∷ 7 ∷ [])
    ∷ counts (sheet "3 2\n" "0 0\n0 1\n1 1\n") (sevens 12) (1 ∷ 0 ∷ 0 ∷ 0 ∷ 2 ∷ 0 ∷ 0 ∷ 0 ∷ 0 ∷ 0 ∷ 0 ∷ 0 ∷ [])
    ∷ counts (sheet "3 2\n" "0 0\n0 01\n") (sevens 12) (sevens 12)
    ∷ counts (sheet "3 2\n" "0 0\n0 1\n1 1\n1 2\n") (sevens 11) (sevens 11)
    ∷ []

-- ---- the test

-- What was read as numbers: a refusal's number and place; or 0, n, m, the starts and the columns.
unfoldable pub told : Reading → List ℕ
told (turned r) = (paper r).number ∷ (paper r).place ∷ []
told (graph G) = 0 ∷ G.variables ∷ G.checks ∷ (tabulate G.start (suc G.checks) ++ tabulate G.column G.entries)

-- A text that is read is also the text of its graph.
unfoldable pub written_as : List ℕ → Reading → Bool
written_as t (turned r) = false
written_as t (graph G) = same_list t (sheet_text G)

unfoldable pub passes : Trial → Bool
passes (reads t d s c n m starts columns) =
    same_list (told (sheet_read_in limits t d s c)) (0 ∷ n ∷ m ∷ (starts ++ columns)) && written_as t (sheet_read_in limits t d s c)
passes (refuses t d s c number place) = same_list (told (sheet_read_in limits t d s c)) (number ∷ place ∷ [])
passes (counts t old new) = same_list (degrees_of (sheet_lines limits t) old) new

abbrev pub TrialsPass : Type 0
TrialsPass = AllPass passes trials
