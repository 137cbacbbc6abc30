-- Document 01, 'Read a sheet', and document 02, item 9: the answer on any text, and every lent byte afterwards.
use Rattle.std.specs.Prelude.{◌≡◌, Bool, ◌&&◌, cond, List, ◌++◌, ℕ, suc, ◌*◌, leb, length, drop, Ok, Err, Result}
use Rattle.words.specs.Roles.{wide}
use Rattle.rules.specs.Graphs.{Graph, Limits, variable_degree}
use Rattle.refusals.specs.Refusals.{unless, or_else, Judged}
use Rattle.refusals.specs.declared.Refusal.{Refusal}
use Rattle.refusals.specs.declared.Refusal.TheVariants.{Buffer}
use Rattle.words.specs.Words.{table}
use Rattle.graphs.specs.Judging.{degrees_judged}
use Rattle.code_sheets.specs.Text.Reading.{Lines, refused, lines, sheet_lines, graph_in}
use Rattle.code_sheets.specs.declared.Counts.{Counts}

-- A refusal, or the graph that the text describes.
pub data Reading : Type 0 where
  turned : Refusal → Reading
  graph : Graph → Reading

-- Whether lent lists of s and c bytes hold m + 1 starts and E columns, `wide` bytes each.
abbrev pub room_for : Graph → ℕ → ℕ → Bool
room_for G s c = leb (wide * suc G.checks) s && leb (wide * G.entries) c

-- 'After the last line 5, as above', 'then 6 with place 0.'
abbrev pub after_lines : Limits → Graph → ℕ → ℕ → Judged
after_lines L G s c = or_else (degrees_judged L G) (unless (room_for G s c) Buffer)

-- Whether a list of d bytes holds the degrees of n variables, four bytes each.
abbrev pub room_for_degrees : Graph → ℕ → Bool
room_for_degrees G d = leb (4 * G.variables) d

-- The list of degrees: 'a shorter one gets 6 directly before 5.'
abbrev pub after_lines_in : Limits → Graph → ℕ → ℕ → ℕ → Judged
after_lines_in L G d s c = or_else (unless (room_for_degrees G d) Buffer) (after_lines L G s c)

abbrev pub unless_refused : Judged → Graph → Reading
unless_refused (Ok _) G = graph G
unless_refused (Err r) G = turned r

-- What the lines give, where `after` is what is refused after the last.
abbrev pub read_lines : (Graph → Judged) → Lines → Reading
read_lines after (refused r) = turned r
read_lines after (lines k ps) = unless_refused (after (graph_in k ps)) (graph_in k ps)

-- What reading the text gives under limits L, where lists of d, s and c bytes are lent for degrees, starts and columns.
unfoldable pub sheet_read_in : Limits → List ℕ → ℕ → ℕ → ℕ → Reading
sheet_read_in L t d s c = read_lines (λ G. after_lines_in L G d s c) (sheet_lines L t)

-- The same where the list of degrees is long enough.
unfoldable pub sheet_read : Limits → List ℕ → ℕ → ℕ → Reading
sheet_read L t s c = read_lines (λ G. after_lines L G s c) (sheet_lines L t)

-- What is refused of it.
abbrev pub read_judged : Reading → Judged
read_judged (turned r) = Err r
read_judged (graph G) = Ok tt

-- ---- the answer, and the lists afterwards

-- The counts of the sheet that was read, or the refusal.
abbrev pub Sheet : Type 0
Sheet = Result Counts Refusal

abbrev pub answer_of : Reading → Sheet
answer_of (turned r) = Err r
answer_of (graph G) = Ok (record { variables = G.variables; checks = G.checks; entries = G.entries })

-- 'Two .. lists hold the graph: m+1 row starts, and E columns.' Bytes past them do not change.
abbrev pub starts_of : Reading → List ℕ → List ℕ
starts_of (turned r) old = old
starts_of (graph G) old = table wide G.start (suc G.checks) ++ drop (wide * suc G.checks) old

abbrev pub columns_of : Reading → List ℕ → List ℕ
columns_of (turned r) old = old
columns_of (graph G) old = table wide G.column G.entries ++ drop (wide * G.entries) old

-- 'Every refusal carries a number and a place, and changes no lent byte' of starts and columns.
pub record ReadAs (x : Reading) (r : Sheet) (s s' c c' : List ℕ) : Type 0 where
  pub answer : r ≡ answer_of x
  pub starts : s' ≡ starts_of x s
  pub columns : c' ≡ columns_of x c

-- The list of degrees: 'it holds the degrees after every call that came as far as 5, refused or not, and is unchanged otherwise.'
abbrev pub degrees_in : Graph → List ℕ → List ℕ
degrees_in G old =
    cond (room_for_degrees G (length old)) (table 4 (variable_degree G) G.variables ++ drop (4 * G.variables) old) old

abbrev pub degrees_of : Lines → List ℕ → List ℕ
degrees_of (refused r) old = old
degrees_of (lines k ps) old = degrees_in (graph_in k ps) old

-- The answer, and the three lists before and after.
pub record ReadInto (L : Limits) (t : List ℕ) (r : Sheet) (d d' s s' c c' : List ℕ) : Type 0 where
  pub answer : r ≡ answer_of (sheet_read_in L t (length d) (length s) (length c))
  pub degrees : d' ≡ degrees_of (sheet_lines L t) d
  pub starts : s' ≡ starts_of (sheet_read_in L t (length d) (length s) (length c)) s
  pub columns : c' ≡ columns_of (sheet_read_in L t (length d) (length s) (length c)) c

-- What is refused of it where lists of s and c bytes are lent, and the list of degrees before and after.
pub record JudgedInto (L : Limits) (t : List ℕ) (r : Judged) (d d' : List ℕ) (s c : ℕ) : Type 0 where
  pub judged : r ≡ read_judged (sheet_read_in L t (length d) s c)
  pub degrees : d' ≡ degrees_of (sheet_lines L t) d
