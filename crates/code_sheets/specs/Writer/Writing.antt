-- Document 01, 'Write a sheet', and document 02, item 9: the answer on any graph, and every lent byte afterwards.
use Rattle.std.specs.Prelude.{◌≡◌, List, ◌++◌, ℕ, leb, length, drop, Ok, Err, Result}
use Rattle.rules.specs.Graphs.{Graph, limits}
use Rattle.refusals.specs.Refusals.{unless, or_else, Judged}
use Rattle.refusals.specs.declared.Refusal.TheVariants.{Buffer}
use Rattle.graphs.specs.Judging.{countable, graph_judged_in}
use Rattle.graphs.specs.Degrees.{degrees_in}
use Rattle.code_sheets.specs.Text.Texts.{sheet_text}
use Rattle.refusals.specs.declared.Refusal.{Refusal}

-- 'Write a sheet: the graph's .., then 6', where g is what is found of the graph and a buffer of so many bytes is lent.
unfoldable pub write_judged : Judged → Graph → ℕ → Judged
write_judged g G room = or_else g (unless (leb (length (sheet_text G)) room) Buffer)

-- What write finds: a list of d bytes is lent for the variables' degrees.
abbrev pub write_finds : Graph → ℕ → ℕ → Judged
write_finds G d room = write_judged (graph_judged_in limits G d) G room

-- The length of the text that was written, or the refusal.
abbrev pub Written : Type 0
Written = Result ℕ Refusal

-- 'The writer gives this text and its length.'
abbrev pub write_answer : Judged → Graph → Written
write_answer (Ok _) G = Ok (length (sheet_text G))
write_answer (Err r) G = Err r

-- The lent bytes: the text in front, and those past it unchanged; all unchanged after a refusal.
abbrev pub written_in : Judged → Graph → List ℕ → List ℕ
written_in (Ok _) G old = sheet_text G ++ drop (length (sheet_text G)) old
written_in (Err r) G old = old

-- What is refused, and the list of degrees before and after.
pub record JudgesWrite (G : Graph) (room : ℕ) (r : Judged) (d d' : List ℕ) : Type 0 where
  pub answer : r ≡ write_finds G (length d) room
  pub degrees : d' ≡ degrees_in (countable limits G (length d)) G d

-- The answer, the list of degrees, and the text, before and after.
pub record WritesInto (G : Graph) (r : Written) (d d' old now : List ℕ) : Type 0 where
  pub answer : r ≡ write_answer (write_finds G (length d) (length old)) G
  pub degrees : d' ≡ degrees_in (countable limits G (length d)) G d
  pub text : now ≡ written_in (write_finds G (length d) (length old)) G old
