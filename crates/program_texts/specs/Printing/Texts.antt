-- Document 01, 'Code sheet and program': the text that the program prints.
use Rattle.std.specs.Prelude.{cond, List, [], ◌∷◌, ◌++◌, map, ℕ, ◌+◌, ◌≤◌, eqb}
use Rattle.rules.specs.Graphs.{program_limits}
use Rattle.refusals.specs.Refusals.{paper}
use Rattle.refusals.specs.declared.Refusal.{Refusal}
use Rattle.rules.specs.declared.Verdict.{Verdict}
use Rattle.rules.specs.declared.Verdict.TheVariants.{Codeword, Stopped}
use Rattle.rules.specs.declared.Report.{Report}
use Rattle.texts.specs.Quoted.{ascii}
use Rattle.texts.specs.Lines.{space, lf, pair, line_text}
use Rattle.texts.specs.Putting.{Put}

-- The titles of a report's numbers.
abbrev pub report_titles : List ℕ
report_titles = ascii "verdict iterations unsatisfied\n"

abbrev pub verdict_text : Verdict → List ℕ
verdict_text Codeword = ascii "codeword"
verdict_text Stopped = ascii "stopped"

-- 'Verdict, iteration, odd checks': two lines, as `codeword 1 0`.
unfoldable pub verdict_lines : Verdict → ℕ → ℕ → List ℕ
verdict_lines v t u = report_titles ++ (verdict_text v ++ (space ∷ line_text (pair t u)))

abbrev pub bits_title : List ℕ
bits_title = ascii "bits\n"

-- The digit of a bit, which is a byte, 0 or 1, as memory holds it.
abbrev pub bit_text : ℕ → ℕ
bit_text b = cond (eqb b 0) 48 49

-- 'Then bits from variable 0', in one line.
unfoldable pub report_text : Report → List ℕ → List ℕ
report_text r bits = verdict_lines r.verdict r.iterations r.unsatisfied ++ (bits_title ++ (map bit_text bits ++ (lf ∷ [])))

abbrev pub refusal_titles : List ℕ
refusal_titles = ascii "refusal place\n"

-- 'A refusal prints `refusal place`, then the two numbers.'
unfoldable pub refusal_text : Refusal → List ℕ
refusal_text r = refusal_titles ++ line_text (pair (paper r).number (paper r).place)

-- ---- the text in lent memory

-- No text that is printed is longer: the bits, and at most 108 bytes beside them.
abbrev pub longest : ℕ
longest = program_limits.variables + 108

-- A text of at most so many bytes was put at the front: the place after it.
pub record Prints (most : ℕ) (t old now : List ℕ) (r : ℕ) : Type 0 where
  pub put : Put t old now 0 r
  pub short : r ≤ most
