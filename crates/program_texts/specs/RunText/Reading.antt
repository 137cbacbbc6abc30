-- Document 01, 'The program', refusal 14: the run text for n values, line by line.
-- The answer is a function of the text that is left, so that no place of the text stands in it.
use Rattle.std.specs.Prelude.{◌≡◌, cond, List, [], ◌∷◌, ◌++◌, ℕ, zero, suc, leb, length, drop, Result, Ok, Err}
use Rattle.rules.specs.Nodes.{never}
use Rattle.texts.specs.Numbers.{Front, other, value}
use Rattle.texts.specs.Lines.{lf, fixed}
use Rattle.words.specs.Words.{bytes}
use Rattle.settings.specs.declared.Parameters.{Parameters}
use Rattle.settings.specs.Settings.{largest_lift}
use Rattle.program_texts.specs.RunText.Texts.{titles, settings_line, value_title, pattern}

-- The line that is refused, or the settings and the bytes of the values, four each, lowest first.
pub data RunText : Type 0 where
  refused : ℕ → RunText
  read : Parameters → List ℕ → RunText

-- 'The first line that is of other form, missing, .. or without LF (its line)': line l, or what is made of it and of the text after it.
abbrev pub formed : {A : Type 0} → ℕ → Front A → (A → List ℕ → RunText) → RunText
formed l other k = refused l
formed l (value a t) k = k a t

-- 'Extra': line l, if there is any byte of it.
abbrev pub at_end : List ℕ → ℕ → RunText → RunText
at_end [] l x = x
at_end (b ∷ t) l x = refused l

-- 'Then n lines': k lines more, line l the next, after the values `done`.
unfoldable pub value_lines : Parameters → ℕ → ℕ → List ℕ → List ℕ → RunText
value_lines g zero l done t = at_end t l (read g done)
value_lines g (suc k) l done t = formed l (pattern lf t) (λ v r. value_lines g k (suc l) (done ++ bytes 4 v) r)

-- All lines.
unfoldable pub run_lines : ℕ → List ℕ → RunText
run_lines n t =
    formed 1 (titles t) (λ noise t₁. formed 2 (settings_line noise t₁) (λ g t₂. formed 3 (fixed value_title t₂) (λ u t₃. value_lines g n 4 [] t₃)))

-- 'Either may have 65,536 bytes': the sheet and the run text.
abbrev pub largest_input : ℕ
largest_input = 65536

-- '14, run text oversized (0).'
unfoldable pub run_text : ℕ → List ℕ → RunText
run_text n t = cond (leb (length t) largest_input) (run_lines n t) (refused 0)

-- ---- the answer, and the lent bytes afterwards

-- The settings, or the line that is refused, 0 where the text is oversized.
abbrev pub Run : Type 0
Run = Result Parameters ℕ

abbrev pub answer_of : RunText → Run
answer_of (refused l) = Err l
answer_of (read g values) = Ok g

-- The values in front, and the bytes past them unchanged; all unchanged after a refusal.
abbrev pub values_in : RunText → List ℕ → List ℕ
values_in (refused l) old = old
values_in (read g values) old = values ++ drop (length values) old

pub record ReadAs (x : RunText) (r : Run) (old now : List ℕ) : Type 0 where
  pub answer : r ≡ answer_of x
  pub values : now ≡ values_in x old

-- Document 02, item 1: 'run text means L 256', and W the largest, which then never shows: what a run text asks lifts nothing.
abbrev pub NeverLifts : Type 0
NeverLifts = (n : ℕ) (t : List ℕ) (g : Parameters) (values : List ℕ) → run_text n t ≡ read g values → (g.lift_from ≡ never) × (g.lift_to ≡ largest_lift)
