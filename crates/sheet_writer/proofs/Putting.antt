-- Texts that are put one after the other.
use mathlib.Core.Path.{◌≡◌, refl, sym, ap, ◌∙◌}
use mathlib.Core.List.{List, [], ◌∷◌, ◌++◌}
use Prim.Native.Nat.{ℕ, ◌+◌, ◌≤◌, ◌<◌}
use native.Mathlib.Nat.{add-zero}
use native.Mathlib.Omega.{arith}
use lib.ListN.{length}
use Rattle.rules.specs.Ranges.{joined}
use Rattle.rules.specs.Graphs.{Graph}
use Rattle.texts.specs.Numbers.{decimal}
use Rattle.texts.specs.Lines.{space, lf, pair, line_text, lines_text}
use Rattle.texts.specs.Putting.{Put}
use Rattle.texts.proofs.Putting.{put_then, put_same, put_long}
use Rattle.code_sheets.specs.Text.Texts.{heading, titles, sheet_of, entries_of, sheet_text}
use Rattle.code_sheets.proofs.Writer.Texts.{joined_more, joined_within}

-- ---- lines

pub put_fields : (a b : ℕ) {old one two three now : List ℕ} {at i j k next : ℕ} → Put (decimal a) old one at i → Put (space ∷ []) one two i j
    → Put (decimal b) two three j k → Put (lf ∷ []) three now k next → Put (line_text (pair a b)) old now at next
unfolding line_text
put_fields a b p q r s = put_then p (put_then q (put_then r s))

-- ---- loops

-- the first k of the texts f
pub record PutTo (f : ℕ → List ℕ) (old now : List ℕ) (at next k : ℕ) : Type 0 where
  pub put : Put (joined f k) old now at next

module _ {f : ℕ → List ℕ} {old : List ℕ} {at : ℕ} where
  pub put_begun : PutTo f old old at at 0
  unfolding joined
  put_begun = record { put = record { text = refl; after = sym (add-zero at) } }

  pub put_next : {t mid now : List ℕ} {i next k : ℕ} → PutTo f old mid at i k → Put t mid now i next → t ≡ f k → PutTo f old now at next (k + 1)
  put_next {k = k} p q e = record { put = put_same (put_then p.put q) (ap (λ x. joined f k ++ x) e ∙ sym (joined_more f k)) }

  -- there is room for one more of the n that make the whole
  pub put_room : (n : ℕ) {whole t now : List ℕ} {next k : ℕ} → whole ≡ joined f n → PutTo f old now at next k → at + length whole ≤ length old
      → k < n → t ≡ f k → next + length t ≤ length now
  put_room n {k = k} e p r l q = omega (arith, p.put.after, put_long p.put, ap length e, ap length q, joined_within f k n l)

  pub put_all : {n : ℕ} {whole now : List ℕ} {next k : ℕ} → k ≡ n → whole ≡ joined f n → PutTo f old now at next k → Put whole old now at next
  put_all l e p = put_same p.put (ap (joined f) l ∙ sym e)

-- ---- the sheet

pub put_lines : (G : Graph) {old one two three now : List ℕ} {a b c d : ℕ} → Put heading old one 0 a
    → Put (line_text (pair G.variables G.checks)) one two a b → Put titles two three b c → Put (lines_text (entries_of G)) three now c d
    → Put (sheet_text G) old now 0 d
unfolding sheet_text sheet_of
put_lines G p q r s = put_then p (put_then q (put_then r s))
