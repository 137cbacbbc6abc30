-- A row of an admitted graph, as the loops over it read it.
use mathlib.Core.Path.{◌≡◌, ap, ◌∙◌}
use Prim.Native.Nat.{ℕ, suc, ◌+◌, ◌≤◌, ◌<◌}
use native.Mathlib.Numerals.{add-one}
use native.Mathlib.Omega.{arith}
use Rattle.rules.specs.Graphs.{Graph, limits, Admitted, check_degree}
use Rattle.texts.specs.Lines.{pair, line_text}
use Rattle.rules.proofs.Rows.{admitted_row}
use Rattle.code_sheets.proofs.Writer.Texts.{entry_line}

-- row i is the entries from a to before b
pub record Row (G : Graph) (i a b : ℕ) : Type 0 where
  pub begins : a ≡ G.start i
  pub degree : b ≡ a + check_degree G i
  pub few : check_degree G i ≤ limits.check_degree
  pub within : b ≤ G.entries

module _ {G : Graph} (ad : Admitted G) {i a b : ℕ} where
  pub row_read : i < G.checks → a ≡ G.start i → b ≡ G.start (i + 1) → Row G i a b
  row_read l p q =
      let r = admitted_row G ad i l p q in
      let s : b ≡ G.start (suc i) = q ∙ ap G.start (add-one i) in
      record { begins = p; degree = omega arith; few = omega arith; within = r.2 }

-- the line of entry k of the row
pub row_line : {G : Graph} {i a b x : ℕ} (k : ℕ) → Row G i a b → x ≡ G.column (a + k) → line_text (pair i x) ≡ entry_line G i k
row_line {G} {i} k r e = ap (λ y. line_text (pair i y)) (e ∙ ap (λ s. G.column (s + k)) r.begins)
