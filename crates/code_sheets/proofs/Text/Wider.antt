-- Wider limits make nothing else of lines that are not refused with 2.
use mathlib.Core.Path.{◌≡◌, refl}
use mathlib.Core.Bool.{Bool, true, false}
use native.Mathlib.Omega.{arith}
use Rattle.rules.specs.Graphs.{Limits, Wider}
use Rattle.texts.specs.Lines.{Pair}
use Rattle.texts.proofs.Wider.{Looser, sheets_alike}
use Rattle.code_sheets.specs.Text.Reading.{counts_fit, sheet_layout}
use Rattle.code_sheets.specs.Text.Theorems.{LinesAlike}
use Rattle.code_sheets.proofs.Text.Sheets.{counts_told, counts_fit_lem}

looser : {L M : Limits} → Wider L M → (c : Pair) → Looser ((sheet_layout L).counts_judged c) ((sheet_layout M).counts_judged c)
looser {L} {M} w c h = go (counts_fit L c) refl
  where
    go : (b : Bool) → counts_fit L c ≡ b → (sheet_layout M).counts_judged c ≡ (sheet_layout L).counts_judged c
    go true e =
        let n = counts_told L c (rw e) in
        rw e (counts_fit_lem M c (n.0.0, omega (arith, n.0.1, w.variables)) (n.1.0, omega (arith, n.1.1, w.checks)))
    go false e = absurd (h 2 (rw e))

pub lines_alike : LinesAlike
lines_alike L M w t h = sheets_alike (sheet_layout L) (sheet_layout M).counts_judged (sheet_layout M).room (looser w) (λ c. w.entries) t h
