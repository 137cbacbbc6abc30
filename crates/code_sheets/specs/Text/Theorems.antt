-- The lines of a text under two sets of limits.
use Rattle.std.specs.Prelude.{◌≡◌, List, ℕ}
use Rattle.rules.specs.Graphs.{Limits, Wider}
use Rattle.refusals.specs.declared.Refusal.TheVariants.{Count}
use Rattle.code_sheets.specs.Text.Reading.{Lines, refused, sheet_lines}

-- Not refused with 2.
abbrev pub Counted : Lines → Type 0
Counted x = (l : ℕ) → x ≡ refused (Count l) → ⊥

-- Where the lines are not refused with 2 under limits L, wider limits make nothing else of them.
abbrev pub LinesAlike : Type 0
LinesAlike = (L M : Limits) → Wider L M → (t : List ℕ) → Counted (sheet_lines L t) → sheet_lines M t ≡ sheet_lines L t
