-- The sheet of counts within limits and entries in order is read as these, and only such a sheet is read.
use Rattle.std.specs.Prelude.{Ok}
use mathlib.Core.Path.{◌≡◌, refl, sym, ap, ◌∙◌}
use mathlib.Core.Bool.{◌&&◌}
use mathlib.Core.List.{List, [], ◌∷◌, ◌++◌}
use Prim.Native.Nat.{ℕ, ◌≤◌}
use borrow.Author.Tests.{le-leb, leb-true}
use lib.Dec.{leb}
use Rattle.rules.specs.Graphs.{Limits, fewest_variables, fewest_checks}
use Rattle.refusals.specs.declared.Refusal.TheVariants.{Count}
use Rattle.refusals.proofs.Judging.{unless_true}
use Rattle.rules.proofs.Tests.{and_left, and_right}
use Rattle.texts.specs.Lines.{Pair, line_text, lines_text}
use Rattle.texts.proofs.Lines.{line_reads, line_text_lem, line_empty}
use Rattle.texts.specs.Layouts as Layouts
use Rattle.texts.specs.Order as Listing
use Rattle.texts.proofs.Order.{ReadableEntries, Readable, Judging}
use Rattle.texts.proofs.Sheets as Listed
use Rattle.code_sheets.specs.Text.Texts.{heading, titles, sheet_of}
use Rattle.code_sheets.specs.Text.Reading.{lines, counts_fit, sheet_entries, sheet_layout, rows, sheet_lines}
use Rattle.code_sheets.proofs.Text.Order.{Fits, Rising, fits_judged, judged_fits}

-- ---- the texts are those of the layout

pub readable : ReadableEntries sheet_entries
readable = record { entry_reads = line_reads; entry_text_lem = line_text_lem; entry_empty = λ p t e. line_empty e }

readable_sheet : (L : Limits) → Readable (sheet_layout L)
readable_sheet L = record { counts_reads = line_reads; counts_text_lem = line_text_lem; entries = readable }

pub judging : Judging sheet_entries Fits
judging = record { fits_judged = fits_judged; judged_fits = judged_fits }

lines_are : (ps : List Pair) → Layouts.entries_text sheet_entries ps ≡ lines_text ps
unfolding Layouts.entries_text lines_text
lines_are [] = refl
lines_are (p ∷ ps) = ap (λ (t : List ℕ). line_text p ++ t) (lines_are ps)

sheet_is : (L : Limits) (c : Pair) (ps : List Pair) → Layouts.sheet_of (sheet_layout L) c ps ≡ sheet_of c ps
unfolding Layouts.sheet_of sheet_of
sheet_is L c ps = ap (λ (t : List ℕ). heading ++ (line_text c ++ (titles ++ t))) (lines_are ps)

-- ---- the entries' lines

pub rows_told : (c : Pair) (k l : ℕ) (low : Pair) (t : List ℕ) (d : Pair) (qs : List Pair) → rows c k l low [] t ≡ lines d qs → (t ≡ lines_text qs) × Rising c low qs
rows_told c k l low t d qs e =
    let w = Listed.rows_told sheet_entries readable Fits judging c k l low [] t d qs e in
    rw w.all (w.text ∙ lines_are w.entries, w.rising)

-- ---- the whole sheet

-- what the test of the counts asks
pub counts_told : (L : Limits) (c : Pair) → (sheet_layout L).counts_judged c ≡ Ok tt
    → ((fewest_variables ≤ c.first) × (c.first ≤ L.variables)) × ((fewest_checks ≤ c.second) × (c.second ≤ L.checks))
counts_told L c e =
    let n = leb fewest_variables c.first in
    let N = leb c.first L.variables in
    let m = leb fewest_checks c.second in
    let M = leb c.second L.checks in
    let h = unless_true (counts_fit L c) (Count 2) e in (
      (leb-true _ _ (and_left n N (and_left (n && N) (m && M) h)), leb-true _ _ (and_right n N (and_left (n && N) (m && M) h))),
      (leb-true _ _ (and_left m M (and_right (n && N) (m && M) h)), leb-true _ _ (and_right m M (and_right (n && N) (m && M) h))),
    )

pub counts_fit_lem : (L : Limits) (c : Pair) → (fewest_variables ≤ c.first) × (c.first ≤ L.variables)
    → (fewest_checks ≤ c.second) × (c.second ≤ L.checks) → (sheet_layout L).counts_judged c ≡ Ok tt
counts_fit_lem L c n m = rw (le-leb _ _ n.0, le-leb _ _ n.1, le-leb _ _ m.0, le-leb _ _ m.1)

-- counts and entries that a sheet may have
abbrev pub Lined : Limits → Pair → List Pair → Type 0
Lined L c ps = Listing.Lined (sheet_layout L) Fits c ps

pub sheet_read_lem : (L : Limits) (c : Pair) (ps : List Pair) → Lined L c ps → sheet_lines L (sheet_of c ps) ≡ lines c ps
sheet_read_lem L c ps h = ap (sheet_lines L) (sym (sheet_is L c ps)) ∙ Listed.sheet_read_lem (sheet_layout L) (readable_sheet L) Fits judging c ps h

pub sheet_told : (L : Limits) (t : List ℕ) (c : Pair) (ps : List Pair) → sheet_lines L t ≡ lines c ps → (t ≡ sheet_of c ps) × Lined L c ps
sheet_told L t c ps e =
    let w = Listed.sheet_told (sheet_layout L) (readable_sheet L) Fits judging t c ps e in
    (w.0 ∙ sheet_is L c ps, w.1)
