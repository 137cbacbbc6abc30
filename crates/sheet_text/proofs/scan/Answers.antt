use Rattle.std.specs.Prelude.{Ok, true}
use mathlib.Core.Path.{◌≡◌, sym, ap, ap₂, ◌∙◌, subst}
use mathlib.Core.List.{[]}
use native.Mathlib.Omega.{arith}
use lib.ListN.{drop}
use Rattle.texts.specs.Lines.{Pair, pair}
use Rattle.texts.proofs.Passes.{no_heading, no_counts, bad_counts, no_titles, to_entries}
use Rattle.code_sheets.specs.Text.Reading.{Lines, counts_fit, sheet_layout, rows}
use Rattle.code_sheets.specs.Text.Scanning.{within, ScannedAs}
use Rattle.code_sheets.proofs.Text.Passes.{capped_counts}
use Rattle.code_sheets.proofs.Text.Sheets.{counts_told}
use Rattle.sheet_text.proofs.scan.Goals as goal
use Rattle.sheet_text.proofs.scan.Goals.{After-counts_fit}

-- the numbers in the text fit exactly where those that were read do
counts_are : (c : After-counts_fit) → counts_fit (within c.args.most) c.in-Some-line_at.ensures.pair ≡ c.counts_fit.result
counts_are c =
    let r = c.in-Some-line_at.ensures in
    sym (c.counts_fit.ensures
    ∙ capped_counts (within c.args.most) (omega (arith, c.requires.variables)) (omega (arith, c.requires.checks)) r.pair _ _ r.first r.second)

fit : (c : After-counts_fit) → c.counts_fit.result ≡ true → (sheet_layout (within c.args.most)).counts_judged c.in-Some-line_at.ensures.pair ≡ Ok tt
fit c t = rw (counts_are c, t)

pub returns-in_default : goal.returns-in_default
returns-in_default c = no_heading (sheet_layout (within c.args.most)) c.args.text.now c.in_default.ensures

pub returns-in_default-line_at : goal.returns-in_default-line_at
returns-in_default-line_at c = no_counts (sheet_layout (within c.args.most)) c.args.text.now c.in-Some.ensures.reads c.in_default-line_at.ensures

pub returns-then-not-counts_fit : goal.returns-then-not-counts_fit
returns-then-not-counts_fit c =
    bad_counts (sheet_layout (within c.args.most)) c.args.text.now c.in-Some.ensures.reads c.in-Some-line_at.ensures.reads
    (rw (counts_are (goal.at.returns-then-not-counts_fit c).After-counts_fit, c.if-not-counts_fit.true))

pub returns-in_default-fixed_at : goal.returns-in_default-fixed_at
returns-in_default-fixed_at c =
    no_titles (sheet_layout (within c.args.most)) c.args.text.now c.in-Some.ensures.reads c.in-Some-line_at.ensures.reads
    (fit (goal.at.returns-in_default-fixed_at c).After-counts_fit c.if-not-counts_fit.false) c.in_default-fixed_at.ensures

pub scan_entries-requires : goal.scan_entries-requires
scan_entries-requires c =
    let r = c.in-Some-line_at.ensures in
    let l = counts_told (within c.args.most) r.pair (fit (goal.at.scan_entries-requires c).After-counts_fit c.if-not-counts_fit.false) in
    record { up_to = c.requires; from_in_bounds = (c.in-Some-fixed_at.ensures.within, omega (arith, r.first, l.0.1), omega (arith, r.second, l.1.1)) }

pub returns : goal.returns
returns c =
    let r = c.in-Some-line_at.ensures in
    let told = fit (goal.at.returns c).After-counts_fit c.if-not-counts_fit.false in
    let l = counts_told (within c.args.most) r.pair told in
    let exact : r.pair ≡ pair c.in-Some-line_at.line.value.0 c.in-Some-line_at.line.value.1 = ap₂ pair (omega (arith, r.first, l.0.1)) (omega (arith, r.second, l.1.1)) in
    subst (λ (x : Lines). ScannedAs (within c.args.most) c.args.text.now x c.scan_entries.result)
    (sym (to_entries (sheet_layout (within c.args.most)) c.args.text.now c.in-Some.ensures.reads r.reads told c.in-Some-fixed_at.ensures.reads
    ∙ ap (λ (p : Pair). rows p (within c.args.most).entries 4 (pair 0 0) [] (drop c.in-Some-fixed_at.at c.args.text.now)) exact))
    c.scan_entries.ensures
