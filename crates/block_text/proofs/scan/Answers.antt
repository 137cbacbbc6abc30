use Rattle.std.proofs.Common.{rules}
use Rattle.block_text.proofs.Passes.{size_refused, size_exact, titles_missing, to_blocks}
use Rattle.block_sheets.specs.Text.Scanning.{ScannedAs}
use Rattle.block_sheets.specs.Text.Reading.{block_layout}
use Rattle.texts.specs.Triples.{Triple}
use Rattle.texts.proofs.Passes.{no_heading, no_counts}
use Rattle.texts.specs.Reading.{Lines}
use native.Mathlib.Omega.{arith}
use mathlib.Core.Path.{refl, sym, subst}
use Rattle.block_text.proofs.scan.Goals as goal

pub returns-in_default : goal.returns-in_default
returns-in_default c = no_heading block_layout c.args.text.now c.in_default.ensures

pub returns-in_default-three_at : goal.returns-in_default-three_at
returns-in_default-three_at c = no_counts block_layout c.args.text.now c.in-Some.ensures.reads c.in_default-three_at.ensures

pub judge_size-requires : goal.judge_size-requires
judge_size-requires c = let r = c.in-Some-three_at.ensures in (omega (arith, r.first), omega (arith, r.second), omega (arith, r.third))

pub returns-in_err-judge_size : goal.returns-in_err-judge_size
returns-in_err-judge_size c = search (rules, size_refused c.in-Some.ensures c.in-Some-three_at.ensures c.in_err-judge_size.ensures refl)

pub returns-in_default-fixed_at : goal.returns-in_default-fixed_at
returns-in_default-fixed_at c = titles_missing c.in-Some.ensures c.in-Some-three_at.ensures c.in_ok-judge_size.ensures refl c.in_default-fixed_at.ensures

pub scan_blocks-requires : goal.scan_blocks-requires
scan_blocks-requires c =
    let x = size_exact c.in-Some.ensures c.in-Some-three_at.ensures c.in_ok-judge_size.ensures refl in
    (c.in-Some-fixed_at.ensures.within, x.some, x.size, x.rows, x.columns)

pub returns : goal.returns
returns c =
    subst (λ (x : Lines Triple Triple). ScannedAs c.args.text.now x c.scan_blocks.result)
    (sym (to_blocks c.in-Some.ensures c.in-Some-three_at.ensures c.in_ok-judge_size.ensures refl c.in-Some-fixed_at.ensures)) c.scan_blocks.ensures
