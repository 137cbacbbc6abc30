use Rattle.std.proofs.Common.{rules}
use mathlib.Core.Path.{refl}
use native.Mathlib.Omega.{arith}
use Rattle.block_sheets.specs.Reader.Storing.{blocks_from}
use Rattle.block_sheet.proofs.Ways.{judgeable, entries_small, degrees_short, degrees_refused, starts_short, columns_short, long_enough_lem}
use Rattle.block_sheet.proofs.judge_blocks.Goals as goal

pub returns-then-degrees-counts : goal.returns-then-degrees-counts
returns-then-degrees-counts c = degrees_short c.requires (omega arith)

pub count_lines-rows-requires : goal.count_lines-rows-requires
count_lines-rows-requires c = (c.requires, judgeable c.requires (omega arith))

pub judge-requires : goal.judge-requires
judge-requires c = judgeable c.requires (omega arith)

pub returns-in_err-judge : goal.returns-in_err-judge
returns-in_err-judge c =
    let q = c.in_err-judge.ensures (blocks_from c.args.text.now c.args.counts c.args.at) c.args.degrees.now c.requires.valid refl c.count_lines-rows.ensures in
    search (rules, degrees_refused c.requires (omega arith) q {s = c.args.starts} {c = c.args.columns} refl)

pub returns-then-starts-counts : goal.returns-then-starts-counts
returns-then-starts-counts c =
    let q = c.in_ok-judge.ensures (blocks_from c.args.text.now c.args.counts c.args.at) c.args.degrees.now c.requires.valid refl c.count_lines-rows.ensures in
    starts_short c.requires (omega arith) q refl (omega arith)

pub overflow_mul-counts-3 : goal.overflow_mul-counts-3
overflow_mul-counts-3 c = record { fits = omega (arith, entries_small c.requires) }

pub returns-then-columns-counts : goal.returns-then-columns-counts
returns-then-columns-counts c =
    let q = c.in_ok-judge.ensures (blocks_from c.args.text.now c.args.counts c.args.at) c.args.degrees.now c.requires.valid refl c.count_lines-rows.ensures in
    columns_short c.requires (omega arith) q refl (omega arith)

pub returns : goal.returns
returns c =
    let q = c.in_ok-judge.ensures (blocks_from c.args.text.now c.args.counts c.args.at) c.args.degrees.now c.requires.valid refl c.count_lines-rows.ensures in
    long_enough_lem c.requires (omega arith) q refl (omega arith) (omega arith)
