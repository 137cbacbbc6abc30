use Rattle.std.proofs.Common.{rules}
use Rattle.block_sheets.proofs.Reader.Entries.{blocks_at}
use Rattle.block_sheets.proofs.Reader.Calls.{lines_judged_lem, judged_into}
use Rattle.block_sheet.proofs.judge_read.Goals as goal

pub judge_blocks-requires : goal.judge_blocks-requires
judge_blocks-requires c = blocks_at c.in_ok-counts.ensures

pub returns-in_err-counts : goal.returns-in_err-counts
returns-in_err-counts c = search (rules, lines_judged_lem {t = c.args.text.now} c.in_err-counts.ensures)

pub returns : goal.returns
returns c = judged_into c.in_ok-counts.ensures c.judge_blocks.ensures
