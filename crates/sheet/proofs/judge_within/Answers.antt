use Rattle.std.proofs.Common.{rules}
use Rattle.code_sheets.specs.Text.Scanning.{within}
use Rattle.code_sheets.proofs.Reader.Calls.{lines_judged_lem, entries_at, judged_into}
use Rattle.sheet.proofs.judge_within.Goals as goal

pub judge_lines-requires : goal.judge_lines-requires
judge_lines-requires c = entries_at c.requires c.in_ok-counts.ensures

pub returns-in_err-counts : goal.returns-in_err-counts
returns-in_err-counts c = search (rules, lines_judged_lem {L = within c.args.most} {t = c.args.text.now} c.in_err-counts.ensures)

pub returns : goal.returns
returns c = judged_into c.requires c.in_ok-counts.ensures c.judge_lines.ensures
