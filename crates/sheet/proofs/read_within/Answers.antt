use Rattle.std.proofs.Common.{rules}
use Rattle.code_sheets.specs.Text.Scanning.{within}
use Rattle.code_sheets.proofs.Reader.Calls.{lines_refused, entries_at, read_into}
use Rattle.sheet.proofs.read_within.Goals as goal

pub finish-requires : goal.finish-requires
finish-requires c = entries_at c.requires c.in_ok-counts.ensures

pub returns-in_err-counts : goal.returns-in_err-counts
returns-in_err-counts c = search (rules, lines_refused {L = within c.args.most} {t = c.args.text.now} c.in_err-counts.ensures)

pub returns : goal.returns
returns c = read_into c.requires c.in_ok-counts.ensures c.finish.ensures
