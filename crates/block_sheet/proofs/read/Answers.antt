use Rattle.std.proofs.Common.{rules}
use Rattle.block_sheets.proofs.Reader.Entries.{blocks_at}
use Rattle.block_sheets.proofs.Reader.Calls.{lines_refused, read_into}
use Rattle.block_sheet.proofs.read.Goals as goal

pub finish-requires : goal.finish-requires
finish-requires c = blocks_at c.in_ok-counts.ensures

pub returns-in_err-counts : goal.returns-in_err-counts
returns-in_err-counts c = search (rules, lines_refused {t = c.args.text.now} c.in_err-counts.ensures)

pub returns : goal.returns
returns c = read_into c.in_ok-counts.ensures c.finish.ensures
