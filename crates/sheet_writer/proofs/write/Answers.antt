use Rattle.std.proofs.Common.{rules}
use mathlib.Core.Path.{refl}
use Rattle.code_sheets.proofs.Writer.Judging.{none_written, put_good, all_written}
use Rattle.words.specs.Roles.{graph_lent}
use Rattle.sheet_writer.proofs.write.Goals as goal

pub returns-in_err-judge_write : goal.returns-in_err-judge_write
returns-in_err-judge_write c = search (rules, none_written (graph_lent c.args.graph) c.args.text.now c.in_err-judge_write.ensures refl)

pub put_sheet-requires : goal.put_sheet-requires
put_sheet-requires c = let good = put_good _ c.args.text.now c.in_ok-judge_write.ensures refl in record { admitted = good.0; columns_in_bounds = good.1 }

pub returns : goal.returns
returns c = all_written _ c.args.text.now c.in_ok-judge_write.ensures refl c.put_sheet.ensures
