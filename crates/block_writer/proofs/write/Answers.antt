use Rattle.std.proofs.Common.{rules}
use mathlib.Core.Path.{refl}
use Rattle.block_sheets.specs.Writer.Writing.{blocks_lent}
use Rattle.block_sheets.proofs.Writer.Judging.{none_written, put_good, all_written}
use Rattle.block_writer.proofs.write.Goals as goal

pub returns-in_err-judge_write : goal.returns-in_err-judge_write
returns-in_err-judge_write c =
    search (rules, none_written (blocks_lent c.args.blocks) c.args.text.now c.in_err-judge_write.ensures refl)

pub put_sheet-requires : goal.put_sheet-requires
put_sheet-requires c =
    put_good (blocks_lent c.args.blocks) c.args.text.now c.in_ok-judge_write.ensures refl

pub returns : goal.returns
returns c =
    all_written (blocks_lent c.args.blocks) c.args.text.now c.in_ok-judge_write.ensures refl c.put_sheet.ensures
