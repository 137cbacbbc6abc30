use Rattle.std.proofs.Common.{rules}
use mathlib.Core.Path.{refl}
use native.Mathlib.Omega.{arith}
use Rattle.block_sheets.specs.Writer.Writing.{blocks_lent}
use Rattle.block_writer.proofs.Entries.{few}
use Rattle.block_sheets.proofs.Writer.Judging.{lines_turned, lines_good, degrees_turned, buffer_turned, none_turned}
use Rattle.block_writer.proofs.judge_write.Goals as goal

pub returns-in_err-judge_lines : goal.returns-in_err-judge_lines
returns-in_err-judge_lines c =
    search (rules, lines_turned (blocks_lent c.args.blocks) c.args.room c.in_err-judge_lines.ensures refl c.args.degrees.now)

pub judge_degrees-requires : goal.judge_degrees-requires
judge_degrees-requires c =
    lines_good (blocks_lent c.args.blocks) c.args.room c.in_ok-judge_lines.ensures refl

pub returns-in_err-judge_degrees : goal.returns-in_err-judge_degrees
returns-in_err-judge_degrees c =
    search (rules, degrees_turned (blocks_lent c.args.blocks) c.args.room c.in_ok-judge_lines.ensures refl c.in_err-judge_degrees.ensures refl)

pub sheet_length-requires : goal.sheet_length-requires
sheet_length-requires c =
    few c.args.blocks.entries.now (lines_good (blocks_lent c.args.blocks) c.args.room c.in_ok-judge_lines.ensures refl)

pub returns-then-room-sheet_length : goal.returns-then-room-sheet_length
returns-then-room-sheet_length c =
    buffer_turned (blocks_lent c.args.blocks) c.args.room c.in_ok-judge_lines.ensures refl c.in_ok-judge_degrees.ensures refl c.sheet_length.ensures (omega arith)

pub returns : goal.returns
returns c =
    none_turned (blocks_lent c.args.blocks) c.args.room c.in_ok-judge_lines.ensures refl c.in_ok-judge_degrees.ensures refl c.sheet_length.ensures (omega arith)
