use native.Mathlib.Omega.{arith}
use Rattle.block_sheets.specs.Text.Blocks.{Blocks}
use Rattle.block_sheets.specs.Writer.Writing.{blocks_lent}
use Rattle.block_sheets.proofs.Writer.Texts.{sheet_long}
use Rattle.block_writer.proofs.sheet_length.Goals as goal

pub returns : goal.returns
returns c =
    let B : Blocks = blocks_lent c.args.blocks in
    omega (arith, sheet_long B, c.line_length-counts.ensures.0, c.entries_length.ensures.0)
