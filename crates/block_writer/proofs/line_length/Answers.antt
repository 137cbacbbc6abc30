use native.Mathlib.Omega.{arith}
use Rattle.block_sheets.proofs.Writer.Texts.{line_long}
use Rattle.block_writer.proofs.line_length.Goals as goal

pub returns : goal.returns
returns c = omega (arith, line_long c.args.a c.args.b c.args.c)
