use native.Mathlib.Omega.{arith}
use Rattle.block_sheets.proofs.Writer.Texts.{line_long, put_rest, put_fields}
use Rattle.block_writer.proofs.put_line.Goals as goal

pub put_field-i-requires : goal.put_field-i-requires
put_field-i-requires c = omega (arith, line_long c.args.a c.args.b c.args.c, c.requires)

pub put_line-requires : goal.put_line-requires
put_line-requires c = put_rest c.args.a c.args.b c.args.c c.requires c.put_field-i.ensures

pub returns : goal.returns
returns c = put_fields c.args.a c.args.b c.args.c c.put_field-i.ensures c.put_line.ensures
