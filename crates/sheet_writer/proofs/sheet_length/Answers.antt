use native.Mathlib.Omega.{arith}
use Rattle.words.specs.Roles.{graph_lent}
use Rattle.code_sheets.proofs.Writer.Texts.{sheet_long}
use Rattle.sheet_writer.proofs.sheet_length.Goals as goal

pub returns : goal.returns
returns c =
    let counts = rw c.checks.ensures at c.line_length-counts.ensures in
    omega (arith, sheet_long (graph_lent c.args.graph), counts.0, c.rows_length.ensures.0)
