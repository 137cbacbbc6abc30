use Rattle.std.proofs.Common.{rules}
use mathlib.Core.Path.{refl}
use native.Mathlib.Omega.{arith}
use Rattle.code_sheets.proofs.Writer.Judging.{graph_turned, graph_good, buffer_turned, none_turned}
use Rattle.words.specs.Roles.{graph_lent}
use Rattle.sheet_writer.proofs.judge_write.Goals as goal

pub returns-in_err-check : goal.returns-in_err-check
returns-in_err-check c = search (rules, graph_turned (graph_lent c.args.graph) c.args.room c.in_err-check.ensures refl)

pub sheet_length-requires : goal.sheet_length-requires
sheet_length-requires c = graph_good _ c.args.room c.in_ok-check.ensures refl

pub returns-then-room-sheet_length : goal.returns-then-room-sheet_length
returns-then-room-sheet_length c = buffer_turned _ _ c.in_ok-check.ensures refl c.sheet_length.ensures c.if-room-sheet_length.true

pub returns : goal.returns
returns c = none_turned _ _ c.in_ok-check.ensures refl c.sheet_length.ensures (omega arith)
