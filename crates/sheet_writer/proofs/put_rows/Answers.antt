use mathlib.Core.Path.{refl}
use native.Mathlib.Omega.{arith}
use Rattle.words.specs.Roles.{graph_lent}
use Rattle.texts.proofs.Putting.{put_long}
use Rattle.code_sheets.proofs.Writer.Texts.{all_lines}
use Rattle.sheet_writer.proofs.Putting.{put_begun, put_next, put_room, put_all}
use Rattle.sheet_writer.proofs.put_rows.Goals as goal

pub loop-i-init : goal.loop-i-init
loop-i-init c = put_begun

pub put_row-next-requires : goal.put_row-next-requires
put_row-next-requires c = record { admitted = (c.requires.admitted, omega arith); i_in_bounds = put_room (graph_lent c.args.graph).checks (all_lines (graph_lent c.args.graph)) c.loop-i.invariant c.requires.columns_in_bounds (omega arith) refl }

pub loop-i-preserved : goal.loop-i-preserved
loop-i-preserved c = put_next c.loop-i.invariant c.put_row-next.ensures refl

pub shape_of-text : goal.shape_of-text
shape_of-text c = put_long c.loop-i.invariant.put

pub returns : goal.returns
returns c = put_all (omega arith) (all_lines (graph_lent c.args.graph)) c.loop-i.invariant
