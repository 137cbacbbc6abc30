use mathlib.Core.Path.{◌∙◌}
use native.Mathlib.Omega.{arith}
use Rattle.rules.specs.Levels.{level_of}
use Rattle.rules.proofs.Filling.{filled_none, filled_more}
use Rattle.nodes.specs.Memory.{level_in}
use Rattle.nodes.proofs.RowLaws.{kept_sends}
use Rattle.check_nodes.proofs.check_row.Goals as goal

pub loop-j-init : goal.loop-j-init
loop-j-init c = filled_none _ _

pub loop-j-preserved : goal.loop-j-preserved
unfolding level_of
loop-j-preserved c =
    filled_more (omega arith) c.loop-j.invariant (c.answer.ensures ∙ kept_sends (level_in c.args.incoming.now) c.summarize-s.ensures c.loop-j.j (omega arith))
