use mathlib.Core.Path.{refl}
use native.Mathlib.Omega.{arith}
use Rattle.block_sheets.specs.Writer.Writing.{blocks_lent}
use Rattle.block_sheets.proofs.Writer.Judging.{list_short, list_judged}
use Rattle.block_writer.proofs.judge_degrees.Goals as goal

pub returns-then-degrees-blocks : goal.returns-then-degrees-blocks
returns-then-degrees-blocks c =
    list_short (blocks_lent c.args.blocks) (omega arith)

pub returns : goal.returns
returns c =
    list_judged (blocks_lent c.args.blocks) (omega arith) (c.judge.ensures (blocks_lent c.args.blocks) c.args.degrees.now c.requires refl c.count_entries-all.ensures)
