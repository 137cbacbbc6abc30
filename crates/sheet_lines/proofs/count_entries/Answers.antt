use native.Mathlib.Omega.{arith}
use Rattle.sheet_lines.proofs.Counting.{counting_none, counting_addable, counting_more, counting_refused, counting_admitted}
use Rattle.sheet_lines.proofs.count_entries.Goals as goal

pub loop-k-init : goal.loop-k-init
loop-k-init c = (omega arith, counting_none c.args.degrees.now c.requires.entries_at c.clear.ensures)

pub add_block-requires : goal.add_block-requires
add_block-requires c = (counting_addable c.loop-k.invariant.1 (omega arith) c.read_block-passed.ensures, omega arith)

pub loop-k-preserved : goal.loop-k-preserved
loop-k-preserved c = (omega arith, counting_more c.loop-k.invariant.1 (omega arith) c.read_block-passed.ensures c.add_block.ensures)

pub returns-then-all-counts : goal.returns-then-all-counts
returns-then-all-counts c = counting_refused c.loop-k.invariant.1 (omega arith) c.go_on-all.ensures c.args.degrees.now c.clear.ensures c.if-all-counts.true

pub returns : goal.returns
returns c = counting_admitted c.loop-k.invariant.1 (omega arith) c.go_on-all.ensures c.args.degrees.now c.clear.ensures c.if-all-counts.false
