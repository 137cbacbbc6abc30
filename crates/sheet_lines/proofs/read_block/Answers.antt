use native.Mathlib.Omega.{arith}
use Rattle.sheet_lines.proofs.Counting.{read_none, read_more, read_all, reached_known, reached_row}
use Rattle.sheet_lines.proofs.read_block.Goals as goal

pub loop-j-init : goal.loop-j-init
loop-j-init c = read_none _

pub known_line_at-line-requires : goal.known_line_at-line-requires
known_line_at-line-requires c =
    let a = c.requires.0 in
    reached_known (c.loop-j.invariant a.counts a.from a.reached a.enough).reached (omega (arith, a.enough))

pub go_on-rows-requires : goal.go_on-rows-requires
go_on-rows-requires c =
    let a = c.requires.0 in
    reached_row (c.loop-j.invariant a.counts a.from a.reached a.enough).reached (omega (arith, a.enough)) c.known_line_at-line.ensures

pub loop-j-preserved : goal.loop-j-preserved
loop-j-preserved c =
    read_more _ c.loop-j.invariant c.loop-j-test.true (omega (arith, c.requires.1)) c.known_line_at-line.ensures c.put_column.ensures c.go_on-rows.ensures

pub returns : goal.returns
returns c = read_all _ (omega arith) c.loop-j.invariant
