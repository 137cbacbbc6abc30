use mathlib.Core.Path.{◌≡◌, ◌∙◌}
use native.Mathlib.Omega.{arith}
use Rattle.block_sheet.proofs.Counting.{lines_none, lines_known, lines_row, lines_place, lines_room, lines_more, lines_last, lines_all}
use Rattle.block_sheet.proofs.count_lines.Goals as goal

pub clear-requires : goal.clear-requires
clear-requires c = (c.requires.1.some, c.requires.1.enough)

pub loop-q-init : goal.loop-q-init
loop-q-init c = lines_none c.args.degrees.now c.requires.0 c.requires.1.enough c.clear.ensures

pub known_three_at-line-requires : goal.known_three_at-line-requires
known_three_at-line-requires c = lines_known c.requires.0 c.loop-q.invariant (omega arith)

pub go_on-rows-requires : goal.go_on-rows-requires
go_on-rows-requires c = lines_row c.requires.0 c.loop-q.invariant (omega arith) c.known_three_at-line.ensures

pub overflow_mul-column : goal.overflow_mul-column
overflow_mul-column c = record { fits = omega (arith, lines_place c.requires.0 c.loop-q.invariant (omega arith) c.known_three_at-line.ensures) }

pub add_one-requires : goal.add_one-requires
add_one-requires c = lines_room c.requires.0 c.loop-q.invariant (omega arith) c.known_three_at-line.ensures

pub loop-q-preserved : goal.loop-q-preserved
loop-q-preserved c = lines_more c.requires.0 c.loop-q.invariant (omega arith) c.known_three_at-line.ensures c.go_on-rows.ensures c.add_one.ensures

pub go_on-requires : goal.go_on-requires
go_on-requires c =
    let all : c.loop-q.q ≡ c.args.counts.entries = omega arith in
    rw (← all) (lines_last c.requires.0 c.loop-q.invariant (omega arith))

pub shape_of-degrees : goal.shape_of-degrees
shape_of-degrees c = c.loop-q.invariant.counting.counts.long ∙ c.degrees-1.given

pub returns : goal.returns
returns c =
    let all : c.loop-q.q ≡ c.args.counts.entries = omega arith in
    lines_all c.requires.0 c.loop-q.invariant (omega arith) (rw (← all) at c.go_on.ensures) c.args.degrees.now c.requires.1.enough c.clear.ensures
