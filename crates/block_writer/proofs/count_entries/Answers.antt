use mathlib.Core.Path.{◌≡◌, ◌∙◌}
use native.Mathlib.Omega.{arith}
use Rattle.block_degrees.proofs.Counting.{counting_none}
use Rattle.block_writer.proofs.Entries.{count_row, count_room, count_more, count_last, count_all}
use Rattle.block_writer.proofs.count_entries.Goals as goal

pub clear-requires : goal.clear-requires
clear-requires c = (c.requires.0.ordered.some, c.requires.1)

pub loop-q-init : goal.loop-q-init
loop-q-init c = counting_none c.requires.0 c.args.degrees.now c.requires.1 c.clear.ensures

pub go_on-so_far-requires : goal.go_on-so_far-requires
go_on-so_far-requires c = count_row c.args.blocks.entries.now c.requires.0 c.loop-q.invariant (omega arith) c.entry-row.ensures.row.0

pub overflow_mul-column : goal.overflow_mul-column
overflow_mul-column c = record { fits = omega (arith, (count_room c.args.blocks.entries.now c.requires.0 c.loop-q.invariant (omega arith) c.entry-row.ensures.column.0).0) }

pub add_one-requires : goal.add_one-requires
add_one-requires c = count_room c.args.blocks.entries.now c.requires.0 c.loop-q.invariant (omega arith) c.entry-row.ensures.column.0

pub loop-q-preserved : goal.loop-q-preserved
loop-q-preserved c = count_more c.args.blocks.entries.now c.requires.0 c.loop-q.invariant (omega arith) c.entry-row.ensures.row.0 c.entry-row.ensures.column.0 c.go_on-so_far.ensures c.add_one.ensures

pub go_on-requires : goal.go_on-requires
go_on-requires c =
    let all : c.loop-q.q ≡ c.count-all.result = omega arith in
    rw (← all) (count_last c.args.blocks.entries.now c.requires.0 c.loop-q.invariant)

pub shape_of-degrees : goal.shape_of-degrees
shape_of-degrees c = c.loop-q.invariant.counts.long ∙ c.degrees-1.given

pub returns : goal.returns
returns c =
    let all : c.loop-q.q ≡ c.count-all.result = omega arith in
    count_all c.args.blocks.entries.now c.requires.0 c.loop-q.invariant (omega arith) (rw (← all) at c.go_on.ensures) c.args.degrees.now c.requires.1 c.clear.ensures
