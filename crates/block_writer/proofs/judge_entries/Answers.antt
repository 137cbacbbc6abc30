use Rattle.std.proofs.Common.{rules}
use mathlib.Core.Path.{refl}
use native.Mathlib.Omega.{arith}
use Rattle.texts.specs.Triples.{triple}
use Rattle.texts.proofs.Walking.{walking_none}
use Rattle.block_sheets.specs.Text.Reading.{block_entries, room_of}
use Rattle.block_sheets.specs.Writer.Writing.{entries_in}
use Rattle.block_writer.proofs.Entries.{judged_all, judged_many, judged_refused, judged_more}
use Rattle.block_writer.proofs.judge_entries.Goals as goal

pub loop-q-init : goal.loop-q-init
loop-q-init c = walking_none block_entries (room_of c.args.blocks.size) (triple c.args.blocks.size c.args.blocks.rows c.args.blocks.columns) (entries_in c.args.blocks.entries.now)

pub returns-then-room-q : goal.returns-then-room-q
returns-then-room-q c = judged_many c.args.blocks.entries.now c.loop-q.invariant (omega arith) (omega arith)

pub returns-in_err-judge_block : goal.returns-in_err-judge_block
returns-in_err-judge_block c = search (rules, judged_refused c.args.blocks.entries.now c.loop-q.invariant (omega arith) (omega arith) (record { first = c.entry-i.ensures.row.0; second = c.entry-i.ensures.column.0; third = c.entry-i.ensures.shift.0 }) c.in_err-judge_block.ensures refl)

pub overflow_add-j0 : goal.overflow_add-j0
overflow_add-j0 c = omega (arith, c.entry-i.ensures.column.1)

pub loop-q-preserved : goal.loop-q-preserved
loop-q-preserved c = judged_more c.args.blocks.entries.now c.loop-q.invariant (omega arith) (omega arith) (record { first = c.entry-i.ensures.row.0; second = c.entry-i.ensures.column.0; third = c.entry-i.ensures.shift.0 }) c.in_ok-judge_block.ensures refl

pub returns : goal.returns
returns c = judged_all c.args.blocks.entries.now c.loop-q.invariant (omega arith)
