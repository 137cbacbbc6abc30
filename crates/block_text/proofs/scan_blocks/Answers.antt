use Rattle.std.proofs.Common.{rules}
use mathlib.Core.Path.{refl}
use Rattle.block_text.proofs.Passes.{block_refused, block_more}
use Rattle.block_sheets.specs.Text.Reading.{block_entries, room_of}
use Rattle.texts.specs.Triples.{triple}
use Rattle.texts.proofs.Passes.{scanning_none, scanning_end, scanning_many, scanning_other}
use Rattle.rules.specs.Graphs.{limits}
use native.Mathlib.Nat.{div-le_self}
use native.Mathlib.Omega.{arith}
use Rattle.block_text.proofs.scan_blocks.Goals as goal

pub loop-at-init : goal.loop-at-init
loop-at-init c = (omega arith, scanning_none block_entries (room_of c.args.size) (triple c.args.size c.args.rows c.args.columns) c.args.text.now c.args.from c.requires.0)

pub overflow_add-result : goal.overflow_add-result
overflow_add-result c = omega (arith, div-le_self limits.entries c.args.size)

pub returns-then-room-n : goal.returns-then-room-n
returns-then-room-n c = scanning_many c.loop-at.invariant.1 (omega arith) (omega arith)

pub overflow_add-result-in_default : goal.overflow_add-result-in_default
overflow_add-result-in_default c = omega (arith, div-le_self limits.entries c.args.size)

pub returns-in_default : goal.returns-in_default
returns-in_default c = scanning_other c.loop-at.invariant.1 (omega arith) (omega arith) c.in_default.ensures

pub overflow_add-n : goal.overflow_add-n
overflow_add-n c = omega (arith, div-le_self limits.entries c.args.size)

pub returns-in_err-judge_block : goal.returns-in_err-judge_block
returns-in_err-judge_block c =
    search (rules, block_refused c.loop-at.invariant.1 (omega arith) (omega arith) (omega arith) (omega arith) (omega arith) c.in-Some.ensures c.in_err-judge_block.ensures refl)

pub overflow_add-j0 : goal.overflow_add-j0
overflow_add-j0 c =
    let r = c.in-Some.ensures in
    omega (arith, r.second)

pub overflow_add-n-in-loop-at : goal.overflow_add-n-in-loop-at
overflow_add-n-in-loop-at c = omega (arith, div-le_self limits.entries c.args.size)

pub loop-at-smaller : goal.loop-at-smaller
loop-at-smaller c =
    let r = c.in-Some.ensures in
    omega (arith, r.on, r.within)

pub loop-at-preserved : goal.loop-at-preserved
loop-at-preserved c =
    let r = c.in-Some.ensures in
    (omega arith, block_more c.loop-at.invariant.1 (omega arith) (omega arith) (omega arith) (omega arith) (omega arith) r c.in_ok-judge_block.ensures refl)

pub returns : goal.returns
returns c =
    let q = c.loop-at.invariant.1 in
    record { entries = q.done; are = scanning_end q (omega arith); many = q.got; rest = scanning_end q (omega arith) }
