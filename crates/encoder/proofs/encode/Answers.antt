use borrow.Author.Rules.{rules}
use mathlib.Core.Path.{refl, sym, ◌∙◌}
use native.Mathlib.Omega.{arith}
use lib.Seq.{length-take-le}
use Rattle.words.specs.Roles.{graph_lent}
use Rattle.codewords.proofs.Limits.{admitted_wider}
use Rattle.encoder.proofs.Refusing.{judged_input, room_told, encodes_input, encodes_room, encodes_found, encodes_none}
use Rattle.encoder.proofs.encode.Goals as goal

pub returns-in_err-judge : goal.returns-in_err-judge
returns-in_err-judge c = search (rules, encodes_input c.args.codeword.now c.args.work.now c.in_err-judge.ensures)

pub check_room-requires : goal.check_room-requires
check_room-requires c = let g = (judged_input c.in_ok-judge.ensures).graph in (g.variables.1, g.checks.1)

pub returns-in_err-check_room : goal.returns-in_err-check_room
returns-in_err-check_room c =
    search (rules, encodes_room c.args.codeword.now c.args.work.now c.in_ok-judge.ensures c.in_err-check_room.ensures)

pub work_bytes-size-requires : goal.work_bytes-size-requires
work_bytes-size-requires c = let g = (judged_input c.in_ok-judge.ensures).graph in (g.variables.1, g.checks.1)

pub slice_bounds-solve-end : goal.slice_bounds-solve-end
slice_bounds-solve-end c = (room_told (graph_lent c.args.graph) _ _ c.in_ok-check_room.ensures).0

pub slice_bounds-solve-end-2 : goal.slice_bounds-solve-end-2
slice_bounds-solve-end-2 c = sym (length-take-le c.args.graph.variables c.args.codeword.now (room_told (graph_lent c.args.graph) _ _ c.in_ok-check_room.ensures).0)

pub slice_bounds-solve-end-3 : goal.slice_bounds-solve-end-3
slice_bounds-solve-end-3 c = omega (arith, (room_told (graph_lent c.args.graph) _ _ c.in_ok-check_room.ensures).1, c.work_bytes-size.ensures)

pub slice_bounds-solve-end-4 : goal.slice_bounds-solve-end-4
slice_bounds-solve-end-4 c =
    sym (length-take-le c.work_bytes-size.result c.args.work.now (omega (arith, (room_told (graph_lent c.args.graph) _ _ c.in_ok-check_room.ensures).1, c.work_bytes-size.ensures)))

pub solve-requires : goal.solve-requires
solve-requires c =
    let a = c.args in
    let t = judged_input c.in_ok-judge.ensures in
    let r = room_told (graph_lent a.graph) _ _ c.in_ok-check_room.ensures in
    (admitted_wider t.graph, length-take-le c.work_bytes-size.result a.work.now (omega (arith, r.1, c.work_bytes-size.ensures)) ∙ c.work_bytes-size.ensures, length-take-le a.graph.variables a.codeword.now r.0, t.gives, omega (arith, t.graph.variables.1))

pub returns-then-solve : goal.returns-then-solve
returns-then-solve c =
    encodes_found c.args.codeword.now c.args.work.now c.in_ok-judge.ensures c.in_ok-check_room.ensures c.work_bytes-size.ensures c.solve.ensures refl refl c.if-solve.true

pub returns : goal.returns
returns c =
    encodes_none c.args.codeword.now c.args.work.now c.in_ok-judge.ensures c.in_ok-check_room.ensures c.work_bytes-size.ensures c.solve.ensures refl refl c.if-solve.false
