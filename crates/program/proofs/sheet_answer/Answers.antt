use mathlib.Core.Path.{◌≡◌, sym}
use Prim.Native.Nat.{◌+◌, ◌*◌}
use lib.ListN.{length, take}
use lib.Seq.{length-take-le}
use Rattle.words.specs.Roles.{wide}
use Rattle.graphs.proofs.Parts.{counts_admitted}
use Rattle.printing.proofs.Parts.{prints_as}
use Rattle.program.proofs.Inputs.{GraphIn, sheet_refused, sheet_graph}
use native.Mathlib.Omega.{arith}
use Rattle.program.proofs.sheet_answer.Goals as goal

pub overflow_add-s : goal.overflow_add-s
overflow_add-s c =
    let graph_read : GraphIn c.args.sheet.now c.in-Ok.counts c.read_within.new.starts c.read_within.new.columns = sheet_graph c.args.sheet.now c.read_within.ensures (omega arith) (omega arith) (omega arith) c.in-Ok.is in
    omega (arith, graph_read.checks)

pub overflow_mul-s : goal.overflow_mul-s
overflow_mul-s c =
    let graph_read : GraphIn c.args.sheet.now c.in-Ok.counts c.read_within.new.starts c.read_within.new.columns = sheet_graph c.args.sheet.now c.read_within.ensures (omega arith) (omega arith) (omega arith) c.in-Ok.is in
    omega (arith, graph_read.checks)

pub overflow_mul-c : goal.overflow_mul-c
overflow_mul-c c =
    let graph_read : GraphIn c.args.sheet.now c.in-Ok.counts c.read_within.new.starts c.read_within.new.columns = sheet_graph c.args.sheet.now c.read_within.ensures (omega arith) (omega arith) (omega arith) c.in-Ok.is in
    omega (arith, graph_read.entries)

pub slice_bounds-starts-end : goal.slice_bounds-starts-end
slice_bounds-starts-end c =
    let graph_read : GraphIn c.args.sheet.now c.in-Ok.counts c.read_within.new.starts c.read_within.new.columns = sheet_graph c.args.sheet.now c.read_within.ensures (omega arith) (omega arith) (omega arith) c.in-Ok.is in
    omega (arith, graph_read.checks, c.starts-2-1.given)

pub slice_bounds-graph-end : goal.slice_bounds-graph-end
slice_bounds-graph-end c =
    let graph_read : GraphIn c.args.sheet.now c.in-Ok.counts c.read_within.new.starts c.read_within.new.columns = sheet_graph c.args.sheet.now c.read_within.ensures (omega arith) (omega arith) (omega arith) c.in-Ok.is in
    let starts_long : length (take (wide * (c.in-Ok.counts.checks + 1)) c.read_within.new.starts) ≡ wide * (c.in-Ok.counts.checks + 1) = length-take-le (wide * (c.in-Ok.counts.checks + 1)) c.read_within.new.starts (omega (arith, graph_read.checks, c.starts-2-1.given)) in
    sym starts_long

pub slice_bounds-columns-end : goal.slice_bounds-columns-end
slice_bounds-columns-end c =
    let graph_read : GraphIn c.args.sheet.now c.in-Ok.counts c.read_within.new.starts c.read_within.new.columns = sheet_graph c.args.sheet.now c.read_within.ensures (omega arith) (omega arith) (omega arith) c.in-Ok.is in
    omega (arith, graph_read.entries, c.columns-2-1.given)

pub slice_bounds-graph-end-in-Ok : goal.slice_bounds-graph-end-in-Ok
slice_bounds-graph-end-in-Ok c =
    let graph_read : GraphIn c.args.sheet.now c.in-Ok.counts c.read_within.new.starts c.read_within.new.columns = sheet_graph c.args.sheet.now c.read_within.ensures (omega arith) (omega arith) (omega arith) c.in-Ok.is in
    let columns_long : length (take (wide * c.in-Ok.counts.entries) c.read_within.new.columns) ≡ wide * c.in-Ok.counts.entries = length-take-le (wide * c.in-Ok.counts.entries) c.read_within.new.columns (omega (arith, graph_read.entries, c.columns-2-1.given)) in
    sym columns_long

pub run_answer-requires : goal.run_answer-requires
run_answer-requires c =
    let graph_read : GraphIn c.args.sheet.now c.in-Ok.counts c.read_within.new.starts c.read_within.new.columns = sheet_graph c.args.sheet.now c.read_within.ensures (omega arith) (omega arith) (omega arith) c.in-Ok.is in
    let starts_long : length (take (wide * (c.in-Ok.counts.checks + 1)) c.read_within.new.starts) ≡ wide * (c.in-Ok.counts.checks + 1) = length-take-le (wide * (c.in-Ok.counts.checks + 1)) c.read_within.new.starts (omega (arith, graph_read.checks, c.starts-2-1.given)) in
    let columns_long : length (take (wide * c.in-Ok.counts.entries) c.read_within.new.columns) ≡ wide * c.in-Ok.counts.entries = length-take-le (wide * c.in-Ok.counts.entries) c.read_within.new.columns (omega (arith, graph_read.entries, c.columns-2-1.given)) in
    let g = graph_read in
    let starts = starts_long in
    let columns = columns_long in
    (counts_admitted _ (record { variables = g.variables; checks = (omega (arith, g.checks.0, starts), omega (arith, g.checks.1, starts)); entries = omega (arith, g.entries, columns) }), omega arith)

pub returns-in-Err : goal.returns-in-Err
returns-in-Err c = let s = c.args in prints_as (sheet_refused s.sheet.now c.read_within.ensures (omega arith) (omega arith) (omega arith) c.in-Err.is s.run.now) c.put_refusal.ensures

pub returns-in-Ok : goal.returns-in-Ok
returns-in-Ok c =
    let graph_read : GraphIn c.args.sheet.now c.in-Ok.counts c.read_within.new.starts c.read_within.new.columns = sheet_graph c.args.sheet.now c.read_within.ensures (omega arith) (omega arith) (omega arith) c.in-Ok.is in
    prints_as (graph_read.text c.args.run.now) c.run_answer.ensures
