use mathlib.Core.Path.{sym}
use Prim.Native.Nat.{◌*◌}
use lib.Seq.{length-take-le}
use Rattle.rules.specs.Graphs.{program_limits}
use Rattle.words.specs.Roles.{graph_lent}
use Rattle.graphs.proofs.Parts.{Counts, counts_told}
use Rattle.printing.proofs.Parts.{prints_as}
use Rattle.program.proofs.Inputs.{run_refused, run_given}
use native.Mathlib.Omega.{arith}
use Rattle.program.proofs.run_answer.Goals as goal

pub read-requires : goal.read-requires
read-requires c =
    let counts : Counts program_limits (graph_lent c.args.graph) = counts_told _ c.requires.0 in
    let k = counts in (k.variables.1, omega (arith, k.variables.1))

pub overflow_mul-w : goal.overflow_mul-w
overflow_mul-w c =
    let counts : Counts program_limits (graph_lent c.args.graph) = counts_told _ c.requires.0 in
    omega (arith, counts.variables.1)

pub slice_bounds-values-end : goal.slice_bounds-values-end
slice_bounds-values-end c =
    let counts : Counts program_limits (graph_lent c.args.graph) = counts_told _ c.requires.0 in
    omega (arith, counts.variables.1, c.values-2-1.given)

pub slice_bounds-frame-end : goal.slice_bounds-frame-end
slice_bounds-frame-end c =
    let counts : Counts program_limits (graph_lent c.args.graph) = counts_told _ c.requires.0 in
    sym (length-take-le (4 * c.args.graph.variables) c.read.new.values (omega (arith, counts.variables.1, c.values-2-1.given)))

pub returns-in-Err : goal.returns-in-Err
returns-in-Err c = prints_as (run_refused c.args.graph.variables c.args.run.now c.args.graph.starts.now c.args.graph.columns.now c.read.ensures c.in-Err.is) c.put_refusal.ensures

pub returns-in-Ok : goal.returns-in-Ok
returns-in-Ok c = prints_as (run_given c.args.graph.variables c.args.run.now c.args.graph.starts.now c.args.graph.columns.now c.read.ensures c.in-Ok.is) c.decode_answer.ensures
