use mathlib.Core.Path.{sym}
use native.Mathlib.Omega.{arith}
use lib.Seq.{length-take-le}
use Rattle.rules.specs.Graphs.{program_limits}
use Rattle.words.specs.Roles.{graph_lent}
use Rattle.graphs.proofs.Parts.{Counts, counts_told}
use Rattle.program.proofs.Frames.{refused_prints, ran_prints}
use Rattle.program.proofs.decode_answer.Goals as goal

pub slice_bounds-bits-end : goal.slice_bounds-bits-end
slice_bounds-bits-end c =
    let counts : Counts program_limits (graph_lent c.args.frame.graph) = counts_told _ c.requires.0 in
    omega (arith, counts.variables.1, c.bits-2-1.given)

pub slice_bounds-put_report-end : goal.slice_bounds-put_report-end
slice_bounds-put_report-end c =
    let counts : Counts program_limits (graph_lent c.args.frame.graph) = counts_told _ c.requires.0 in
    sym (length-take-le c.args.frame.graph.variables c.decode-answer.new.bits (omega (arith, counts.variables.1, c.bits-2-1.given)))

pub put_report-requires : goal.put_report-requires
put_report-requires c =
    let counts : Counts program_limits (graph_lent c.args.frame.graph) = counts_told _ c.requires.0 in
    (omega (arith, c.requires.1), omega (arith, counts.variables.1, length-take-le c.args.frame.graph.variables c.decode-answer.new.bits (omega (arith, counts.variables.1, c.bits-2-1.given))))

pub returns-in-Err : goal.returns-in-Err
returns-in-Err c =
    let counts : Counts program_limits (graph_lent c.args.frame.graph) = counts_told _ c.requires.0 in
    let k = counts in
    refused_prints c.decode-answer.ensures (record { old = record { counts = c.requires.0; enough = omega (arith, k.variables.1) }; levels = omega (arith, k.variables.1); variable_messages = omega (arith, k.entries); check_messages = omega (arith, k.entries); sums = omega (arith, k.variables.1); bits = omega (arith, k.variables.1) }) c.in-Err.is c.put_refusal.ensures

pub returns-in-Ok : goal.returns-in-Ok
returns-in-Ok c =
    let counts : Counts program_limits (graph_lent c.args.frame.graph) = counts_told _ c.requires.0 in
    let k = counts in
    ran_prints c.decode-answer.ensures (record { old = record { counts = c.requires.0; enough = omega (arith, k.variables.1) }; levels = omega (arith, k.variables.1); variable_messages = omega (arith, k.entries); check_messages = omega (arith, k.entries); sums = omega (arith, k.variables.1); bits = omega (arith, k.variables.1) }) c.in-Ok.is c.put_report.ensures
