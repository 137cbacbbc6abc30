use native.Mathlib.Omega.{arith}
use Rattle.rules.proofs.Rows.{admitted_row}
use Rattle.words.specs.Roles.{graph_lent}
use Rattle.solving.proofs.Loading.{load_none, load_more, load_all}
use Rattle.solving.proofs.load_row.Goals as goal

pub loop-e-init : goal.loop-e-init
loop-e-init c = load_none (graph_lent c.args.graph) c.args.graph.variables c.args.j c.start-e.ensures.0

pub column-requires : goal.column-requires
column-requires c = omega (arith, admitted_row _ c.requires.0 c.args.j c.requires.1 c.start-e.ensures.0 c.start-e-end.ensures.0)

pub flip-requires : goal.flip-requires
flip-requires c =
    let ends = admitted_row _ c.requires.0 c.args.j c.requires.1 c.start-e.ensures.0 c.start-e-end.ensures.0 in
    omega (arith, c.requires.0.within c.loop-e.e (omega (arith, ends)), c.loop-e.invariant.long)

pub loop-e-preserved : goal.loop-e-preserved
loop-e-preserved c =
    let ends = admitted_row _ c.requires.0 c.args.j c.requires.1 c.start-e.ensures.0 c.start-e-end.ensures.0 in
    load_more (graph_lent c.args.graph) c.args.graph.variables c.args.j (omega arith) (omega (arith, c.requires.0.within c.loop-e.e (omega (arith, ends)))) (omega arith) c.column.ensures.0 c.loop-e.invariant c.flip.ensures

pub returns : goal.returns
returns c =
    let ends = admitted_row _ c.requires.0 c.args.j c.requires.1 c.start-e.ensures.0 c.start-e-end.ensures.0 in
    load_all (graph_lent c.args.graph) c.args.graph.variables c.args.j (omega (arith, c.loop-e.auto.e-end (omega (arith, ends.0)))) c.loop-e.invariant
