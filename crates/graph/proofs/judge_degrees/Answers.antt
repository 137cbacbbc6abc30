use borrow.Author.Rules.{rules}
use mathlib.Core.Path.{refl, sym, ◌∙◌}
use native.Mathlib.Omega.{arith}
use Rattle.rules.specs.Graphs.{limits}
use Rattle.words.specs.Roles.{graph_lent}
use Rattle.graphs.proofs.Parts.{counts_told, columns_told}
use Rattle.graphs.proofs.Lending.{shape_told, judges_refused, judges_last, counted_all, variables_off}
use Rattle.graph.proofs.judge_degrees.Goals as goal

pub count_degrees-requires : goal.count_degrees-requires
count_degrees-requires c =
    let shape = shape_told _ c.requires.columns_value in
    record { n_in_bounds = (c.requires.n_in_bounds, omega (arith, (counts_told _ shape.counts).entries)); by_index = columns_told _ shape.columns }

pub check_degrees-requires : goal.check_degrees-requires
check_degrees-requires c = (shape_told _ c.requires.columns_value).starts

pub returns-in_err-check_degrees : goal.returns-in_err-check_degrees
returns-in_err-check_degrees c =
    let counted = counted_all (graph_lent c.args.graph) c.args.degrees.now c.count_degrees.ensures in
    search (rules, judges_refused _ counted (sym c.in_err-check_degrees.ensures))

pub judge-requires : goal.judge-requires
judge-requires c =
    let counts = counts_told _ (shape_told _ c.requires.columns_value).counts in
    (omega (arith, counts.checks.1), counts.variables.1, omega (arith, c.requires.n_in_bounds))

pub returns : goal.returns
returns c =
    let G = graph_lent c.args.graph in
    let counted = counted_all G c.args.degrees.now c.count_degrees.ensures in
    judges_last _ counted (sym c.in_ok-check_degrees.ensures) (c.judge.ensures ∙ variables_off limits G c.args.degrees.now counted (omega (arith, (counts_told _ (shape_told _ c.requires.columns_value).counts).entries)) c.checks.ensures refl)
