use Rattle.words.specs.Roles.{graph_lent}
use borrow.Author.Rules.{rules}
use Rattle.graph.proofs.Calls.{row_graph, row_number, row_good}
use Rattle.graph.proofs.judge_row.Goals as goal

pub returns-in_err-check : goal.returns-in_err-check
returns-in_err-check c = search (rules, row_graph (graph_lent c.args.graph) c.args.i c.in_err-check.ensures)

pub returns-then-checks-i : goal.returns-then-checks-i
returns-then-checks-i c = row_number _ _ c.in_ok-check.ensures c.checks.ensures c.if-checks-i.true

pub returns : goal.returns
returns c = row_good _ _ c.in_ok-check.ensures c.checks.ensures c.if-checks-i.false
