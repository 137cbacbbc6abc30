use Rattle.words.specs.Roles.{graph_lent}
use borrow.Author.Rules.{rules}
use mathlib.Core.Path.{sym}
use native.Mathlib.Omega.{arith}
use Rattle.graphs.proofs.Lending.{lent_admitted}
use Rattle.graph.proofs.Calls.{odd_graph, odd_length, odd_bit, odd_counted}
use Rattle.graph.proofs.count_odd.Goals as goal

pub returns-in_err-check : goal.returns-in_err-check
returns-in_err-check c = search (rules, odd_graph (graph_lent c.args.graph) c.args.bits.now c.in_err-check.ensures)

pub returns-then-bits-graph : goal.returns-then-bits-graph
returns-then-bits-graph c = odd_length _ _ c.in_ok-check.ensures c.if-bits-graph.true

pub returns-in_err-check_bits : goal.returns-in_err-check_bits
returns-in_err-check_bits c = search (rules, odd_bit (graph_lent c.args.graph) c.args.bits.now c.in_ok-check.ensures c.if-bits-graph.false c.in_err-check_bits.ensures)

pub odd_checks-requires : goal.odd_checks-requires
odd_checks-requires c = (lent_admitted _ _ (sym c.in_ok-check.ensures.answer), omega arith)

pub returns : goal.returns
returns c = odd_counted _ _ c.in_ok-check.ensures c.if-bits-graph.false c.in_ok-check_bits.ensures c.odd_checks.ensures
