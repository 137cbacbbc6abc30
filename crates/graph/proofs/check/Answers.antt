use borrow.Author.Rules.{rules}
use mathlib.Core.Path.{sym}
use native.Mathlib.Omega.{arith}
use Rattle.graphs.proofs.Lending.{checks_refused, checks_short, checks_judged}
use Rattle.graph.proofs.check.Goals as goal

pub returns-in_err-check_shape : goal.returns-in_err-check_shape
returns-in_err-check_shape c = search (rules, checks_refused _ c.args.degrees.now (sym c.in_err-check_shape.ensures))

pub returns-then-degrees-graph : goal.returns-then-degrees-graph
returns-then-degrees-graph c = checks_short _ c.args.degrees.now (sym c.in_ok-check_shape.ensures) (omega arith)

pub returns : goal.returns
returns c = checks_judged _ c.args.degrees.now (sym c.in_ok-check_shape.ensures) (omega arith) c.judge_degrees.ensures
