use borrow.Author.Rules.{rules}
use mathlib.Core.Path.{refl, sym, ◌∙◌}
use Rattle.words.specs.Roles.{graph_lent}
use Rattle.codewords.proofs.Limits.{judges_large, judges_small}
use Rattle.encoder.proofs.judge.Goals as goal

pub returns-then-not-is_small : goal.returns-then-not-is_small
returns-then-not-is_small c =
    let a = c.args in
    judges_large (graph_lent a.graph) (sym c.is_small.ensures ∙ c.if-not-is_small.true) a.positions.now a.given.now a.degrees.now

pub returns-in_err-check : goal.returns-in_err-check
returns-in_err-check c =
    let a = c.args in
    search (rules, judges_small (graph_lent a.graph) (sym c.is_small.ensures ∙ c.if-not-is_small.false) a.positions.now a.given.now c.in_err-check.ensures refl)

pub returns : goal.returns
returns c =
    let a = c.args in
    judges_small (graph_lent a.graph) (sym c.is_small.ensures ∙ c.if-not-is_small.false) a.positions.now a.given.now c.in_ok-check.ensures c.check_given.ensures
