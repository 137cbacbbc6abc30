use mathlib.Core.Path.{◌≡◌, ap, ◌∙◌}
use native.Mathlib.Omega.{arith}
use Rattle.rules.specs.Graphs.{limits, least_variable_degree, between}
use Rattle.words.specs.Roles.{degree_at}
use Rattle.block_degrees.proofs.Columns.{looking_none, looking_room, looking_failed, looking_more, looking_all}
use Rattle.block_degrees.proofs.judge_columns.Goals as goal

pub overflow_mul-m : goal.overflow_mul-m
overflow_mul-m c = record { fits = omega (arith, c.requires.checks) }

pub loop-j-init : goal.loop-j-init
loop-j-init c = looking_none c.args.counts c.args.degrees.now

pub degree-requires : goal.degree-requires
degree-requires c = omega (arith, looking_room c.loop-j.invariant (omega arith), c.requires.enough, c.requires.some)

pub overflow_add-result : goal.overflow_add-result
overflow_add-result c = omega (arith, looking_room c.loop-j.invariant (omega arith), c.requires.checks, c.requires.variables)

pub returns-then-not-in_range : goal.returns-then-not-in_range
returns-then-not-in_range c =
    let found : c.in_range.result ≡ between least_variable_degree (degree_at c.args.degrees.now c.loop-j.v) limits.variable_degree = c.in_range.ensures ∙ ap (λ d. between least_variable_degree d limits.variable_degree) c.degree.ensures.0 in
    looking_failed c.loop-j.invariant found c.if-not-in_range.true (omega arith)

pub overflow_add-v : goal.overflow_add-v
overflow_add-v c = omega (arith, looking_room c.loop-j.invariant (omega arith), c.requires.variables)

pub loop-j-preserved : goal.loop-j-preserved
loop-j-preserved c =
    let found : c.in_range.result ≡ between least_variable_degree (degree_at c.args.degrees.now c.loop-j.v) limits.variable_degree = c.in_range.ensures ∙ ap (λ d. between least_variable_degree d limits.variable_degree) c.degree.ensures.0 in
    looking_more c.loop-j.invariant found c.if-not-in_range.false (omega arith)

pub returns : goal.returns
returns c = looking_all c.loop-j.invariant (omega arith)
