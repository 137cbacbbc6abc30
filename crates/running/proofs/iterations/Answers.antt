use mathlib.Core.Path.{◌≡◌, refl, sym, ap, ◌∙◌}
use Prim.Native.Nat.{◌-◌, ◌+◌}
use native.Mathlib.Omega.{arith}
use Rattle.rules.specs.Ranges.{tabulate}
use Rattle.steps.proofs.Stepping.{iterated_small}
use Rattle.steps.proofs.Lifting.{small_under, parts_under_lem}
use Rattle.steps.proofs.Running.{next_holds, next_sends, made_none, made_by, made_as}
use Rattle.running.proofs.Going.{going_none, sent_on, going_over, going_more, sized_again}
use Rattle.running.proofs.iterations.Goals as goal

pub loop-t-init : goal.loop-t-init
loop-t-init c = let k : c.args.begun - c.args.begun ≡ 0 = omega arith in (going_none _ _ _ _ c.requires.begun_lt_end.0, c.parts.ensures, rw k (made_none refl))

pub iterate-requires : goal.iterate-requires
iterate-requires c =
    let l = c.loop-t in
    (sized_again c.requires.admissible.1 l.auto.variable_messages l.auto.check_messages l.auto.sums l.auto.bits, parts_under_lem c.requires.admissible.0 (l.t + 1) c.lift.ensures)

pub send-requires-clause-admissible : goal.send-requires-clause-admissible
send-requires-clause-admissible c =
    let l = c.loop-t in
    (c.requires.admissible.0, omega (arith, l.invariant.0.from), made_as (l.t - c.args.begun) _ (omega (arith, l.invariant.0.from)) l.invariant.2, parts_under_lem c.requires.admissible.0 (l.t + 1) c.lift.ensures)

pub send-requires-clause-by_index_2 : goal.send-requires-clause-by_index_2
send-requires-clause-by_index_2 c =
    let a = c.args in
    let z = c.requires.admissible.1.summed in
    λ v h. iterated_small a.graph.variables a.graph.starts.now a.graph.columns.now z.admitted a.levels.now c.iterate.ensures (parts_under_lem c.requires.admissible.0 (c.loop-t.t + 1) c.lift.ensures) v (omega (arith, c.iterate.auto.sums, c.loop-t.auto.sums, z.sums))

pub returns-then-over : goal.returns-then-over
returns-then-over c =
    let a = c.args in
    λ σ n h. rw (c.send.ensures.1, c.if-over.true) (going_over _ _ _ _ c.loop-t.invariant.0
    (λ τ m k. next_holds a.graph.variables a.graph.starts.now a.graph.columns.now c.requires.admissible.1.summed.admitted _ _ _ (small_under c.requires.admissible.0) a.levels.now τ m k c.lift.ensures c.iterate.ensures)
    σ n h (sym c.halts-over.ensures ∙ c.if-over.true))

pub loop-t-preserved : goal.loop-t-preserved
loop-t-preserved c =
    let i = c.iterate in
    let l = c.loop-t in
    let a = c.args in
    let z = c.requires.admissible.1 in
    let p = c.lift.ensures in
    let made = c.send.ensures.0 c.if-over.false in (
      going_more _ _ _ _ l.invariant.0 (λ τ m k. next_holds a.graph.variables a.graph.starts.now a.graph.columns.now z.summed.admitted _ _ _ (small_under c.requires.admissible.0) a.levels.now τ m k p i.ensures)
          (sym c.halts-over.ensures ∙ c.if-over.false) c.requires.begun_lt_end.1
          (λ τ m k. next_sends a.graph.variables a.graph.starts.now a.graph.columns.now z.summed.admitted _ _ _ (small_under c.requires.admissible.0) a.levels.now τ m k p i.ensures (parts_under_lem c.requires.admissible.0 (l.t + 1) p) made
          (sent_on _ _ c.if-over.false c.send.ensures.1 ∙ ap (tabulate _) (i.auto.check_messages ∙ l.auto.check_messages ∙ z.summed.check_messages))),
      p,
      made_by (l.t + 1 - a.begun) made,
    )
