use mathlib.Core.Path.{◌≡◌, sym, ap, ◌∙◌}
use Prim.Native.Nat.{ℕ, ◌+◌, min}
use native.Mathlib.Omega.{arith}
use Rattle.rules.specs.Graphs.{Graph}
use Rattle.rules.specs.Sequence.{Scheme, stop}
use Rattle.words.specs.Roles.{graph_lent}
use Rattle.decoding.specs.Pairing.Grants.{half_up, half_down}
use Rattle.pairing.specs.Exact.{rules_of}
use Rattle.pairing.proofs.Halts.{left_is, left_fits, halts_here, halts_on, runs_granted, variable_within, check_within_lem}
use Rattle.pairing.proofs.run_both.Goals as goal

pub left_by-left_by_second-requires : goal.left_by-left_by_second-requires
left_by-left_by_second-requires c =
    let a = c.args in
    let T : ℕ = a.heads.allowance in
    let up : c.div_ceil-up.result ≡ half_up T = omega (arith, c.div_ceil-up.ensures) in
    λ _. left_fits (graph_lent a.heads.graph) _ a.second.limit c.div_ceil-up.result (half_down T) T (omega arith) c.start-second_run.ensures.run

pub left_by-left_by_first-requires : goal.left_by-left_by_first-requires
left_by-left_by_first-requires c =
    let a = c.args in
    let T : ℕ = a.heads.allowance in
    let up : c.div_ceil-up.result ≡ half_up T = omega (arith, c.div_ceil-up.ensures) in
    λ _. left_fits (graph_lent a.heads.graph) _ a.first.limit (half_down T) c.div_ceil-up.result T (omega arith) c.start-first_run.ensures.run

pub go_further-first_run-requires-clause-within : goal.go_further-first_run-requires-clause-within
go_further-first_run-requires-clause-within c =
    let ready = c.requires.ready.0 in
    let here = halts_here _ _ ready _ c.start-first_run.ensures in
    (variable_within _ _ ready _ _ here, check_within_lem _ _ ready _ _ here)

pub go_further-second_run-requires-clause-within : goal.go_further-second_run-requires-clause-within
go_further-second_run-requires-clause-within c =
    let ready = c.requires.ready.1 in
    let here = halts_here _ _ ready _ c.start-second_run.ensures in
    (variable_within _ _ ready _ _ here, check_within_lem _ _ ready _ _ here)

pub returns : goal.returns
returns c =
    let a = c.args in
    let G : Graph = graph_lent a.heads.graph in
    let first = a.heads.first.values.now in
    let second = a.heads.second.values.now in
    let R₁ : Scheme = rules_of a.first G first in
    let R₂ : Scheme = rules_of a.second G second in
    let T : ℕ = a.heads.allowance in
    let U : ℕ = c.div_ceil-up.result in
    let D : ℕ = half_down T in
    let up : U ≡ half_up T = omega (arith, c.div_ceil-up.ensures) in
    let here = halts_here _ _ c.requires.ready.0 _ c.start-first_run.ensures in
    let here_2 = halts_here _ _ c.requires.ready.1 _ c.start-second_run.ensures in
    let x = c.left_by-left_by_second in
    let y = c.left_by-left_by_first in
    rw (sym up) (
      runs_granted G first c.requires.ready.0 U T (stop G R₂ a.second.limit) (U + x.result)
          (ap (λ (m : ℕ). min (U + m) (stop G R₁ a.first.limit)) x.ensures ∙ left_is G R₂ a.second.limit U D T (stop G R₁ a.first.limit) (omega arith) c.start-second_run.ensures.run)
          (halts_on G first c.requires.ready.0 U x.result c.start-first_run.ensures (c.go_further-first_run.ensures first c.requires.ready.0 here)) c.report_of.ensures,
      runs_granted G second c.requires.ready.1 D T (stop G R₁ a.first.limit) (D + y.result)
          (ap (λ (m : ℕ). min (D + m) (stop G R₂ a.second.limit)) y.ensures ∙ left_is G R₁ a.first.limit D U T (stop G R₂ a.second.limit) (omega arith) c.start-first_run.ensures.run)
          (halts_on G second c.requires.ready.1 D y.result c.start-second_run.ensures (c.go_further-second_run.ensures second c.requires.ready.1 here_2)) c.report_of-2.ensures,
    )
