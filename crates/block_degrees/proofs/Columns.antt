-- The loop that looks for 5 at the first variable of each block column, one block column on.
use Rattle.std.specs.Prelude.{Ok, Err}
use mathlib.Core.Path.{◌≡◌, sym, ap, ◌∙◌}
use mathlib.Core.Bool.{Bool, true, false}
use mathlib.Core.List.{List}
use Prim.Native.Nat.{ℕ, suc, ◌+◌, ◌*◌, ◌≤◌, ◌<◌}
use native.Mathlib.Nat.{zero-mul, suc-mul, mul-le-mul_right}
use native.Mathlib.Numerals.{add-one}
use native.Mathlib.Omega.{arith}
use Rattle.rules.specs.Graphs.{limits, least_variable_degree, between}
use Rattle.refusals.specs.declared.Refusal.{Refusal}
use Rattle.refusals.specs.declared.Refusal.TheVariants.{Degree}
use Rattle.refusals.proofs.Judging.{Passed, passed_none, passed_more, passed_all, failed_at}
use Rattle.words.specs.Roles.{degree_at}
use Rattle.block_sheets.specs.Text.Scanning.{counts_in}
use Rattle.block_sheets.specs.declared.Counts.{Counts}
use Rattle.block_degrees.specs.Counting.{column_degrees_judged}

module _ (k : Counts) (d : List ℕ) where
  abbrev test : ℕ → Bool
  test j = between least_variable_degree (degree_at d (j * k.size)) limits.variable_degree

  abbrev refusal : ℕ → Refusal
  refusal j = Degree (k.rows * k.size + j * k.size)

  -- before block column j, whose first variable is v
  pub record Looking (j v : ℕ) : Type 0 where
    pub up : j ≤ k.columns
    pub at : v ≡ j * k.size
    pub passed : Passed test refusal j

  pub looking_none : Looking 0 0
  looking_none = record { up = omega arith; at = sym (zero-mul k.size); passed = passed_none }

module _ {k : Counts} {d : List ℕ} {j v : ℕ} (q : Looking k d j v) where
  pub looking_room : j < k.columns → v + k.size ≤ k.columns * k.size
  looking_room l = omega (arith, q.at, suc-mul j k.size, mul-le-mul_right {m = suc j} {n = k.columns} k.size l)

  -- what the code finds of variable v
  module _ {b : Bool} (e : b ≡ between least_variable_degree (degree_at d v) limits.variable_degree) where
    here : test k d j ≡ b
    here = ap (λ (n : ℕ). between least_variable_degree (degree_at d n) limits.variable_degree) (sym q.at) ∙ sym e

    pub looking_failed : b ≡ false → j < k.columns → Err (Degree (k.rows * k.size + v)) ≡ column_degrees_judged (counts_in k) d
    looking_failed t l = ap (λ (n : ℕ). Err (Degree (k.rows * k.size + n))) q.at ∙ sym (failed_at q.passed (here ∙ t) l)

    pub looking_more : b ≡ true → j < k.columns → Looking k d (j + 1) (v + k.size)
    looking_more t l = record {
      up = omega arith;
      at = ap (λ (n : ℕ). n + k.size) q.at ∙ sym (suc-mul j k.size) ∙ ap (λ (n : ℕ). n * k.size) (sym (add-one j));
      passed = passed_more q.passed (here ∙ t);
    }

  pub looking_all : k.columns ≤ j → (Ok tt) ≡ column_degrees_judged (counts_in k) d
  looking_all l = sym (passed_all q.passed (omega (arith, q.up)))
