-- 5 of an expansion, by its blocks: tests that come Z at a time, with their places.
use Rattle.std.specs.Prelude.{Ok, Err}
use mathlib.Core.Path.{◌≡◌, refl, sym, ap, ap₂, ◌∙◌}
use mathlib.Core.Bool.{Bool, true, false}
use Prim.Native.Nat.{ℕ, zero, suc, ◌+◌, ◌-◌, ◌*◌, ◌/◌, ◌<◌}
use native.Mathlib.Nat.{zero-mul, suc-mul}
use native.Mathlib.Numerals.{add-one}
use native.Mathlib.Omega.{arith}
use lib.Dec.{leb}
use Rattle.rules.specs.Graphs.{limits, least_check_degree, least_variable_degree, between, check_degree, variable_degree}
use Rattle.refusals.specs.Refusals.{paper, unless, or_else, each, Judged}
use Rattle.refusals.specs.declared.Refusal.{Refusal}
use Rattle.refusals.specs.declared.Refusal.TheVariants.{Degree}
use Rattle.refusals.proofs.Judging.{each_none, each_next, each_same}
use Rattle.graphs.specs.Judging.{check_degrees_judged, variable_degrees_judged}
use Rattle.code_sheets.specs.Reader.Storing.{RowsTo}
use Rattle.code_sheets.specs.declared.Rows.{Rows}
use Rattle.block_sheets.specs.Text.Blocks.{Blocks, places_of, start_of_block}
use Rattle.block_sheets.specs.Text.Expansion.{expansion}
use Rattle.block_sheets.specs.Text.Theorems.{Ordered}
use Rattle.block_sheets.proofs.Text.Rows.{part_div}
use Rattle.block_text.proofs.Degrees.{degrees}

-- a test that failed before, or passes again, adds nothing
again : (x : Judged) (b : Bool) (p q : Refusal) → or_else (or_else x (unless b p)) (unless b q) ≡ or_else x (unless b p)
again (Ok _) true p q = refl
again (Ok _) false p q = refl
again (Err r) b p q = refl

-- tests that come Z at a time
module _ (test : ℕ → Bool) (at : ℕ → Refusal) (Z : ℕ) where
  abbrev each_of : ℕ → Judged
  each_of c = unless (test (c / Z)) (at c)

  along : (i r : ℕ) → r < Z → each each_of (i * Z + suc r) ≡ or_else (each each_of (i * Z)) (unless (test i) (at (i * Z)))
  along i zero l =
      let start : i * Z ≡ i * Z + 0 = omega arith in
      each_next each_of (i * Z) ∙ ap (λ (k : ℕ). or_else (each each_of (i * Z)) (unless (test k) (at (i * Z)))) (ap (λ (x : ℕ). x / Z) start ∙ part_div Z i 0 l)
  along i (suc r) l =
      let e : i * Z + suc (suc r) ≡ i * Z + suc r + 1 = omega arith in
      ap (each each_of) e ∙ each_next each_of (i * Z + suc r)
      ∙ ap₂ (λ (x : Judged) (k : ℕ). or_else x (unless (test k) (at (i * Z + suc r)))) (along i r (omega arith)) (part_div Z i (suc r) l)
      ∙ again (each each_of (i * Z)) (test i) (at (i * Z)) (at (i * Z + suc r))

  each_parts : 0 < Z → (n : ℕ) → each each_of (n * Z) ≡ each (λ i. unless (test i) (at (i * Z))) n
  each_parts h zero = ap (each each_of) (zero-mul Z) ∙ each_none each_of ∙ sym (each_none (λ i. unless (test i) (at (i * Z))))
  each_parts h (suc n) =
      let last : suc n * Z ≡ n * Z + suc (Z - 1) = omega (arith, suc-mul n Z) in
      ap (each each_of) last ∙ along n (Z - 1) (omega arith)
      ∙ ap (λ (x : Judged). or_else x (unless (test n) (at (n * Z)))) (each_parts h n)
      ∙ sym (ap (each (λ i. unless (test i) (at (i * Z)))) (sym (add-one n)) ∙ each_next (λ i. unless (test i) (at (i * Z))) n)

-- ---- the same tests with other refusals

abbrev moved : (Refusal → Refusal) → Judged → Judged
moved f (Ok _) = Ok tt
moved f (Err r) = Err (f r)

moved_else : (f : Refusal → Refusal) (a b : Judged) → or_else (moved f a) (moved f b) ≡ moved f (or_else a b)
moved_else f (Ok _) b = refl
moved_else f (Err r) b = refl

moved_unless : (f : Refusal → Refusal) (t : Bool) (r : Refusal) → unless t (f r) ≡ moved f (unless t r)
moved_unless f true r = refl
moved_unless f false r = refl

each_moved : (test : ℕ → Bool) (at : ℕ → Refusal) (f : Refusal → Refusal) (n : ℕ)
    → each (λ i. unless (test i) (f (at i))) n ≡ moved f (each (λ i. unless (test i) (at i)) n)
each_moved test at f zero = each_none (λ i. unless (test i) (f (at i))) ∙ ap (moved f) (sym (each_none (λ i. unless (test i) (at i))))
each_moved test at f (suc n) =
    ap (each (λ i. unless (test i) (f (at i)))) (sym (add-one n)) ∙ each_next (λ i. unless (test i) (f (at i))) n
    ∙ ap₂ or_else (each_moved test at f n) (moved_unless f (test n) (at n))
    ∙ moved_else f (each (λ i. unless (test i) (at i)) n) (unless (test n) (at n))
    ∙ ap (moved f) (sym (each_next (λ i. unless (test i) (at i)) n) ∙ ap (each (λ i. unless (test i) (at i))) (add-one n))

-- ---- the checks

module _ (b : Blocks) (ok : Ordered b) where
  abbrev Z : ℕ
  Z = b.size

  abbrev test : ℕ → Bool
  test i = between least_check_degree (check_degree (places_of b) i) limits.check_degree

  -- the place of a refused check, where its block row is that of r
  abbrev first : Refusal → Refusal
  first r = Degree ((paper r).place * Z)

  by_row : check_degrees_judged limits (expansion b) ≡ each (λ i. unless (test i) (Degree (i * Z))) b.rows
  unfolding check_degrees_judged
  by_row =
      each_same (λ c. unless (between least_check_degree (check_degree (expansion b) c) limits.check_degree) (Degree c)) (λ c. unless (test (c / Z)) (Degree c)) (b.rows * Z)
      (λ c l. ap (λ (d : ℕ). unless (between least_check_degree d limits.check_degree) (Degree c)) ((degrees b ok).checks c))
      ∙ each_parts test Degree Z ok.some b.rows

  -- as the rows that went by have it
  pub checks_are : (rows : Rows) → rows.check ≡ b.rows → RowsTo (start_of_block b) rows
      → check_degrees_judged limits (expansion b) ≡ unless (leb b.rows rows.low) (Degree (rows.low * Z))
  checks_are rows e h =
      by_row ∙ each_moved test Degree first b.rows
      ∙ ap (moved first) (ap (each (λ i. unless (test i) (Degree i))) (sym e) ∙ h.judged ∙ ap (λ (n : ℕ). unless (leb n rows.low) (Degree rows.low)) e)
      ∙ sym (moved_unless first (leb b.rows rows.low) (Degree rows.low))

  -- ---- the variables

  pub by_column : variable_degrees_judged limits (expansion b)
      ≡ each (λ j. unless (between least_variable_degree (variable_degree (places_of b) j) limits.variable_degree) (Degree (b.rows * Z + j * Z))) b.columns
  unfolding variable_degrees_judged
  by_column =
      each_same (λ v. unless (between least_variable_degree (variable_degree (expansion b) v) limits.variable_degree) (Degree (b.rows * Z + v)))
      (λ v. unless (between least_variable_degree (variable_degree (places_of b) (v / Z)) limits.variable_degree) (Degree (b.rows * Z + v))) (b.columns * Z)
      (λ v l. ap (λ (d : ℕ). unless (between least_variable_degree d limits.variable_degree) (Degree (b.rows * Z + v))) ((degrees b ok).variables v))
      ∙ each_parts (λ j. between least_variable_degree (variable_degree (places_of b) j) limits.variable_degree) (λ v. Degree (b.rows * Z + v)) Z ok.some b.columns
