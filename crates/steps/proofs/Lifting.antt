-- The list of parts, from one iteration to the next.
use mathlib.Core.Path.{◌≡◌, sym, ap, ap₂, ◌∙◌, fun_ext}
use mathlib.Core.Bool.{Bool, true, false, not, cond, ◌&&◌}
use mathlib.Core.List.{List}
use Prim.Native.Nat.{ℕ, ◌+◌, ◌≤◌, ◌<◌}
use native.Mathlib.Decide.{dec_lt}
use native.Mathlib.Omega.{arith}
use borrow.Author.Tests.{ne_eqb, le-leb, lt-leb}
use lib.Dec.{eqb, leb}
use lib.IntN.{ℤ, pos, nat_abs}
use Rattle.rules.specs.Ranges.{tabulate}
use Rattle.rules.specs.Levels.{Level, level_of, largest}
use Rattle.rules.specs.Nodes.{Lifting, never, lifts, lifted, counted, contribution}
use Rattle.rules.proofs.Bounds.{abs_contribution}
use Rattle.rules.proofs.Own.{largest_within}
use Rattle.rules.proofs.Lifts.{counted_off, lifts_before}
use Rattle.nodes.specs.Lists.{Parts, up_to}
use Rattle.nodes.proofs.Leaves.{magnitude_small, either_small}
use Rattle.nodes.proofs.SumLaws.{parts_of}
use Rattle.settings.specs.declared.Settings.{Settings}
use Rattle.settings.specs.Theorems.{Admissible}
use Rattle.steps.specs.Steps.{lifting_in, parts_in, parts_under}

-- ---- what counts is small

part_small : (Nq : ℕ) (Λ : Lifting) (t b : ℕ) → Λ.to ≤ 15 → nat_abs (up_to Nq (λ l. contribution 1 (counted Nq Λ t l)) b) ≤ 255
unfolding up_to counted lifted
part_small Nq Λ t b w = within (leb l.magnitude Nq)
  where
    l : Level
    l = level_of b

    go : (x : Bool) → (cond x (lifted Nq Λ.to l) l).magnitude ≤ 127
    go true = either_small (eqb l.magnitude Nq) Λ.to l.magnitude 127 (omega arith) (magnitude_small b)
    go false = magnitude_small b

    within : (x : Bool) → nat_abs (cond x (contribution 1 (counted Nq Λ t l)) (pos 0)) ≤ 255
    within true = omega (arith, abs_contribution 1 (counted Nq Λ t l), go (lifts Λ t))
    within false = omega arith

parts_small : (Nq : ℕ) (Λ : Lifting) (t : ℕ) {parts : List ℤ} → Λ.to ≤ 15 → parts ≡ parts_in Nq Λ t → Parts parts
parts_small Nq Λ t w e = parts_of (up_to Nq (λ l. contribution 1 (counted Nq Λ t l))) e (λ b. part_small Nq Λ t b w)

-- ---- from one iteration to the next

module _ (Nq : ℕ) (Λ : Lifting) (t : ℕ) where
  -- before L every message counts as it is
  pub parts_before : t < Λ.from → parts_in Nq Λ t ≡ tabulate (up_to Nq (contribution 1)) 256
  parts_before u = ap (λ f. tabulate (up_to Nq f) 256) (fun_ext (λ l. ap (contribution 1) (counted_off Nq Λ t (lifts_before Λ t u) l)))

  -- from L on the list is lifted
  pub parts_lifted : {parts : List ℤ} → Λ.from ≤ t → t < 256 → parts ≡ tabulate (up_to Nq (λ l. contribution 1 (lifted Nq Λ.to l))) 256 → parts ≡ parts_in Nq Λ t
  unfolding lifts counted
  parts_lifted l u p =
      p ∙ ap (λ x. tabulate (up_to Nq (λ l. contribution 1 (cond x (lifted Nq Λ.to l) l))) 256)
      (sym (ap₂ (λ a b. a && not b) (le-leb Λ.from t l) (ne_eqb Λ.from never (λ h. omega arith))))

  -- in every iteration but L it stays
  pub parts_stay : {parts : List ℤ} → (t + 1 ≡ Λ.from → ⊥) → parts ≡ parts_in Nq Λ t → parts ≡ parts_in Nq Λ (t + 1)
  unfolding lifts counted
  parts_stay d p =
      p ∙ ap (λ x. tabulate (up_to Nq (λ l. contribution 1 (cond (x && not (eqb Λ.from never)) (lifted Nq Λ.to l) l))) 256) (go (dec_lt t Λ.from))
    where
      go : Dec (t < Λ.from) → leb Λ.from t ≡ leb Λ.from (t + 1)
      go (yes l) = lt-leb Λ.from t l ∙ sym (lt-leb Λ.from (t + 1) (omega (arith, d)))
      go (no n) = le-leb Λ.from t (omega arith) ∙ sym (le-leb Λ.from (t + 1) (omega arith))

-- ---- under checked settings

pub small_under : {s : Settings} → Admissible s → largest s.message < 8
small_under {s} good = omega (arith, largest_within s.message (omega (arith, good.message, good.channel)))

pub parts_under_lem : {s : Settings} → Admissible s → (t : ℕ) {parts : List ℤ} → parts ≡ parts_under s t → Parts parts
parts_under_lem {s} good t p = parts_small (largest s.message) (lifting_in s) t good.lifting.3 p
