-- What the tests of line 2 and of an entry mean, and that numbers kept up to the cap are judged alike.
use Rattle.std.specs.Prelude.{Ok}
use mathlib.Core.Path.{◌≡◌, refl, sym, ap, ap₂, ◌∙◌}
use mathlib.Core.Bool.{Bool, ◌&&◌}
use Prim.Native.Nat.{ℕ, zero, suc, ◌+◌, ◌*◌, ◌≤◌, ◌<◌, min}
use native.Mathlib.Decide.{dec_lt}
use native.Mathlib.Nat.{mul-zero, zero-mul, mul-le-mul}
use native.Mathlib.Omega.{arith}
use borrow.Author.Tests.{lt-ltb, le-ltb, ltb-true}
use lib.Dec.{ltb}
use Rattle.rules.specs.Graphs.{limits, fewest_variables, fewest_checks}
use Rattle.refusals.specs.Refusals.{unless, or_else, Judged}
use Rattle.refusals.specs.declared.Refusal.TheVariants.{Count, Range, Order, Shift}
use Rattle.refusals.proofs.Judging.{or_else_left, or_else_right, or_else_both, unless_true}
use Rattle.rules.proofs.Tests.{and_no}
use Rattle.texts.specs.Lines.{Pair, pair}
use Rattle.texts.specs.Places.{cap}
use Rattle.code_sheets.specs.Text.Reading.{counts_fit, not_before, after}
use Rattle.code_sheets.proofs.Text.Order as Sheet
use Rattle.code_sheets.proofs.Text.Sheets.{counts_told, counts_fit_lem}
use Rattle.code_sheets.proofs.Text.Passes.{capped_counts}
use Rattle.texts.specs.Triples.{Triple, triple}
use Rattle.block_sheets.specs.Text.Blocks.{place}
use Rattle.block_sheets.specs.Text.Reading.{expanded, size_judged, block_judged}
use Rattle.block_sheets.specs.Text.Theorems.{BlockFits}

-- ---- an entry

module _ (c : Triple) (low : Pair) (p : Triple) (l : ℕ) where
  abbrev range : Judged
  range = unless (ltb p.first c.second && ltb p.second c.third) (Range l)

  abbrev shift : Judged
  shift = unless (ltb p.third c.first) (Shift l)

  abbrev order : Judged
  order = unless (not_before low (place p)) (Order l)

  pub fits_judged : BlockFits c low p → block_judged c l low p ≡ Ok tt
  fits_judged f =
      let h = Sheet.fits_judged (pair c.third c.second) low (place p) l f.place_fits in
      or_else_both (or_else_left range order h) (or_else_both (ap (λ (b : Bool). unless b (Shift l)) (lt-ltb p.third c.first f.shift)) (or_else_right range order h))

  pub judged_fits : block_judged c l low p ≡ Ok tt → BlockFits c low p
  judged_fits h =
      let rest = or_else_right range (or_else shift order) h in
      record {
        place_fits =
            Sheet.judged_fits (pair c.third c.second) low (place p) l (or_else_both (or_else_left range (or_else shift order) h) (or_else_right shift order rest));
        shift = ltb-true p.third c.first (unless_true (ltb p.third c.first) (Shift l) (or_else_left shift order rest));
      }

-- ---- line 2

-- n and m within their limits
abbrev pub Within : Pair → Type 0
Within c = ((fewest_variables ≤ c.first) × (c.first ≤ limits.variables)) × ((fewest_checks ≤ c.second) × (c.second ≤ limits.checks))

module _ (c : Triple) where
  pub within_judged_lem : 0 < c.first → Within (expanded c) → size_judged c ≡ Ok tt
  within_judged_lem z w = rw (lt-ltb 0 c.first z, counts_fit_lem limits (expanded c) w.0 w.1)

  pub judged_within : size_judged c ≡ Ok tt → (0 < c.first) × Within (expanded c)
  judged_within h =
      let zero = unless (ltb 0 c.first) (Shift 2) in
      let counts = unless (counts_fit limits (expanded c)) (Count 2) in (
        ltb-true 0 c.first (unless_true (ltb 0 c.first) (Shift 2) (or_else_left zero counts h)),
        counts_told limits (expanded c) (or_else_right zero counts h),
      )

-- ---- numbers kept up to the cap

capped_product : (x y : ℕ) → min (min x cap * min y cap) cap ≡ min (x * y) cap
capped_product x y = go x y (dec_lt x cap) (dec_lt y cap)
  where
    big : (x y : ℕ) → cap ≤ x → (min (min x cap * min y cap) cap ≡ min (x * y) cap) × (min (min y cap * min x cap) cap ≡ min (y * x) cap)
    big x zero h = (rw (mul-zero (min x cap), mul-zero x), rw (zero-mul (min x cap), zero-mul x))
    big x (suc y) h = (
      omega (arith, mul-le-mul {n₁ = cap} {m₁ = 1} {n₂ = min x cap} {m₂ = min (suc y) cap} (omega arith) (omega arith), mul-le-mul {n₁ = cap} {m₁ = 1} {n₂ = x} {m₂ = suc y} h (omega arith)),
      omega (arith, mul-le-mul {n₁ = 1} {m₁ = cap} {n₂ = min (suc y) cap} {m₂ = min x cap} (omega arith) (omega arith), mul-le-mul {n₁ = 1} {m₁ = cap} {n₂ = suc y} {m₂ = x} (omega arith) h),
    )

    go : (x y : ℕ) → Dec (x < cap) → Dec (y < cap) → min (min x cap * min y cap) cap ≡ min (x * y) cap
    go x y (yes a) (yes b) = let p : min x cap ≡ x = omega arith in let q : min y cap ≡ y = omega arith in rw (p, q)
    go x y (no a) b = (big x y (omega arith)).0
    go x y (yes a) (no b) = (big y x (omega arith)).1

within_cap : (p : Pair) (a b : ℕ) → a ≡ min p.first cap → b ≡ min p.second cap → counts_fit limits (pair a b) ≡ counts_fit limits p
within_cap = capped_counts limits (omega arith) (omega arith)

pub capped_size : (c : Triple) (a b d : ℕ) → a ≡ min c.first cap → b ≡ min c.second cap → d ≡ min c.third cap
    → size_judged (triple a b d) ≡ size_judged c
capped_size c a b d ea eb ed =
    ap₂ (λ (x y : Bool). or_else (unless x (Shift 2)) (unless y (Count 2))) (some (dec_lt 0 c.first))
    (sym (within_cap (pair (d * a) (b * a)) n m (sym (same c.third d ed)) (sym (same c.second b eb)))
    ∙ within_cap (expanded c) n m refl refl)
  where
    n : ℕ
    n = min (c.third * c.first) cap

    m : ℕ
    m = min (c.second * c.first) cap

    same : (x e : ℕ) → e ≡ min x cap → min (e * a) cap ≡ min (x * c.first) cap
    same x e q = ap₂ (λ (y z : ℕ). min (y * z) cap) q ea ∙ capped_product x c.first

    some : Dec (0 < c.first) → ltb 0 a ≡ ltb 0 c.first
    some (yes l) = rw (lt-ltb 0 a (omega arith), lt-ltb 0 c.first l)
    some (no l) = rw (le-ltb 0 a (omega arith), le-ltb 0 c.first (omega arith))

pub capped_block : (c : Triple) (low : Pair) (l : ℕ) (p : Triple) (a b d : ℕ) → c.first ≤ cap → c.second ≤ cap → c.third ≤ cap
    → a ≡ min p.first cap → b ≡ min p.second cap → d ≡ min p.third cap → block_judged c l low (triple a b d) ≡ block_judged c l low p
capped_block c low l p a b d hz hm hn ea eb ed = go (dec_lt p.first cap) (dec_lt p.second cap) (dec_lt p.third cap)
  where
    go : Dec (p.first < cap) → Dec (p.second < cap) → Dec (p.third < cap) → block_judged c l low (triple a b d) ≡ block_judged c l low p
    go (no x) y z = rw (le-ltb a c.second (omega arith), le-ltb p.first c.second (omega arith))
    go (yes x) (no y) z =
        rw (le-ltb b c.third (omega arith), le-ltb p.second c.third (omega arith), and_no (ltb a c.second), and_no (ltb p.first c.second))
    go (yes x) (yes y) (no z) =
        let i : a ≡ p.first = omega arith in
        let j : b ≡ p.second = omega arith in
        rw (le-ltb d c.first (omega arith), le-ltb p.third c.first (omega arith), i, j)
    go (yes x) (yes y) (yes z) =
        let i : a ≡ p.first = omega arith in
        let j : b ≡ p.second = omega arith in
        let k : d ≡ p.third = omega arith in
        rw (i, j, k)

-- the place after an entry that was not refused, as the code keeps it
pub after_capped : (c : Triple) (low : Pair) (l : ℕ) (p : Triple) (a b : ℕ) → c.second ≤ cap → c.third ≤ cap
    → a ≡ min p.first cap → b ≡ min p.second cap → block_judged c l low p ≡ Ok tt → after (place p) ≡ pair a (b + 1)
after_capped c low l p a b hm hn ea eb j =
    let f = (judged_fits c low p l j).place_fits in
    ap₂ pair (omega (arith, f.check)) (omega (arith, f.variable))

-- size and counts within limits are not capped
pub record Exact (c : Triple) (a b d : ℕ) : Type 0 where
  pub same : c ≡ triple a b d
  pub some : 0 < a
  pub size : a ≤ limits.variables
  pub rows : b ≤ limits.checks
  pub columns : d ≤ limits.variables

-- each factor of a product within limits is
pub factor : (x z most : ℕ) → 1 ≤ x * z → x * z ≤ most → (x ≤ most) × (z ≤ most)
factor zero z most l u = absurd (omega (arith, zero-mul z))
factor (suc x) zero most l u = absurd (omega (arith, mul-zero (suc x)))
factor (suc x) (suc z) most l u = (
  omega (arith, mul-le-mul {n₁ = suc x} {m₁ = 1} {n₂ = suc x} {m₂ = suc z} (omega arith) (omega arith)),
  omega (arith, mul-le-mul {n₁ = 1} {m₁ = suc z} {n₂ = suc x} {m₂ = suc z} (omega arith) (omega arith)),
)

pub exact : (c : Triple) (a b d : ℕ) → a ≡ min c.first cap → b ≡ min c.second cap → d ≡ min c.third cap → size_judged c ≡ Ok tt → Exact c a b d
exact c a b d ea eb ed h =
    let w = judged_within c h in
    let n = factor c.third c.first limits.variables (omega (arith, w.1.0.0)) w.1.0.1 in
    let m = factor c.second c.first limits.checks w.1.1.0 w.1.1.1 in
    let i : c.first ≡ a = omega arith in
    let j : c.second ≡ b = omega arith in
    let k : c.third ≡ d = omega arith in
    record { same = rw (← i, ← j, ← k); some = omega (arith, w.0); size = omega arith; rows = omega arith; columns = omega arith }
