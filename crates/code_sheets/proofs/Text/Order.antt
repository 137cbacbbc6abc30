-- Entries in order: what the tests of an entry mean.
use Rattle.std.specs.Prelude.{Ok}
use mathlib.Core.Path.{◌≡◌, refl}
use mathlib.Core.Bool.{Bool, true, false, ◌&&◌, ◌||◌}
use mathlib.Core.List.{List}
use Prim.Native.Nat.{ℕ, ◌≤◌, ◌<◌}
use native.Mathlib.Omega.{arith}
use borrow.Author.Tests.{lt-ltb, le-leb, eq-eqb, ltb-true, ltb-false, leb-true, eqb-true}
use lib.Dec.{eqb, leb, ltb}
use Rattle.refusals.specs.Refusals.{unless}
use Rattle.refusals.specs.declared.Refusal.TheVariants.{Range, Order}
use Rattle.refusals.proofs.Judging.{or_else_left, or_else_right, unless_true}
use Rattle.rules.proofs.Tests.{and_left, and_right, and_both}
use Rattle.texts.specs.Lines.{Pair}
use Rattle.texts.specs.Order as Listing
use Rattle.code_sheets.specs.Text.Reading.{not_before, entry_judged, sheet_entries}

-- p may stand at the place `low` of a sheet with the counts c
pub record Fits (c low p : Pair) : Type 0 where
  pub check : p.first < c.second
  pub variable : p.second < c.first
  pub from : low.first ≤ p.first
  pub same : low.first ≡ p.first → low.second ≤ p.second

-- entries in order, the first not before `low`
abbrev pub Rising : Pair → Pair → List Pair → Type 0
Rising c low ps = Listing.Rising sheet_entries Fits c low ps

not_before_lem : (low p : Pair) → low.first ≤ p.first → (low.first ≡ p.first → low.second ≤ p.second) → not_before low p ≡ true
not_before_lem low p h s = go (ltb low.first p.first) refl
  where
    go : (b : Bool) → ltb low.first p.first ≡ b → b || (eqb low.first p.first && leb low.second p.second) ≡ true
    go true e = refl
    go false e =
        let q : low.first ≡ p.first = omega (arith, ltb-false low.first p.first e) in
        and_both (eq-eqb low.first p.first q) (le-leb low.second p.second (s q))

not_before_told : (low p : Pair) → not_before low p ≡ true → (low.first ≤ p.first) × (low.first ≡ p.first → low.second ≤ p.second)
not_before_told low p h = go (ltb low.first p.first) refl h
  where
    go : (b : Bool) → ltb low.first p.first ≡ b → b || (eqb low.first p.first && leb low.second p.second) ≡ true
        → (low.first ≤ p.first) × (low.first ≡ p.first → low.second ≤ p.second)
    go true e q = let l = ltb-true low.first p.first e in (omega arith, λ s. absurd (omega arith))
    go false e q =
        let s = eqb-true low.first p.first (and_left (eqb low.first p.first) (leb low.second p.second) q) in
        (omega arith, λ _. leb-true low.second p.second (and_right (eqb low.first p.first) (leb low.second p.second) q))

module _ (c low p : Pair) (l : ℕ) where
  pub fits_judged : Fits c low p → entry_judged c l low p ≡ Ok tt
  fits_judged f =
      rw (lt-ltb p.first c.second f.check, lt-ltb p.second c.first f.variable, not_before_lem low p f.from f.same)

  pub judged_fits : entry_judged c l low p ≡ Ok tt → Fits c low p
  judged_fits h =
      let a = ltb p.first c.second in
      let b = ltb p.second c.first in
      let order = unless (not_before low p) (Order l) in
      let range = unless_true (a && b) (Range l) (or_else_left (unless (a && b) (Range l)) order h) in
      let told = not_before_told low p (unless_true (not_before low p) (Order l) (or_else_right (unless (a && b) (Range l)) order h)) in
      record {
        check = ltb-true p.first c.second (and_left a b range);
        variable = ltb-true p.second c.first (and_right a b range);
        from = told.0;
        same = told.1;
      }
