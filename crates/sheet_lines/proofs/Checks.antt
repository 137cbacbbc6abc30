-- The checks' degrees, judged as the entries' lines go by.
use Rattle.std.specs.Prelude.{Err}
use mathlib.Core.Path.{◌≡◌, refl, sym, ap, ◌∙◌}
use mathlib.Core.Bool.{Bool, true, false}
use Prim.Native.Nat.{ℕ, zero, suc, ◌+◌, ◌-◌, ◌≤◌, ◌<◌}
use native.Mathlib.Decide.{dec_lt}
use native.Mathlib.Nat.{add-zero}
use native.Mathlib.Omega.{arith}
use borrow.Author.Tests.{le-leb, lt-leb, le-ltb, lt-ltb}
use lib.Dec.{leb}
use Rattle.rules.specs.Graphs.{limits, least_check_degree, between}
use Rattle.refusals.specs.Refusals.{unless, or_else, each, Judged}
use Rattle.refusals.specs.declared.Refusal.{Refusal}
use Rattle.refusals.specs.declared.Refusal.TheVariants.{Degree}
use Rattle.refusals.proofs.Judging.{each_next, each_at}
use Rattle.code_sheets.specs.Reader.Storing.{row_judged, lowest_passed, GoesOn}
use Rattle.code_sheets.specs.declared.Rows.{Rows}

-- what is refused early stays refused
each_stays : (j : ℕ → Judged) (a d : ℕ) (r : Refusal) → each j a ≡ Err r → each j (a + d) ≡ Err r
each_stays j a zero r e = ap (each j) (add-zero a) ∙ e
each_stays j a (suc d) r e =
    let n : a + suc d ≡ a + d + 1 = omega arith in
    ap (each j) n ∙ each_next j (a + d) ∙ ap (λ (x : Judged). or_else x (j (a + d))) (each_stays j a d r e)

-- the rows after row i begin at entry k, up to row c
module _ (start : ℕ → ℕ) (i c k : ℕ) (l : i < c) (s : (j : ℕ) → i < j → j ≤ c → k ≡ start j) where
  abbrev degree : ℕ
  degree = k - start i

  here : row_judged start i ≡ unless (between least_check_degree degree limits.check_degree) (Degree i)
  here = ap (λ (a : ℕ). unless (between least_check_degree (a - start i) limits.check_degree) (Degree i)) (sym (s (suc i) (omega arith) l))

  there : i + 1 < c → row_judged start (i + 1) ≡ Err (Degree (i + 1))
  there u = rw (lt-leb least_check_degree (start (suc (i + 1)) - start (i + 1)) (omega (arith, s (suc (i + 1)) (omega arith) u, s (i + 1) (omega arith) (omega arith))))

  passed_is : (low : ℕ) → each (row_judged start) i ≡ unless (leb i low) (Degree low)
      → each (row_judged start) c ≡ unless (leb c (lowest_passed low i degree)) (Degree (lowest_passed low i degree))
  passed_is low e = go (dec_lt low i) (between least_check_degree degree limits.check_degree) refl (dec_lt (i + 1) c)
    where
      go : Dec (low < i) → (b : Bool) → between least_check_degree degree limits.check_degree ≡ b → Dec (i + 1 < c)
          → each (row_judged start) c ≡ unless (leb c (lowest_passed low i degree)) (Degree (lowest_passed low i degree))
      go (yes v) b t u =
          let n : c ≡ i + (c - i) = omega arith in
          ap (each (row_judged start)) n ∙ each_stays (row_judged start) i (c - i) (Degree low) (e ∙ rw (lt-leb i low v)) ∙ rw (lt-ltb low i v, lt-leb c low (omega arith))
      go (no v) false t u = each_at (row_judged start) i c (Degree i) (e ∙ rw (le-leb i low (omega arith))) (here ∙ rw t) l ∙ rw (le-ltb low i (omega arith), t, lt-leb c i l)
      go (no v) true t (no u) =
          let n : c ≡ i + 1 = omega arith in
          ap (each (row_judged start)) n ∙ each_next (row_judged start) i
          ∙ rw (e, le-leb i low (omega arith), here, le-ltb low i (omega arith), t, le-leb c (i + 1) (omega arith))
      go (no v) true t (yes u) =
          each_at (row_judged start) (i + 1) c (Degree (i + 1)) (each_next (row_judged start) i ∙ rw (e, le-leb i low (omega arith), here, t)) (there u) u
          ∙ rw (le-ltb low i (omega arith), t, lt-leb c (i + 1) u)

-- ---- one line on

-- the same check
pub goes_same : {rows : Rows} {c k : ℕ} → rows.check ≡ c → rows.first ≤ k → GoesOn rows c k rows
goes_same e l = record { check = e; first = l; holds = λ start h s. h }

-- another
pub goes_next : {rows : Rows} {c k low : ℕ} → rows.check < c → low ≡ lowest_passed rows.low rows.check (k - rows.first)
    → GoesOn rows c k (record { low = low; check = c; first = k })
goes_next {rows} {c} {k} {low} l e = record {
  check = refl;
  first = omega arith;
  holds = λ start h s.
      let q : low ≡ lowest_passed rows.low rows.check (k - start rows.check) = e ∙ ap (λ (f : ℕ). lowest_passed rows.low rows.check (k - f)) h.first in
      record {
        judged = passed_is start rows.check c k l s rows.low h.judged ∙ ap (λ (x : ℕ). unless (leb c x) (Degree x)) (sym q);
        first = s c l (omega arith);
      };
}
