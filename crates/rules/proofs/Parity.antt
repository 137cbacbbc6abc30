-- Sums are even and outgoing sums odd, whatever the messages; an outgoing sum is the posterior less the own part.
use mathlib.Core.Path.{◌≡◌, refl, sym, ap, ap₂, ◌∙◌}
use mathlib.Core.Bool.{Bool, true, false, not, cond, xor, true≢false}
use mathlib.Core.Logic.{◌≢◌}
use Prim.Native.Nat.{ℕ, zero, suc, ◌+◌, ◌*◌, ◌<◌}
use native.Mathlib.Omega.{arith}
use borrow.Author.Tests.{eq-eqb, eqb-true}
use lib.Dec.{eqb}
use lib.IntN.{ℤ, pos, negsuc, ◌+ℤ◌, ◌-ℤ◌, nat_abs, suc_ℤ, pred_ℤ, +ℤ_assoc, +ℤ_comm, +ℤ_idr, +ℤ-suc_ℤ, +ℤ-pred_ℤ, +ℤ-neg_ℤ_cancel}
use Rattle.rules.specs.Ranges.{fold, but, one, count}
use Rattle.rules.specs.Levels.{Level}
use Rattle.rules.specs.Graphs.{Graph, variable_degree}
use Rattle.rules.specs.Nodes.{signed, contribution, odd, extra, channel_part, share, posterior, outgoing_sum}
use Rattle.rules.specs.Theorems.{OutgoingIsRest, OutgoingOdd}
use Rattle.rules.proofs.Ranges.{Monoid, fold_ext, fold_map, fold_but}
use Rattle.rules.proofs.Signs.{xor_not, xor_false, xor_self, false_xor, xor_zero}

pub sum_monoid : Monoid ◌+ℤ◌ (pos 0)
sum_monoid = record { assoc = +ℤ_assoc; comm = +ℤ_comm; idr = +ℤ_idr }

-- ---- the parity of a number

oddℤ : ℤ → Bool
oddℤ s = odd (nat_abs s)

not_not : (b : Bool) → not (not b) ≡ b
not_not true = refl
not_not false = refl

odd-sucℤ : (s : ℤ) → oddℤ (suc_ℤ s) ≡ not (oddℤ s)
unfolding oddℤ odd
odd-sucℤ (pos n) = refl
odd-sucℤ (negsuc zero) = refl
odd-sucℤ (negsuc (suc n)) = sym (not_not (not (odd n)))

odd-predℤ : (s : ℤ) → oddℤ (pred_ℤ s) ≡ not (oddℤ s)
unfolding oddℤ odd
odd-predℤ (pos zero) = refl
odd-predℤ (pos (suc n)) = sym (not_not (odd n))
odd-predℤ (negsuc n) = refl

odd_sum : (x y : ℤ) → oddℤ (x +ℤ y) ≡ xor (oddℤ x) (oddℤ y)
unfolding oddℤ odd
odd_sum x (pos zero) = ap oddℤ (+ℤ_idr x) ∙ sym (xor_false (oddℤ x))
odd_sum x (pos (suc n)) = ap oddℤ (+ℤ-suc_ℤ x (pos n)) ∙ odd-sucℤ (x +ℤ pos n) ∙ ap not (odd_sum x (pos n)) ∙ sym (xor_not (oddℤ x) (odd n))
odd_sum x (negsuc zero) = ap oddℤ (+ℤ-pred_ℤ x (pos 0) ∙ ap pred_ℤ (+ℤ_idr x)) ∙ odd-predℤ x ∙ ap not (sym (xor_false (oddℤ x))) ∙ sym (xor_not (oddℤ x) false)
odd_sum x (negsuc (suc n)) = ap oddℤ (+ℤ-pred_ℤ x (negsuc n)) ∙ odd-predℤ (x +ℤ negsuc n) ∙ ap not (odd_sum x (negsuc n)) ∙ sym (xor_not (oddℤ x) (not (odd n)))

odd_add : (m n : ℕ) → odd (m + n) ≡ xor (odd m) (odd n)
unfolding oddℤ
odd_add m n = odd_sum (pos m) (pos n)

odd_signed : (b : Bool) (n : ℕ) → oddℤ (signed b n) ≡ odd n
unfolding oddℤ
odd_signed false n = refl
odd_signed true zero = refl
odd_signed true (suc n) = refl

-- a contribution s(2M + e) is as odd as e
odd_contribution : (e : ℕ) (l : Level) → oddℤ (contribution e l) ≡ odd e
unfolding contribution
odd_contribution e l = odd_signed l.minus (2 * l.magnitude + e) ∙ even l.magnitude
  where
    even : (m : ℕ) → odd (2 * m + e) ≡ odd e
    even m = ap odd twice ∙ odd_add (m + m) e ∙ ap (λ b. xor b (odd e)) (odd_add m m ∙ xor_self (odd m)) ∙ false_xor (odd e)
      where
        twice : 2 * m + e ≡ m + m + e
        twice = omega arith

-- e is as odd as the degree
odd_extra : (d : ℕ) → odd (extra d) ≡ odd d
unfolding extra odd
odd_extra d = go (eqb d 2) refl
  where
    parity : (b : Bool) → odd (cond b 1 2) ≡ b
    parity true = refl
    parity false = refl

    go : (b : Bool) → eqb d 2 ≡ b → odd (cond b 0 (cond (odd d) 1 2)) ≡ odd d
    go true p = ap odd (sym (eqb-true d 2 p))
    go false p = parity (odd d)

odd_one : (b : Bool) → odd (one b) ≡ b
unfolding odd
odd_one true = refl
odd_one false = refl

-- ---- the parity of sums

module _ (G : Graph) (y C : ℕ → Level) where
  odd_share : (v k : ℕ) → oddℤ (share G C v k) ≡ eqb (G.column k) v
  unfolding share oddℤ odd
  odd_share v k = go (eqb (G.column k) v)
    where
      go : (b : Bool) → oddℤ (cond b (contribution 1 (C k)) (pos 0)) ≡ b
      go true = odd_contribution 1 (C k)
      go false = refl

  posterior_even : (v : ℕ) → oddℤ (posterior G y C v) ≡ false
  unfolding posterior channel_part variable_degree count oddℤ odd
  posterior_even v =
      odd_sum (channel_part G y v) (fold ◌+ℤ◌ (pos 0) (share G C v) 0 G.entries) ∙ ap₂ xor channel shares ∙ xor_self (odd d)
    where
      d : ℕ
      d = variable_degree G v

      channel : oddℤ (channel_part G y v) ≡ odd d
      channel = odd_contribution (extra d) (y v) ∙ odd_extra d

      shares : oddℤ (fold ◌+ℤ◌ (pos 0) (share G C v) 0 G.entries) ≡ odd d
      shares = fold_map ◌+ℤ◌ (pos 0) xor false oddℤ refl odd_sum (share G C v) 0 G.entries
          ∙ fold_ext xor false (λ k. oddℤ (share G C v k)) (λ k. odd (one (eqb (G.column k) v))) 0 G.entries
          (λ k l u. odd_share v k ∙ sym (odd_one (eqb (G.column k) v)))
          ∙ sym (fold_map ◌+◌ 0 xor false odd refl odd_add (λ k. one (eqb (G.column k) v)) 0 G.entries)

  -- the posterior sum is the outgoing sum and the own part
  outgoing_own : (e : ℕ) → e < G.entries → posterior G y C (G.column e) ≡ outgoing_sum G y C e +ℤ share G C (G.column e) e
  unfolding posterior outgoing_sum
  outgoing_own e h =
      ap (channel_part G y v +ℤ◌) (fold_but ◌+ℤ◌ (pos 0) sum_monoid e (share G C v) 0 G.entries (omega arith) (omega arith))
      ∙ sym (+ℤ_assoc (channel_part G y v) (fold ◌+ℤ◌ (pos 0) (but (pos 0) e (share G C v)) 0 G.entries) (share G C v e))
    where
      v : ℕ
      v = G.column e

  share_own : (e : ℕ) → share G C (G.column e) e ≡ contribution 1 (C e)
  unfolding share
  share_own e = rw (eq-eqb (G.column e) (G.column e) refl)

pub outgoing_is_rest : OutgoingIsRest
outgoing_is_rest G y C e h =
    sym (+ℤ-neg_ℤ_cancel (outgoing_sum G y C e) (contribution 1 (C e)))
    ∙ ap (λ s. s -ℤ contribution 1 (C e)) (sym (outgoing_own G y C e h ∙ ap (outgoing_sum G y C e +ℤ◌) (share_own G y C e)))

pub outgoing_odd : OutgoingOdd
unfolding oddℤ
outgoing_odd G y C e h =
    xor_zero (oddℤ (outgoing_sum G y C e)) (oddℤ own)
    (sym (odd_sum (outgoing_sum G y C e) own) ∙ ap oddℤ (sym (outgoing_own G y C e h)) ∙ posterior_even G y C (G.column e))
    ∙ odd_share G y C (G.column e) e ∙ eq-eqb (G.column e) (G.column e) refl
  where
    own : ℤ
    own = share G C (G.column e) e

pub outgoing_nonzero : (G : Graph) (y C : ℕ → Level) (e : ℕ) → e < G.entries → outgoing_sum G y C e ≢ pos 0
unfolding odd
outgoing_nonzero G y C e h p = true≢false (sym (outgoing_odd G y C e h) ∙ ap (λ s. odd (nat_abs s)) p)
