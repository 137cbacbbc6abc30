-- Every message keeps within Nq, and every sum within its bound.
use mathlib.Core.Path.{◌≡◌, refl, sym, ap, ◌∙◌}
use mathlib.Core.Bool.{Bool, true, false, cond}
use mathlib.Core.Logic.{◌≢◌}
use Prim.Native.Nat.{ℕ, zero, suc, ◌+◌, ◌-◌, ◌*◌, ◌/◌, ◌≤◌, ◌<◌, min}
use native.Mathlib.Decide.{ℕ_discrete}
use native.Mathlib.Nat.{zero-add, add-mul}
use native.Mathlib.Omega.{arith}
use borrow.Author.Tests.{ltb-true, ltb-false, eqb-true}
use lib.Dec.{eqb, leb, ltb}
use lib.IntN.{ℤ, pos, negsuc, sub_ℕ, nat_abs, ◌+ℤ◌}
use Rattle.rules.specs.Ranges.{fold, but, one, count, tabulate}
use Rattle.rules.specs.Levels.{Level, plus_zero}
use Rattle.rules.specs.Graphs.{Graph, Admitted, check_degree, variable_degree, check_of}
use Rattle.rules.specs.Nodes.{Offsets, Lifting, first_message, others, from_check, signed, contribution, extra, channel_part, share, posterior, outgoing_magnitude, outgoing, outgoing_sum, from_variable}
use Rattle.rules.specs.Sequence.{Scheme, unlifted, counted_in, sign_preserving, level_at, begun, sent_in, sent, iterated, next, state}
use Rattle.rules.specs.Theorems.{MessagesWithin, largest_sum, heaviest, SumsBounded, BoundReached}
use Rattle.rules.proofs.Ranges.{least_below, but_other, fold_ext, fold_map, get_d_tabulate}
use Rattle.rules.proofs.Rows.{rowed, row_within, row_entries_lem}
use Rattle.rules.proofs.Simulation.{sum_at_lem, sent_is}
use Rattle.rules.proofs.Lifts.{counted_within, counted_largest}

-- ---- messages

-- another entry of the row bounds the least
pub check_within_lem : (G : Graph) → Admitted G → (N : ℕ) (q : ℕ → Level) → ((k : ℕ) → k < G.entries → (q k).magnitude ≤ N)
    → (e : ℕ) → e < G.entries → (from_check G q e).magnitude ≤ N
unfolding from_check others
check_within_lem G ok N q h e u = go (ℕ_discrete e a)
  where
    i : ℕ
    i = check_of G e

    a : ℕ
    a = G.start i

    r : (i < G.checks) × (a ≤ e) × (e < G.start (suc i))
    r = row_within G (rowed ok) e u

    sizes : ℕ → ℕ
    sizes k = (q k).magnitude

    by : (k : ℕ) → k ≢ e → a ≤ k → k < a + check_degree G i → fold min 127 (but 127 e sizes) a (check_degree G i) ≤ N
    by k p l m = omega (arith, least_below (but 127 e sizes) 127 a (check_degree G i) k l m, but_other 127 e sizes k p, h k (row_entries_lem G (rowed ok) i k r.0 m))

    go : Dec (e ≡ a) → fold min 127 (but 127 e sizes) a (check_degree G i) ≤ N
    go (yes p) = by (suc a) (omega arith) (omega arith) (omega (arith, ok.check_degrees i r.0))
    go (no p) = by a (omega arith) (omega arith) (omega (arith, ok.check_degrees i r.0))

pub magnitude_within : (Nq : ℕ) (φ : Offsets) (F : ℕ) → outgoing_magnitude Nq φ F ≤ Nq
unfolding outgoing_magnitude
magnitude_within Nq φ F = go (ltb Nq F) refl (eqb F Nq) (leb 2 F) (eqb F 1) refl
  where
    go : (a : Bool) → ltb Nq F ≡ a → (b c d : Bool) → eqb F 1 ≡ d
        → cond a Nq (cond b (Nq - φ.phi_s) (cond c (F - φ.phi_a) (cond d (1 - φ.phi_0) 0))) ≤ Nq
    go true p b c d q = omega arith
    go false p true c d q = omega arith
    go false p false true d q = omega (arith, ltb-false Nq F p)
    go false p false false true q = omega (arith, ltb-false Nq F p, eqb-true F 1 q)
    go false p false false false q = omega arith

module _ (G : Graph) (ok : Admitted G) (Nq : ℕ) (φ : Offsets) (Λ : Lifting) (y : ℕ → Level) where
  R : Scheme
  R = sign_preserving G Nq φ Λ y

  tabled : (f : ℕ → Level) → ((e : ℕ) → e < G.entries → (f e).magnitude ≤ Nq) → (e : ℕ) → e < G.entries → (level_at (tabulate f G.entries) e).magnitude ≤ Nq
  tabled f h e u = rw (get_d_tabulate f G.entries e plus_zero u) (h e u)

  sent_within : (t e : ℕ) → e < G.entries → (level_at (sent G R (state G R t)) e).magnitude ≤ Nq
  unfolding R sign_preserving unlifted state begun sent sent_in first_message from_variable outgoing
  sent_within zero e u = tabled (first_message G Nq y) (λ k m. omega arith) e u
  sent_within (suc t) e u =
      let C : ℕ → Level = counted_in Nq Λ (suc t) (level_at (state G R (suc t)).check_messages) in
      rw (sent_is G R t) (tabled (from_variable G Nq φ y C) (λ k m. magnitude_within Nq φ ((nat_abs (outgoing_sum G y C k) - 1) / 2)) e u)

  received_within : (t e : ℕ) → e < G.entries → (level_at (state G R t).check_messages e).magnitude ≤ Nq
  unfolding R sign_preserving unlifted state begun next iterated
  received_within zero e u = tabled (λ e. plus_zero) (λ k m. omega arith) e u
  received_within (suc t) e u = tabled (from_check G (level_at (sent G R (state G R t)))) (check_within_lem G ok Nq (level_at (sent G R (state G R t))) (sent_within t)) e u

pub messages_within : MessagesWithin
unfolding R
messages_within G ok Nq φ Λ y t e u = (sent_within G ok Nq φ Λ y t e u, received_within G ok Nq φ Λ y t e u)

-- ---- sums

sub_abs : (a b : ℕ) → nat_abs (sub_ℕ a b) ≤ a + b
sub_abs a b = go (ltb a b) refl
  where
    go : (t : Bool) → ltb a b ≡ t → nat_abs (cond t (negsuc (b - suc a)) (pos (a - b))) ≤ a + b
    go true p = omega (arith, ltb-true a b p)
    go false p = omega arith

pub abs_sum : (x y : ℤ) → nat_abs (x +ℤ y) ≤ nat_abs x + nat_abs y
abs_sum (pos a) (pos b) = omega arith
abs_sum (pos a) (negsuc b) = sub_abs a (suc b)
abs_sum (negsuc a) (pos b) = omega (arith, sub_abs b (suc a))
abs_sum (negsuc a) (negsuc b) = omega arith

pub abs_signed : (b : Bool) (n : ℕ) → nat_abs (signed b n) ≡ n
abs_signed false n = refl
abs_signed true zero = refl
abs_signed true (suc n) = refl

pub abs_contribution : (e : ℕ) (l : Level) → nat_abs (contribution e l) ≡ 2 * l.magnitude + e
unfolding contribution
abs_contribution e l = abs_signed l.minus (2 * l.magnitude + e)

module _ (G : Graph) (C : ℕ → Level) (Nq : ℕ) (h : (k : ℕ) → k < G.entries → (C k).magnitude ≤ Nq) (v : ℕ) where
  share_bound : (k : ℕ) → k < G.entries → nat_abs (share G C v k) ≤ one (eqb (G.column k) v) * (2 * Nq + 1)
  unfolding share
  share_bound k u = go (eqb (G.column k) v)
    where
      go : (b : Bool) → nat_abs (cond b (contribution 1 (C k)) (pos 0)) ≤ one b * (2 * Nq + 1)
      go true = omega (arith, abs_contribution 1 (C k), h k u)
      go false = omega arith

  shares_bound : (j : ℕ) → j ≤ G.entries
      → nat_abs (fold ◌+ℤ◌ (pos 0) (share G C v) 0 j) ≤ fold ◌+◌ 0 (λ k. one (eqb (G.column k) v)) 0 j * (2 * Nq + 1)
  unfolding fold
  shares_bound zero u = omega arith
  shares_bound (suc j) u = rw (zero-add j)
      (omega (arith, abs_sum (fold ◌+ℤ◌ (pos 0) (share G C v) 0 j) (share G C v j), shares_bound j (omega arith), share_bound j u))

  pub posterior_bound : (Nch : ℕ) (y : ℕ → Level) → (y v).magnitude ≤ Nch → nat_abs (posterior G y C v) ≤ largest_sum Nch Nq (variable_degree G v)
  unfolding posterior channel_part variable_degree count
  posterior_bound Nch y g = omega (
    arith,
    abs_sum (channel_part G y v) (fold ◌+ℤ◌ (pos 0) (share G C v) 0 G.entries),
    shares_bound G.entries (omega arith),
    abs_contribution (extra (variable_degree G v)) (y v),
  )

pub sums_bounded : SumsBounded
unfolding R sign_preserving unlifted state begun
sums_bounded G ok Nch Nq φ Λ w y g zero v u = rw (get_d_tabulate (λ v. pos 0) G.variables v (pos 0) u) (omega arith)
sums_bounded G ok Nch Nq φ Λ w y g (suc t) v u =
    let C : ℕ → Level = level_at (state G (sign_preserving G Nq φ Λ y) (suc t)).check_messages in
    rw (sum_at_lem G (sign_preserving G Nq φ Λ y) t v u)
    (posterior_bound G (counted_in Nq Λ (suc t) C) (heaviest Nq Λ (suc t)) (λ k l. counted_within Nq Λ (suc t) w (C k) (received_within G ok Nq φ Λ y (suc t) k l)) v Nch y (g v u))

-- the sum of the largest level and d messages of magnitude N, all plus
full_sum : (G : Graph) (Nch N v : ℕ)
    → posterior G (λ v. record { minus = false; magnitude = Nch }) (λ e. record { minus = false; magnitude = N }) v ≡ pos (largest_sum Nch N (variable_degree G v))
unfolding posterior channel_part variable_degree count contribution share
full_sum G Nch N v = ap (λ s. pos (2 * Nch + extra (variable_degree G v)) +ℤ s) shares
  where
    own : ℕ → ℕ
    own k = one (eqb (G.column k) v)

    part : ℕ → ℤ
    part n = pos (n * (2 * N + 1))

    full : (b : Bool) → cond b (pos (2 * N + 1)) (pos 0) ≡ part (one b)
    full true = ap pos (omega arith)
    full false = ap pos (omega arith)

    shares : fold ◌+ℤ◌ (pos 0) (share G (λ e. record { minus = false; magnitude = N }) v) 0 G.entries ≡ part (fold ◌+◌ 0 own 0 G.entries)
    shares = fold_ext ◌+ℤ◌ (pos 0) (share G (λ e. record { minus = false; magnitude = N }) v) (λ k. part (own k)) 0 G.entries (λ k l u. full (eqb (G.column k) v))
        ∙ sym (fold_map ◌+◌ 0 ◌+ℤ◌ (pos 0) part (ap pos (omega arith)) (λ a b. ap pos (add-mul a b (2 * N + 1))) own 0 G.entries)

pub bound_reached : BoundReached
bound_reached G Nch Nq Λ t v =
    ap (λ (l : Level). posterior G (λ v. record { minus = false; magnitude = Nch }) (λ e. l) v) (counted_largest Nq Λ t) ∙ full_sum G Nch (heaviest Nq Λ t) v
