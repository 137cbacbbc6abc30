-- What becomes of check messages, sums and odd checks where messages and levels are reversed by the bits c.
use mathlib.Core.Path.{◌≡◌, refl, sym, ap, ap₂, ◌∙◌}
use mathlib.Core.Bool.{Bool, true, false, cond, xor}
use Prim.Native.Nat.{ℕ, ◌+◌, ◌<◌, min}
use native.Mathlib.Omega.{arith}
use borrow.Author.Tests.{eqb-true}
use lib.Dec.{eqb}
use lib.IntN.{ℤ, pos, ◌+ℤ◌}
use Rattle.rules.specs.Ranges.{fold, but}
use Rattle.rules.specs.Levels.{Level}
use Rattle.rules.specs.Graphs.{Graph, Admitted, check_degree, variable_degree, check_of, odd_check, Codeword, unsatisfied}
use Rattle.rules.specs.Nodes.{others, from_check, contribution, extra, channel_part, share, posterior, outgoing_sum}
use Rattle.rules.specs.Symmetry.{turned, opposite, Reversed}
use Rattle.rules.proofs.Ranges.{fold_ext, fold_map, fold_both, fold_but, count_ext}
use Rattle.rules.proofs.Rows.{rowed, row_within, row_entries_lem, row_is}
use Rattle.rules.proofs.Signs.{xor_monoid, xor_self, xor_zero, xor_cancel, false_xor, opposite_zero, opposite_sum, contribution_turned}

module _ (G : Graph) (ok : Admitted G) (c : ℕ → Bool) where
  -- q' is q reversed at the entries of variables where c is 1
  abbrev pub Reverses : (ℕ → Level) → (ℕ → Level) → Type 0
  Reverses q q' = (e : ℕ) → e < G.entries → q' e ≡ turned (c (G.column e)) (q e)

  -- ---- check to variable

  -- whether the other entries of e's check have an odd number of ones
  unfoldable pub odd_others : ℕ → Bool
  odd_others e = others G xor false (λ k. c (G.column k)) e

  pub check_turned : (q q' : ℕ → Level) → Reverses q q' → (e : ℕ) → e < G.entries → from_check G q' e ≡ turned (odd_others e) (from_check G q e)
  unfolding from_check others odd_others turned but xor
  check_turned q q' h e u = ap₂ level signs least
    where
      level : Bool → ℕ → Level
      level b n = record { minus = b; magnitude = n }

      a : ℕ
      a = G.start (check_of G e)

      d : ℕ
      d = check_degree G (check_of G e)

      here : (k : ℕ) → k < a + d → q' k ≡ turned (c (G.column k)) (q k)
      here k l = h k (row_entries_lem G (rowed ok) (check_of G e) k (row_within G (rowed ok) e u).0 l)

      sign : (b : Bool) (k : ℕ) → k < a + d → cond b false (q' k).minus ≡ xor (cond b false (c (G.column k))) (cond b false (q k).minus)
      sign true k l = refl
      sign false k l = ap (λ x. x.minus) (here k l)

      size : (b : Bool) (k : ℕ) → k < a + d → cond b 127 (q' k).magnitude ≡ cond b 127 (q k).magnitude
      size true k l = refl
      size false k l = ap (λ x. x.magnitude) (here k l)

      signs : fold xor false (but false e (λ k. (q' k).minus)) a d
          ≡ xor (fold xor false (but false e (λ k. c (G.column k))) a d) (fold xor false (but false e (λ k. (q k).minus)) a d)
      signs = fold_ext xor false (but false e (λ k. (q' k).minus)) (λ k. xor (but false e (λ k. c (G.column k)) k) (but false e (λ k. (q k).minus) k)) a d
          (λ k lo hi. sign (eqb k e) k hi)
          ∙ fold_both xor false xor_monoid (but false e (λ k. c (G.column k))) (but false e (λ k. (q k).minus)) a d

      least : fold min 127 (but 127 e (λ k. (q' k).magnitude)) a d ≡ fold min 127 (but 127 e (λ k. (q k).magnitude)) a d
      least = fold_ext min 127 (but 127 e (λ k. (q' k).magnitude)) (but 127 e (λ k. (q k).magnitude)) a d (λ k lo hi. size (eqb k e) k hi)

  -- the parity of a check is that of the others and the own bit
  others_own : (e : ℕ) → e < G.entries → odd_check G c (check_of G e) ≡ xor (odd_others e) (c (G.column e))
  unfolding odd_check odd_others others
  others_own e h =
      let r = row_within G (rowed ok) e h in
      fold_but xor false xor_monoid e (λ k. c (G.column k)) (G.start (check_of G e)) (check_degree G (check_of G e)) r.1 (omega (arith, r.2))

  -- for a codeword the check messages are reversed as the variable messages are
  pub check_mirrored : Codeword G c → (q q' : ℕ → Level) → Reverses q q' → Reverses (from_check G q) (from_check G q')
  check_mirrored w q q' h e u = check_turned q q' h e u ∙ ap (λ b. turned b (from_check G q e)) even
    where
      even : odd_others e ≡ c (G.column e)
      even = xor_zero (odd_others e) (c (G.column e)) (sym (others_own e u) ∙ w (check_of G e) (row_within G (rowed ok) e u).0)

  -- and only for a codeword
  pub only_codewords : (q q' : ℕ → Level) → Reverses q q' → Reverses (from_check G q) (from_check G q') → Codeword G c
  unfolding turned
  only_codewords q q' h back i u =
      ap (odd_check G c) (sym at_row) ∙ others_own e inside ∙ ap (λ b. xor b (c (G.column e))) bit ∙ xor_self (c (G.column e))
    where
      e : ℕ
      e = G.start i

      inside : e < G.entries
      inside = row_entries_lem G (rowed ok) i e u (omega (arith, ok.check_degrees i u))

      at_row : check_of G e ≡ i
      at_row = row_is G (rowed ok) e i u (omega arith) (omega (arith, ok.check_degrees i u))

      bit : odd_others e ≡ c (G.column e)
      bit = xor_cancel (odd_others e) (c (G.column e)) (from_check G q e).minus
          (sym (ap (λ l. l.minus) (check_turned q q' h e inside)) ∙ ap (λ l. l.minus) (back e inside))

  -- ---- sums

  module _ (y y' C C' : ℕ → Level) (hy : Reversed G c y y') (h : Reverses C C') where
    -- the channel part and any shares that are negated where c is 1
    sum_turned : (v : ℕ) (f f' : ℕ → ℤ) → v < G.variables → ((k : ℕ) → k < G.entries → f' k ≡ opposite (c v) (f k))
        → channel_part G y' v +ℤ fold ◌+ℤ◌ (pos 0) f' 0 G.entries ≡ opposite (c v) (channel_part G y v +ℤ fold ◌+ℤ◌ (pos 0) f 0 G.entries)
    unfolding channel_part
    sum_turned v f f' u g =
        ap₂ ◌+ℤ◌ (ap (contribution e) (hy v u) ∙ contribution_turned (c v) e (y v))
        (fold_ext ◌+ℤ◌ (pos 0) f' (λ k. opposite (c v) (f k)) 0 G.entries (λ k l m. g k (omega arith))
        ∙ sym (fold_map ◌+ℤ◌ (pos 0) ◌+ℤ◌ (pos 0) (opposite (c v)) (opposite_zero (c v)) (opposite_sum (c v)) f 0 G.entries))
        ∙ sym (opposite_sum (c v) (channel_part G y v) (fold ◌+ℤ◌ (pos 0) f 0 G.entries))
      where
        e : ℕ
        e = extra (variable_degree G v)

    share_turned : (v k : ℕ) → k < G.entries → share G C' v k ≡ opposite (c v) (share G C v k)
    unfolding share
    share_turned v k u = go (eqb (G.column k) v) refl
      where
        go : (b : Bool) → eqb (G.column k) v ≡ b → cond b (contribution 1 (C' k)) (pos 0) ≡ opposite (c v) (cond b (contribution 1 (C k)) (pos 0))
        go true p = rw (h k u, eqb-true (G.column k) v p) (contribution_turned (c v) 1 (C k))
        go false p = sym (opposite_zero (c v))

    pub posterior_turned : (v : ℕ) → v < G.variables → posterior G y' C' v ≡ opposite (c v) (posterior G y C v)
    unfolding posterior
    posterior_turned v u = sum_turned v (share G C v) (share G C' v) u (share_turned v)

    pub outgoing_sum_turned : (e : ℕ) → e < G.entries → outgoing_sum G y' C' e ≡ opposite (c (G.column e)) (outgoing_sum G y C e)
    unfolding outgoing_sum but
    outgoing_sum_turned e u = sum_turned v (but (pos 0) e (share G C v)) (but (pos 0) e (share G C' v)) (ok.within e u) (λ k m. left_out (eqb k e) k m)
      where
        v : ℕ
        v = G.column e

        left_out : (b : Bool) (k : ℕ) → k < G.entries → cond b (pos 0) (share G C' v k) ≡ opposite (c v) (cond b (pos 0) (share G C v k))
        left_out true k m = sym (opposite_zero (c v))
        left_out false k m = share_turned v k m

  -- ---- odd checks

  -- bits that differ by a codeword leave the same checks odd
  pub unsatisfied_turned : Codeword G c → (b b' : ℕ → Bool) → ((v : ℕ) → v < G.variables → b' v ≡ xor (c v) (b v)) → unsatisfied G b' ≡ unsatisfied G b
  unfolding unsatisfied odd_check
  unsatisfied_turned w b b' h = count_ext (odd_check G b') (odd_check G b) G.checks same
    where
      same : (i : ℕ) → i < G.checks → odd_check G b' i ≡ odd_check G b i
      same i u = fold_ext xor false (λ e. b' (G.column e)) (λ e. xor (c (G.column e)) (b (G.column e))) (G.start i) (check_degree G i)
          (λ e lo hi. h (G.column e) (ok.within e (row_entries_lem G (rowed ok) i e u hi)))
          ∙ fold_both xor false xor_monoid (λ e. c (G.column e)) (λ e. b (G.column e)) (G.start i) (check_degree G i)
          ∙ ap (λ x. xor x (odd_check G b i)) (w i u) ∙ false_xor (odd_check G b i)
