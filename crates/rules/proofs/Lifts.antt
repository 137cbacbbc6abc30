-- How check messages count: where nothing is lifted they count as they are, lifting keeps signs, and what counts is within its bound.
use mathlib.Core.Path.{◌≡◌, refl, ap, ◌∙◌, fun_ext}
use mathlib.Core.Bool.{Bool, true, false, not, cond, ◌&&◌}
use mathlib.Core.List.{List}
use Prim.Native.Nat.{ℕ, zero, suc, ◌≤◌, ◌<◌}
use native.Mathlib.Omega.{arith}
use borrow.Author.Tests.{eq-eqb, lt-leb}
use lib.Dec.{eqb, leb}
use lib.ListN.{get_or}
use lib.IntN.{ℤ, pos}
use Rattle.rules.specs.Ranges.{tabulate}
use Rattle.rules.specs.Levels.{Level}
use Rattle.rules.specs.Graphs.{Graph}
use Rattle.rules.specs.Nodes.{Offsets, Lifting, never, lifts, lifted, counted, from_check, posterior, bit_of, outgoing, from_variable}
use Rattle.rules.specs.Sequence.{Scheme, unlifted, counted_in, sign_preserving, level_at, begun, sent_in, sent, iterated, next, state}
use Rattle.rules.specs.Symmetry.{turned}
use Rattle.rules.specs.Theorems.{heaviest, SentIsRest, NeverLifted, UnliftedBefore}
use Rattle.rules.proofs.Tests.{and_no}
use Rattle.rules.proofs.Parity.{outgoing_is_rest}
use Rattle.rules.proofs.Simulation.{state_number}

-- ---- one message

module _ (Nq : ℕ) (Λ : Lifting) (t : ℕ) where
  pub counted_turned : (b : Bool) (l : Level) → counted Nq Λ t (turned b l) ≡ turned b (counted Nq Λ t l)
  unfolding counted lifted turned
  counted_turned b l = go (lifts Λ t)
    where
      go : (x : Bool) → cond x (lifted Nq Λ.to (turned b l)) (turned b l) ≡ turned b (cond x (lifted Nq Λ.to l) l)
      go true = refl
      go false = refl

  pub counted_within : Nq ≤ Λ.to → (l : Level) → l.magnitude ≤ Nq → (counted Nq Λ t l).magnitude ≤ heaviest Nq Λ t
  unfolding counted lifted
  counted_within w l h = go (lifts Λ t) (eqb l.magnitude Nq)
    where
      go : (x same : Bool) → (cond x (record { minus = l.minus; magnitude = cond same Λ.to l.magnitude }) l).magnitude ≤ cond x Λ.to Nq
      go true true = omega arith
      go true false = omega arith
      go false same = h

  -- the largest message counts as that bound
  pub counted_largest : counted Nq Λ t (record { minus = false; magnitude = Nq }) ≡ record { minus = false; magnitude = heaviest Nq Λ t }
  unfolding counted lifted
  counted_largest = go (lifts Λ t)
    where
      plus : ℕ → Level
      plus n = record { minus = false; magnitude = n }

      go : (x : Bool) → cond x (plus (cond (eqb Nq Nq) Λ.to Nq)) (plus Nq) ≡ plus (cond x Λ.to Nq)
      go true = ap (λ b. plus (cond b Λ.to Nq)) (eq-eqb Nq Nq refl)
      go false = refl

  module _ (off : lifts Λ t ≡ false) where
    pub counted_off : (l : Level) → counted Nq Λ t l ≡ l
    unfolding counted
    counted_off l = ap (λ b. cond b (lifted Nq Λ.to l) l) off

    all_off : (C : ℕ → Level) → counted_in Nq Λ t C ≡ C
    all_off C = fun_ext (λ e. counted_off (C e))

-- ---- where nothing is lifted

pub lifts_before : (Λ : Lifting) (t : ℕ) → t < Λ.from → lifts Λ t ≡ false
unfolding lifts
lifts_before Λ t h = ap (λ b. b && not (eqb Λ.from never)) (lt-leb Λ.from t h)

lifts_never : (W t : ℕ) → lifts (record { from = never; to = W }) t ≡ false
unfolding lifts
lifts_never W t = and_no (leb never t)

pub never_lifted : NeverLifted
unfolding sign_preserving unlifted
never_lifted G Nq φ W y = ap (λ (as-they-count : ℕ → (ℕ → Level) → ℕ → Level). rules as-they-count) (fun_ext (λ t. fun_ext (λ C. all_off Nq Λ t (lifts_never W t) C)))
  where
    Λ : Lifting
    Λ = record { from = never; to = W }

    rules : (ℕ → (ℕ → Level) → ℕ → Level) → Scheme
    rules f =
        let R : Scheme = unlifted G Nq φ y in
        record {
          first_message = R.first_message;
          first_bit = R.first_bit;
          check = R.check;
          sum = λ t C. R.sum t (f t C);
          bit = R.bit;
          variable = λ t C. R.variable t (f t C);
        }

module _ (G : Graph) (Nq : ℕ) (φ : Offsets) (Λ : Lifting) (y : ℕ → Level) where
  R : Scheme
  R = sign_preserving G Nq φ Λ y

  R₀ : Scheme
  R₀ = unlifted G Nq φ y

  sent_before : (t : ℕ) (q C : List Level) → t < Λ.from → sent_in G R t q C ≡ sent_in G R₀ t q C
  unfolding R R₀ sign_preserving unlifted sent_in
  sent_before zero q C h = refl
  sent_before (suc t) q C h = ap (λ f. tabulate (from_variable G Nq φ y f) G.entries) (all_off Nq Λ (suc t) (lifts_before Λ (suc t) h) (level_at C))

  iterated_before : (t : ℕ) (q : List Level) → t < Λ.from → iterated G R t q ≡ iterated G R₀ t q
  unfolding R R₀ sign_preserving unlifted iterated
  iterated_before t q h =
      ap (λ (S : List ℤ). record { iteration = t; variable_messages = q; check_messages = C; sums = S; bits = tabulate (λ v. bit_of (get_or S v (pos 0)) (y v).minus) G.variables })
      (ap (λ f. tabulate (posterior G y f) G.variables) (all_off Nq Λ t (lifts_before Λ t h) (level_at C)))
    where
      C : List Level
      C = tabulate (from_check G (level_at q)) G.entries

  state_before : (t : ℕ) → t < Λ.from → state G R t ≡ state G R₀ t
  unfolding R R₀ sign_preserving unlifted state begun next sent
  state_before zero h = refl
  state_before (suc t) h =
      let n = state_number G R₀ t in
      let σ = state G R₀ t in
      ap (next G R) (state_before t (omega arith))
      ∙ ap (iterated G R (suc σ.iteration)) (sent_before σ.iteration σ.variable_messages σ.check_messages (omega arith))
      ∙ iterated_before (suc σ.iteration) (sent G R₀ σ) (omega arith)

pub unlifted_before : UnliftedBefore
unfolding R R₀
unlifted_before G Nq φ Λ y t h = state_before G Nq φ Λ y t h

-- ---- what is sent

pub sent_is_rest : SentIsRest
unfolding sign_preserving unlifted from_variable
sent_is_rest G Nq φ Λ y C t e h = ap (outgoing Nq φ) (outgoing_is_rest G y (counted_in Nq Λ t C) e h)
