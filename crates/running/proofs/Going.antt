-- The loop of a run: from whatever state it goes on, each turn is one iteration more, and it ends where the run halts.
use mathlib.Core.Path.{◌≡◌, refl, sym, ap, ap₂, ◌∙◌, subst}
use mathlib.Core.Bool.{Bool, true, false, cond, ◌||◌, true≢false}
use mathlib.Core.List.{List}
use Prim.Native.Nat.{ℕ, zero, suc, ◌+◌, ◌-◌, ◌≤◌, ◌<◌}
use native.Mathlib.Numerals.{add-one}
use native.Mathlib.Omega.{arith}
use borrow.Author.Tests.{eqb-true, eqb-false, lt-leb}
use lib.Dec.{eqb, leb}
use lib.ListN.{length}
use Rattle.rules.specs.Graphs.{Graph, unsatisfied}
use Rattle.rules.specs.Sequence.{Scheme, State, bit_at, sent, iterated, next}
use Rattle.rules.specs.Halting.{ends, resumed}
use Rattle.rules.proofs.Halting.{resumed_first, resumed_more, resumed_over}
use Rattle.words.specs.Roles.{bit_of_byte}
use Rattle.steps.specs.Steps.{Holds, Sized, InBytes, Resumes}
use Rattle.steps.proofs.Running.{bits_of}

or_none : (a b : Bool) → a || b ≡ false → (a ≡ false) × (b ≡ false)
or_none true b h = absurd (true≢false h)
or_none false b h = (refl, h)

-- what is sent where the run goes on
pub sent_on : {w : Bool} (q q' : List ℕ) {q₁ : List ℕ} → w ≡ false → q₁ ≡ cond w q q' → q₁ ≡ q'
sent_on q q' o e = e ∙ ap (λ b. cond b q q') o

module _ (G : Graph) (R : Scheme) (limit N : ℕ) where
  -- k iterations after the state σ the run is in iteration t and open, and q holds what is sent there
  pub record Goes (σ : State) (k t : ℕ) (q : List ℕ) : Type 0 where
    pub number : (resumed G R limit k σ).iteration ≡ t
    pub sends : InBytes N (sent G R (resumed G R limit k σ)) q
    pub more : resumed G R limit (suc k) σ ≡ next G R (resumed G R limit k σ)

  -- In the loop: q holds what is sent in iteration t, whatever state q₀ held the messages of.
  pub record Going (begun end : ℕ) (q₀ q : List ℕ) (t : ℕ) : Type 0 where
    pub from : begun ≤ t
    pub below : t < end
    pub goes : (σ : State) → σ.iteration ≡ begun → InBytes N (sent G R σ) q₀ → (k : ℕ) → t ≡ begun + k → Goes σ k t q

  pub going_none : {begun end : ℕ} {q : List ℕ} → begun < end → Going begun end q q begun
  unfolding resumed
  going_none {begun} {end} {q} l = record { from = omega arith; below = l; goes = at }
    where
      at : (σ : State) → σ.iteration ≡ begun → InBytes N (sent G R σ) q → (k : ℕ) → begun ≡ begun + k → Goes σ k begun q
      at σ n h zero e = record { number = n; sends = h; more = resumed_first G R limit σ }
      at σ n h (suc k) e = absurd (omega arith)

  -- one iteration more, up to its bits b₁; w says whether they are a codeword
  module _ {begun end : ℕ} {q₀ q : List ℕ} {t : ℕ} (going : Going begun end q₀ q t) {C₁ S₁ b₁ : List ℕ}
      (holds : (σ : State) → σ.iteration ≡ t → InBytes N (sent G R σ) q → Holds G (next G R σ) q C₁ S₁ b₁) where
    module _ (σ : State) (n : σ.iteration ≡ begun) (h : InBytes N (sent G R σ) q₀) where
      here : Goes σ (t - begun) t q
      here = going.goes σ n h (t - begun) (omega (arith, going.from))

      pub after_number : (resumed G R limit (suc (t - begun)) σ).iteration ≡ t + 1
      unfolding next iterated
      after_number = ap (λ (τ : State). τ.iteration) here.more ∙ ap suc here.number ∙ sym (add-one t)

      pub after_holds : Holds G (resumed G R limit (suc (t - begun)) σ) q C₁ S₁ b₁
      after_holds = subst (λ (τ : State). Holds G τ q C₁ S₁ b₁) (sym here.more) (holds (resumed G R limit (t - begun) σ) here.number here.sends)

      after_odd : unsatisfied G (bit_of_byte b₁) ≡ unsatisfied G (bit_at (resumed G R limit (suc (t - begun)) σ).bits)
      after_odd = ap (unsatisfied G) (ap bit_of_byte after_holds.bits ∙ bits_of (resumed G R limit (suc (t - begun)) σ).bits)

      resumes : (k : ℕ) → resumed G R limit (suc (t - begun)) σ ≡ resumed G R limit k σ → Resumes G R limit k σ (t + 1) q C₁ S₁ b₁
      resumes k e = record {
        number = sym (ap (λ (τ : State). τ.iteration) (sym e) ∙ after_number);
        holds = subst (λ (τ : State). Holds G τ q C₁ S₁ b₁) e after_holds;
      }

      at_end_lem : t + 1 ≡ end → resumed G R limit (suc (t - begun)) σ ≡ resumed G R limit (end - begun) σ
      at_end_lem e = let k : suc (t - begun) ≡ end - begun = omega (arith, going.from) in ap (λ (j : ℕ). resumed G R limit j σ) k

      at_codeword : eqb (unsatisfied G (bit_of_byte b₁)) 0 ≡ true → resumed G R limit (suc (t - begun)) σ ≡ resumed G R limit (end - begun) σ
      unfolding ends
      at_codeword o =
          let j : ℕ = end - begun - suc (t - begun) in
          let k : suc (t - begun) + j ≡ end - begun = omega (arith, going.from, going.below) in
          let word : eqb (unsatisfied G (bit_at (resumed G R limit (suc (t - begun)) σ).bits)) 0 ≡ true = ap (λ u. eqb u 0) (sym after_odd) ∙ o in
          sym (resumed_over G R limit (t - begun) j σ (ap (λ b. b || leb limit (resumed G R limit (suc (t - begun)) σ).iteration) word)) ∙ ap (λ (i : ℕ). resumed G R limit i σ) k

      -- at the end or at a codeword the run halts
      pub going_over : eqb (t + 1) end || eqb (unsatisfied G (bit_of_byte b₁)) 0 ≡ true → Resumes G R limit (end - begun) σ (t + 1) q C₁ S₁ b₁
      going_over o = resumes (end - begun) (go (eqb (t + 1) end) refl o)
        where
          go : (a : Bool) → eqb (t + 1) end ≡ a → a || eqb (unsatisfied G (bit_of_byte b₁)) 0 ≡ true → resumed G R limit (suc (t - begun)) σ ≡ resumed G R limit (end - begun) σ
          go true h k = at_end_lem (eqb-true (t + 1) end h)
          go false h k = at_codeword k

      -- neither
      open_still : eqb (unsatisfied G (bit_of_byte b₁)) 0 ≡ false → t + 1 < limit → ends G R limit (resumed G R limit (suc (t - begun)) σ) ≡ false
      unfolding ends
      open_still o l =
          ap₂ (λ a b. a || b) (ap (λ u. eqb u 0) (sym after_odd) ∙ o)
          (ap (leb limit) after_number ∙ lt-leb limit (t + 1) l)

    pub going_more : eqb (t + 1) end || eqb (unsatisfied G (bit_of_byte b₁)) 0 ≡ false → end ≤ limit → {q₁ : List ℕ}
        → ((σ : State) → σ.iteration ≡ t → InBytes N (sent G R σ) q → InBytes N (sent G R (next G R σ)) q₁) → Going begun end q₀ q₁ (t + 1)
    going_more o l {q₁} sends = record { from = omega (arith, going.from); below = omega (arith, going.below, d); goes = at }
      where
        none : (eqb (t + 1) end ≡ false) × (eqb (unsatisfied G (bit_of_byte b₁)) 0 ≡ false)
        none = or_none (eqb (t + 1) end) (eqb (unsatisfied G (bit_of_byte b₁)) 0) o

        d : t + 1 ≡ end → ⊥
        d = eqb-false (t + 1) end none.0

        at : (σ : State) → σ.iteration ≡ begun → InBytes N (sent G R σ) q₀ → (k : ℕ) → t + 1 ≡ begun + k → Goes σ k (t + 1) q₁
        at σ n h k i =
            let same : suc (t - begun) ≡ k = omega (arith, going.from) in
            subst (λ (k : ℕ). Goes σ k (t + 1) q₁) same (record {
              number = after_number σ n h;
              sends = subst (λ (τ : State). InBytes N (sent G R τ) q₁) (sym (here σ n h).more) (sends (resumed G R limit (t - begun) σ) (here σ n h).number (here σ n h).sends);
              more = resumed_more G R limit (t - begun) σ (open_still σ n h none.1 (omega (arith, going.below, d)));
            })

-- memory of the right lengths stays so
pub sized_again : {G : Graph} {y d q C S b q₁ C₁ S₁ b₁ : List ℕ} → Sized G y d q C S b → length q₁ ≡ length q → length C₁ ≡ length C → length S₁ ≡ length S → length b₁ ≡ length b
    → Sized G y d q₁ C₁ S₁ b₁
sized_again z lq lC lS lb = record {
  summed = record {
    admitted = z.summed.admitted;
    levels = z.summed.levels;
    counted = z.summed.counted;
    check_messages = lC ∙ z.summed.check_messages;
    sums = lS ∙ z.summed.sums;
  };
  variable_messages = lq ∙ z.variable_messages;
  bits = lb ∙ z.bits;
}
