-- A run that halts and goes on comes to where one run is.
use mathlib.Core.Path.{◌≡◌, refl, sym, ap, ap₂, ◌∙◌}
use mathlib.Core.Bool.{Bool, true, false, cond, ◌||◌}
use mathlib.Core.Logic.{◌⊎◌, inl, inr}
use Prim.Native.Nat.{ℕ, zero, suc, ◌+◌, ◌-◌, ◌≤◌, ◌<◌, min}
use native.Mathlib.Nat.{add-zero, add-suc}
use native.Mathlib.Decide.{dec_lt}
use native.Mathlib.Omega.{arith}
use borrow.Author.Tests.{lt-leb, le-leb}
use lib.Dec.{eqb, leb}
use Rattle.rules.specs.Graphs.{Graph, unsatisfied}
use Rattle.rules.specs.Sequence.{Scheme, State, bit_at, begun, sent_in, sent, iterated, next, state, unsatisfied_in, stop, final}
use Rattle.rules.specs.Halting.{ends, onward, onward_by, resumed, halted, RunHalts}
use Rattle.rules.proofs.Ranges.{First, first_is, first_only}
use Rattle.rules.proofs.Tests.{or_yes}
use Rattle.rules.proofs.Simulation.{state_number}

module _ (G : Graph) (R : Scheme) (limit : ℕ) where
  -- ---- from any state

  onward_open : (σ : State) → ends G R limit σ ≡ false → onward G R limit σ ≡ next G R σ
  unfolding onward
  onward_open σ e = ap (λ b. cond b σ (next G R σ)) e

  onward_over : (σ : State) → ends G R limit σ ≡ true → onward G R limit σ ≡ σ
  unfolding onward
  onward_over σ e = ap (λ b. cond b σ (next G R σ)) e

  pub onward_add : (a b : ℕ) (σ : State) → onward_by G R limit b (onward_by G R limit a σ) ≡ onward_by G R limit (a + b) σ
  unfolding onward_by
  onward_add a zero σ = ap (λ (k : ℕ). onward_by G R limit k σ) (sym (add-zero a))
  onward_add a (suc b) σ = ap (onward G R limit) (onward_add a b σ) ∙ ap (λ (k : ℕ). onward_by G R limit k σ) (sym (add-suc a b))

  -- a run that has ended stays
  onward_stays : (k : ℕ) (σ : State) → ends G R limit σ ≡ true → onward_by G R limit k σ ≡ σ
  unfolding onward_by
  onward_stays zero σ e = refl
  onward_stays (suc k) σ e = ap (onward G R limit) (onward_stays k σ e) ∙ onward_over σ e

  -- from a state that is open, resumed or not
  open_resumed : (k : ℕ) (σ : State) → ends G R limit σ ≡ false → onward_by G R limit k σ ≡ resumed G R limit k σ
  unfolding onward_by resumed
  open_resumed zero σ e = refl
  open_resumed (suc k) σ e =
      let n : suc k ≡ 1 + k = omega arith in
      ap (λ (j : ℕ). onward_by G R limit j σ) n ∙ sym (onward_add 1 k σ) ∙ ap (onward_by G R limit k) (onward_open σ e)

  -- one iteration more of what is resumed: the first, or where it has not ended
  pub resumed_first : (σ : State) → resumed G R limit 1 σ ≡ next G R σ
  unfolding onward_by resumed
  resumed_first σ = refl

  pub resumed_more : (k : ℕ) (σ : State) → ends G R limit (resumed G R limit (suc k) σ) ≡ false → resumed G R limit (suc (suc k)) σ ≡ next G R (resumed G R limit (suc k) σ)
  unfolding onward_by resumed
  resumed_more k σ e = onward_open (onward_by G R limit k (next G R σ)) e

  -- and none where it has
  pub resumed_over : (k j : ℕ) (σ : State) → ends G R limit (resumed G R limit (suc k) σ) ≡ true → resumed G R limit (suc k + j) σ ≡ resumed G R limit (suc k) σ
  unfolding resumed
  resumed_over k j σ e =
      let n : suc k + j ≡ suc (k + j) = omega arith in
      ap (λ (i : ℕ). resumed G R limit i σ) n ∙ sym (onward_add k j (next G R σ)) ∙ onward_stays j (onward_by G R limit k (next G R σ)) e

  -- where it has not ended, as many iterations are done
  counted : (k : ℕ) (σ : State) → (ends G R limit (onward_by G R limit k σ) ≡ true) ⊎ ((onward_by G R limit k σ).iteration ≡ σ.iteration + k)
  unfolding onward_by next iterated
  counted zero σ = inr (omega arith)
  counted (suc k) σ = go (ends G R limit (onward_by G R limit k σ)) refl (counted k σ)
    where
      τ : State
      τ = onward_by G R limit k σ

      go : (b : Bool) → ends G R limit τ ≡ b → (ends G R limit τ ≡ true) ⊎ (τ.iteration ≡ σ.iteration + k)
          → (ends G R limit (onward G R limit τ) ≡ true) ⊎ ((onward G R limit τ).iteration ≡ σ.iteration + suc k)
      go true e h = inl (ap (ends G R limit) (onward_over τ e) ∙ e)
      go false e (inl h) = let z : ◌≡◌ {A = ℕ} 0 1 = cc in absurd (omega arith)
      go false e (inr h) = inr (ap (λ (ρ : State). ρ.iteration) (onward_open τ e) ∙ omega (arith, h))

  at_limit : (σ : State) → limit ≤ σ.iteration → ends G R limit σ ≡ true
  unfolding ends
  at_limit σ l = ap (λ b. eqb (unsatisfied G (bit_at σ.bits)) 0 || b) (le-leb limit σ.iteration l) ∙ or_yes (eqb (unsatisfied G (bit_at σ.bits)) 0)

  -- so none beyond the limit
  pub resumed_limit : (k : ℕ) (σ : State) → σ.iteration < limit → limit ≤ σ.iteration + k → resumed G R limit k σ ≡ resumed G R limit (limit - σ.iteration) σ
  unfolding resumed next iterated
  resumed_limit k σ l u =
      let a : ℕ = limit - σ.iteration - 1 in
      let d : limit - σ.iteration ≡ suc a = omega arith in
      let n : k ≡ suc a + (k - suc a) = omega arith in
      ap (λ (i : ℕ). resumed G R limit i σ) n ∙ resumed_over a (k - suc a) σ (go (counted a (next G R σ))) ∙ ap (λ (i : ℕ). resumed G R limit i σ) (sym d)
    where
      go : (ends G R limit (onward_by G R limit (limit - σ.iteration - 1) (next G R σ)) ≡ true) ⊎ ((onward_by G R limit (limit - σ.iteration - 1) (next G R σ)).iteration ≡ suc σ.iteration + (limit - σ.iteration - 1))
          → ends G R limit (onward_by G R limit (limit - σ.iteration - 1) (next G R σ)) ≡ true
      go (inl e) = e
      go (inr e) = at_limit (onward_by G R limit (limit - σ.iteration - 1) (next G R σ)) (omega arith)

  -- ---- what is read of a state

  pub resumed_reads : (σ τ : State) → τ.iteration ≡ σ.iteration → τ.variable_messages ≡ σ.variable_messages → τ.check_messages ≡ σ.check_messages
      → (k : ℕ) → resumed G R limit (suc k) τ ≡ resumed G R limit (suc k) σ
  unfolding resumed next sent
  resumed_reads σ τ e f g k =
      ap (onward_by G R limit k)
      (ap₂ (iterated G R) (ap suc e) (ap₂ (λ q C. sent_in G R τ.iteration q C) f g ∙ ap (λ (t : ℕ). sent_in G R t σ.variable_messages σ.check_messages) e))

  -- ---- the run halted

  test : ℕ → Bool
  test t = eqb (unsatisfied_in G R t) 0

  stops_first : First test 0 limit (stop G R limit)
  unfolding test stop
  stops_first = first_is test 0 limit

  -- a run of a smaller limit stops where this run halts
  pub stop_min : (k : ℕ) → stop G R (min k limit) ≡ min k (stop G R limit)
  unfolding test stop
  stop_min k = first_only (first_is test 0 (min k limit)) (record {
    low = omega arith;
    high = omega (arith, stops_first.high);
    before = λ j l u. stops_first.before j l (omega arith);
    found = λ u. let here : stop G R limit ≡ min k (stop G R limit) = omega (arith, stops_first.high) in ap test (sym here) ∙ stops_first.found (omega (arith, stops_first.high));
  })

  pub halted_shorter : (k : ℕ) → halted G R limit k ≡ final G R (min k limit)
  unfolding halted final
  halted_shorter k = ap (state G R) (sym (stop_min k))

  -- whether the run ends in iteration t
  ends_at : (t : ℕ) → ends G R limit (state G R t) ≡ test t || leb limit t
  unfolding ends test unsatisfied_in
  ends_at t = ap (λ (k : ℕ). test t || leb limit k) (state_number G R t)

  ends_early : (t : ℕ) → t < stop G R limit → ends G R limit (state G R t) ≡ false
  ends_early t l = ends_at t ∙ ap₂ (λ a b. a || b) (stops_first.before t (omega arith) l) (lt-leb limit t (omega (arith, stops_first.high)))

  ends_over : ends G R limit (state G R (stop G R limit)) ≡ true
  ends_over = ends_at (stop G R limit) ∙ go (dec_lt (stop G R limit) limit)
    where
      go : Dec (stop G R limit < limit) → test (stop G R limit) || leb limit (stop G R limit) ≡ true
      go (yes l) = ap (λ b. b || leb limit (stop G R limit)) (stops_first.found (omega arith))
      go (no l) = ap (λ b. test (stop G R limit) || b) (le-leb limit (stop G R limit) (omega arith)) ∙ or_yes (test (stop G R limit))

  halted_early : (k : ℕ) → k < stop G R limit → (halted G R limit k ≡ state G R k) × (ends G R limit (halted G R limit k) ≡ false)
  unfolding halted
  halted_early k l = let here : min k (stop G R limit) ≡ k = omega arith in (ap (state G R) here, ap (λ (t : ℕ). ends G R limit (state G R t)) here ∙ ends_early k l)

  halted_over : (k : ℕ) → stop G R limit ≤ k → (halted G R limit k ≡ final G R limit) × (ends G R limit (halted G R limit k) ≡ true)
  unfolding halted final
  halted_over k l =
      let here : min k (stop G R limit) ≡ stop G R limit = omega arith in
      (ap (state G R) here, ap (λ (t : ℕ). ends G R limit (state G R t)) here ∙ ends_over)

  halted_more : (k : ℕ) → onward G R limit (halted G R limit k) ≡ halted G R limit (suc k)
  unfolding halted state
  halted_more k = go (dec_lt k (stop G R limit))
    where
      go : Dec (k < stop G R limit) → onward G R limit (halted G R limit k) ≡ halted G R limit (suc k)
      go (yes l) =
          let here : suc k ≡ min (suc k) (stop G R limit) = omega arith in
          onward_open (halted G R limit k) (halted_early k l).1 ∙ ap (next G R) (halted_early k l).0 ∙ ap (state G R) here
      go (no l) = onward_over (halted G R limit k) (halted_over k (omega arith)).1 ∙ (halted_over k (omega arith)).0 ∙ sym (halted_over (suc k) (omega arith)).0

  begun_halted : begun G R ≡ halted G R limit 0
  unfolding halted state
  begun_halted = let here : 0 ≡ min 0 (stop G R limit) = omega arith in ap (state G R) here

  halted_begins : (k : ℕ) → onward_by G R limit k (begun G R) ≡ halted G R limit k
  unfolding onward_by
  halted_begins zero = begun_halted
  halted_begins (suc k) = ap (onward G R limit) (halted_begins k) ∙ halted_more k

  halted_resumes : (j k : ℕ) → j < stop G R limit → resumed G R limit k (halted G R limit j) ≡ halted G R limit (j + k)
  halted_resumes j k l =
      sym (open_resumed k (halted G R limit j) (halted_early j l).1) ∙ ap (onward_by G R limit k) (sym (halted_begins j)) ∙ onward_add j k (begun G R) ∙ halted_begins (j + k)

  -- ---- from iteration 0 to the end

  pub ended_at_once : ends G R limit (begun G R) ≡ true → (stop G R limit ≡ 0) × (begun G R ≡ final G R limit)
  ended_at_once e = let z : stop G R limit ≡ 0 = go (dec_lt 0 (stop G R limit)) in (z, begun_halted ∙ (halted_over 0 (omega arith)).0)
    where
      go : Dec (0 < stop G R limit) → stop G R limit ≡ 0
      go (yes l) = let c : ◌≡◌ {A = ℕ} 0 1 = cc (e, ap (ends G R limit) begun_halted, (halted_early 0 l).1) in absurd (omega arith)
      go (no l) = omega arith

  pub begun_resumed : ends G R limit (begun G R) ≡ false → resumed G R limit limit (begun G R) ≡ final G R limit
  begun_resumed e = sym (open_resumed limit (begun G R) e) ∙ halted_begins limit ∙ (halted_over limit (omega (arith, stops_first.high))).0

  pub final_number : (final G R limit).iteration ≡ stop G R limit
  unfolding final
  final_number = state_number G R (stop G R limit)

pub run_halts : RunHalts
run_halts G R limit = record {
  begins = halted_begins G R limit;
  early = halted_early G R limit;
  over = halted_over G R limit;
  resumes = halted_resumes G R limit;
  shorter = halted_shorter G R limit;
}
