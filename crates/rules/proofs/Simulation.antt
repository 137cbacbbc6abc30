-- Two decoders side by side: where each rule of one mirrors the rule of the other, so do all their iterations.
-- Entry e of the first is entry σ e of the second, and variable v is variable π v; `turn e` is what becomes of a message at entry e,
-- `flip v` of the sum at variable v. For the codeword symmetry σ and π leave all in place.
use mathlib.Core.Path.{◌≡◌, refl, sym, ap, ◌∙◌}
use mathlib.Core.List.{List}
use Prim.Native.Nat.{ℕ, zero, suc, ◌≤◌, ◌<◌}
use native.Mathlib.Omega.{arith}
use lib.ListN.{get_or}
use lib.IntN.{ℤ, pos}
use Rattle.rules.specs.Ranges.{tabulate}
use Rattle.rules.specs.Levels.{Level, plus_zero}
use Rattle.rules.specs.Graphs.{Graph}
use Rattle.rules.specs.Sequence.{Scheme, State, level_at, begun, sent_in, sent, iterated, next, state}
use Rattle.rules.proofs.Ranges.{get_d_tabulate}

module _ (G : Graph) (R : Scheme) where
  pub state_number : (t : ℕ) → (state G R t).iteration ≡ t
  unfolding state begun next iterated
  state_number zero = refl
  state_number (suc t) = ap suc (state_number t)

  -- the sums of iteration t + 1, and what is sent in it
  pub sum_at_lem : (t v : ℕ) → v < G.variables → get_or (state G R (suc t)).sums v (pos 0) ≡ R.sum (suc t) (level_at (state G R (suc t)).check_messages) v
  unfolding state next iterated
  sum_at_lem t v u =
      let C : ℕ → Level = level_at (state G R (suc t)).check_messages in
      get_d_tabulate (R.sum (suc (state G R t).iteration) C) G.variables v (pos 0) u ∙ ap (λ k. R.sum (suc k) C v) (state_number t)

  pub sent_is : (t : ℕ) → sent G R (state G R (suc t)) ≡ tabulate (R.variable (suc t) (level_at (state G R (suc t)).check_messages)) G.entries
  unfolding state next iterated sent sent_in
  sent_is t = ap (λ k. tabulate (R.variable (suc k) (level_at (state G R (suc t)).check_messages)) G.entries) (state_number t)

module _ (G G' : Graph) (R R' : Scheme) (σ π : ℕ → ℕ) (turn : ℕ → Level → Level) (flip : ℕ → ℤ → ℤ) where
  -- the messages q' of the second are those of the first, turned
  abbrev pub Matches : (ℕ → Level) → (ℕ → Level) → Type 0
  Matches q q' = (e : ℕ) → e < G.entries → q' (σ e) ≡ turn e (q e)

  pub record Simulates : Type 0 where
    pub entries : (e : ℕ) → e < G.entries → σ e < G'.entries
    pub variables : (v : ℕ) → v < G.variables → π v < G'.variables
    pub first_message : Matches R.first_message R'.first_message
    pub check : (q q' : ℕ → Level) → Matches q q' → Matches (R.check q) (R'.check q')
    pub sum : (t : ℕ) (C C' : ℕ → Level) → Matches C C' → (v : ℕ) → v < G.variables → R'.sum t C' (π v) ≡ flip v (R.sum t C v)
    pub variable : (t : ℕ) (C C' : ℕ → Level) → Matches C C' → Matches (R.variable t C) (R'.variable t C')

  -- of two states of the same iteration
  pub record Mirrors (s s' : State) : Type 0 where
    pub iteration : s'.iteration ≡ s.iteration
    pub variable_messages : Matches (level_at (sent G R s)) (level_at (sent G' R' s'))
    pub check_messages : 1 ≤ s.iteration → Matches (level_at s.check_messages) (level_at s'.check_messages)
    pub sums : 1 ≤ s.iteration → (v : ℕ) → v < G.variables → get_or s'.sums (π v) (pos 0) ≡ flip v (get_or s.sums v (pos 0))

  module _ (T : Simulates) where
    tables : (f f' : ℕ → Level) → Matches f f' → Matches (level_at (tabulate f G.entries)) (level_at (tabulate f' G'.entries))
    tables f f' h e u =
        get_d_tabulate f' G'.entries (σ e) plus_zero (T.entries e u) ∙ h e u ∙ ap (turn e) (sym (get_d_tabulate f G.entries e plus_zero u))

    begun_mirrors : Mirrors (begun G R) (begun G' R')
    unfolding begun sent sent_in
    begun_mirrors = record {
      iteration = refl;
      variable_messages = tables R.first_message R'.first_message T.first_message;
      check_messages = λ h. absurd (omega arith);
      sums = λ h. absurd (omega arith);
    }

    next_mirrors : (s s' : State) → Mirrors s s' → Mirrors (next G R s) (next G' R' s')
    unfolding next iterated sent sent_in
    next_mirrors s s' m = record {
      iteration = ap suc m.iteration;
      variable_messages = tables (R.variable t (level_at C)) (R'.variable t' (level_at C'))
          (λ e u. ap (λ k. R'.variable (suc k) (level_at C') (σ e)) m.iteration ∙ T.variable t (level_at C) (level_at C') back e u);
      check_messages = λ h. back;
      sums = λ h v u. get_d_tabulate (R'.sum t' (level_at C')) G'.variables (π v) (pos 0) (T.variables v u)
          ∙ ap (λ k. R'.sum (suc k) (level_at C') (π v)) m.iteration
          ∙ T.sum t (level_at C) (level_at C') back v u
          ∙ ap (flip v) (sym (get_d_tabulate (R.sum t (level_at C)) G.variables v (pos 0) u));
    }
      where
        t : ℕ
        t = suc s.iteration

        t' : ℕ
        t' = suc s'.iteration

        q : ℕ → Level
        q = level_at (sent G R s)

        q' : ℕ → Level
        q' = level_at (sent G' R' s')

        C : List Level
        C = tabulate (R.check q) G.entries

        C' : List Level
        C' = tabulate (R'.check q') G'.entries

        back : Matches (level_at C) (level_at C')
        back = tables (R.check q) (R'.check q') (T.check q q' m.variable_messages)

    -- all iterations
    pub states_mirror : (t : ℕ) → Mirrors (state G R t) (state G' R' t)
    unfolding state
    states_mirror zero = begun_mirrors
    states_mirror (suc t) = next_mirrors (state G R t) (state G' R' t) (states_mirror t)
