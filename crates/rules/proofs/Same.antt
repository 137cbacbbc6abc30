-- A run depends on the channel levels of the variables alone.
use mathlib.Core.Path.{◌≡◌, refl, ap, ap₂, ◌∙◌}
use mathlib.Core.Bool.{cond}
use mathlib.Core.List.{List}
use Prim.Native.Nat.{ℕ, zero, suc, ◌<◌, min}
use lib.Dec.{eqb}
use lib.ListN.{get_or}
use lib.IntN.{ℤ, pos, ◌+ℤ◌}
use Rattle.rules.specs.Ranges.{fold, but, tabulate}
use Rattle.rules.specs.Levels.{Level, plus_zero}
use Rattle.rules.specs.Graphs.{Graph, Admitted, variable_degree, unsatisfied}
use Rattle.rules.specs.Nodes.{Offsets, Lifting, first_message, first_bit, from_check, contribution, extra, channel_part, share, posterior, bit_of, outgoing_sum, outgoing, from_variable}
use Rattle.rules.specs.Sequence.{Scheme, State, unlifted, counted_in, sign_preserving, level_at, bit_at, begun, sent_in, sent, iterated, next, state, unsatisfied_in, stop, final, report}
use Rattle.rules.specs.declared.Report.{Report}
use Rattle.rules.specs.declared.Verdict.TheVariants.{Codeword, Stopped}
use Rattle.rules.proofs.Ranges.{tabulate_ext, first_ext}

module _ (G : Graph) (ok : Admitted G) (Nq : ℕ) (φ : Offsets) (Λ : Lifting) (y y' : ℕ → Level) (h : (v : ℕ) → v < G.variables → y v ≡ y' v) where
  R : Scheme
  R = sign_preserving G Nq φ Λ y

  R' : Scheme
  R' = sign_preserving G Nq φ Λ y'

  part_same : (v : ℕ) → v < G.variables → channel_part G y v ≡ channel_part G y' v
  unfolding channel_part
  part_same v u = ap (contribution (extra (variable_degree G v))) (h v u)

  sent_same : (t : ℕ) (q C : List Level) → sent_in G R t q C ≡ sent_in G R' t q C
  unfolding R R' sign_preserving unlifted sent_in from_variable outgoing_sum
  sent_same zero q C = refl
  sent_same (suc t) q C = tabulate_ext (from_variable G Nq φ y f) (from_variable G Nq φ y' f) G.entries
      (λ e u. ap (λ s. outgoing Nq φ (s +ℤ fold ◌+ℤ◌ (pos 0) (but (pos 0) e (share G f (G.column e))) 0 G.entries)) (part_same (G.column e) (ok.within e u)))
    where
      f : ℕ → Level
      f = counted_in Nq Λ (suc t) (level_at C)

  iterated_same : (t : ℕ) (q : List Level) → iterated G R t q ≡ iterated G R' t q
  unfolding R R' sign_preserving unlifted iterated posterior
  iterated_same t q = ap₂ (λ S b. record { iteration = t; variable_messages = q; check_messages = C; sums = S; bits = b }) sums_same bits_same
    where
      C : List Level
      C = tabulate (from_check G (level_at q)) G.entries

      f : ℕ → Level
      f = counted_in Nq Λ t (level_at C)

      S : (ℕ → Level) → List ℤ
      S y = tabulate (posterior G y f) G.variables

      sums_same : S y ≡ S y'
      sums_same = tabulate_ext (posterior G y f) (posterior G y' f) G.variables
          (λ v u. ap (λ s. s +ℤ fold ◌+ℤ◌ (pos 0) (share G f v) 0 G.entries) (part_same v u))

      bits_same : tabulate (λ v. bit_of (get_or (S y) v (pos 0)) (y v).minus) G.variables ≡ tabulate (λ v. bit_of (get_or (S y') v (pos 0)) (y' v).minus) G.variables
      bits_same = tabulate_ext (λ v. bit_of (get_or (S y) v (pos 0)) (y v).minus) (λ v. bit_of (get_or (S y') v (pos 0)) (y' v).minus) G.variables
          (λ v u. ap₂ (λ l m. bit_of (get_or l v (pos 0)) m.minus) sums_same (h v u))

  -- of any state
  pub next_same : (σ : State) → next G (sign_preserving G Nq φ Λ y) σ ≡ next G (sign_preserving G Nq φ Λ y') σ
  unfolding R R' next sent
  next_same σ = ap (iterated G R (suc σ.iteration)) (sent_same σ.iteration σ.variable_messages σ.check_messages) ∙ iterated_same (suc σ.iteration) (sent G R' σ)

  state_same : (t : ℕ) → state G R t ≡ state G R' t
  unfolding R R' state begun next sent sign_preserving unlifted first_message first_bit
  state_same zero = ap₂ (λ q b. record { iteration = 0; variable_messages = q; check_messages = tabulate (λ e. plus_zero) G.entries; sums = tabulate (λ v. pos 0) G.variables; bits = b })
      (tabulate_ext (first_message G Nq y) (first_message G Nq y') G.entries
      (λ e u. ap (λ (l : Level). record { minus = l.minus; magnitude = min l.magnitude Nq }) (h (G.column e) (ok.within e u))))
      (tabulate_ext (first_bit y) (first_bit y') G.variables (λ v u. ap (λ l. l.minus) (h v u)))
  state_same (suc t) = ap (next G R) (state_same t) ∙ next_same (state G R' t)

  pub begun_same : begun G (sign_preserving G Nq φ Λ y) ≡ begun G (sign_preserving G Nq φ Λ y')
  unfolding R R' state
  begun_same = state_same 0

  unsatisfied_same : (t : ℕ) → unsatisfied_in G R t ≡ unsatisfied_in G R' t
  unfolding unsatisfied_in
  unsatisfied_same t = ap (λ σ. unsatisfied G (bit_at σ.bits)) (state_same t)

  stop_same : (limit : ℕ) → stop G R limit ≡ stop G R' limit
  unfolding stop
  stop_same limit = first_ext (λ t. eqb (unsatisfied_in G R t) 0) (λ t. eqb (unsatisfied_in G R' t) 0) (λ t. ap (λ k. eqb k 0) (unsatisfied_same t)) 0 limit

  pub final_same : (limit : ℕ) → final G (sign_preserving G Nq φ Λ y) limit ≡ final G (sign_preserving G Nq φ Λ y') limit
  unfolding R R' final
  final_same limit = ap (state G R) (stop_same limit) ∙ state_same (stop G R' limit)

  pub report_same : (limit : ℕ) → report G (sign_preserving G Nq φ Λ y) limit ≡ report G (sign_preserving G Nq φ Λ y') limit
  unfolding R R' report
  report_same limit = ap₂ reported (stop_same limit) (ap (unsatisfied_in G R) (stop_same limit) ∙ unsatisfied_same (stop G R' limit))
    where
      reported : ℕ → ℕ → Report
      reported t k = record { verdict = cond (eqb k 0) Codeword Stopped; iterations = t; unsatisfied = k }
