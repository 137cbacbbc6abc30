-- Iteration 0 in memory.
use mathlib.Core.Path.{◌≡◌, refl, sym, ap, ap₂, ◌∙◌, subst}
use mathlib.Core.Bool.{Bool, true, false, true≢false, ◌||◌}
use mathlib.Core.List.{List, [], ◌∷◌, ◌++◌}
use Prim.Native.Nat.{ℕ, zero, suc, ◌-◌, ◌*◌, ◌/◌, ◌<◌}
use native.Mathlib.Nat.{mul-suc}
use native.Mathlib.Omega.{arith}
use borrow.Author.Tests.{ne_eqb, lt-leb}
use lib.Dec.{eqb, leb}
use lib.Ieee.{Float}
use lib.IntN.{pos}
use lib.ListN.{length, get_or, drop, length-append}
use mir.Syntax.{w32}
use mir.Val.{of_z}
use Rattle.rules.specs.Ranges.{joined, one, tabulate}
use Rattle.rules.specs.Levels.{Level, byte, level_of, plus_zero, largest}
use Rattle.rules.specs.Graphs.{Graph, Admitted, variable_degree, unsatisfied}
use Rattle.rules.specs.Nodes.{Offsets, Lifting, first_message, first_bit}
use Rattle.rules.specs.Sequence.{Scheme, State, unlifted, sign_preserving, bit_at, begun, unsatisfied_in, final, report}
use Rattle.rules.specs.Halting.{ends, resumed}
use Rattle.rules.specs.declared.Report.{Report}
use Rattle.rules.proofs.Ranges.{get_d_tabulate, length_tabulate}
use Rattle.rules.proofs.Tests.{or_yes}
use Rattle.rules.proofs.Stops.{codeword_none, run_stops}
use Rattle.rules.proofs.Halting.{ended_at_once, begun_resumed, final_number}
use Rattle.rules.proofs.Same.{final_same, report_same}
use Rattle.rules.proofs.Filling.{map_tabulate, tabulate_add}
use Rattle.rules.proofs.Own.{level_bytes, largest_within}
use Rattle.words.specs.Words.{bytes, table}
use Rattle.words.specs.Roles.{wide, degree_at, value_at, bit_of_byte, graph_of}
use Rattle.words.proofs.Words.{table_ext, length_table, at_table}
use Rattle.settings.specs.declared.Settings.{Settings}
use Rattle.settings.specs.Values.{channel_level}
use Rattle.settings.specs.Theorems.{Admissible}
use Rattle.settings.proofs.Magnitudes.{magnitudes_within}
use Rattle.nodes.specs.Memory.{level_in}
use Rattle.steps.specs.Steps.{Holds, Degrees, Sized, Begins, rules_under, Given, Resumes}
use Rattle.steps.proofs.Running.{bits_of, in_bytes}
use Rattle.decoder.specs.Runs.{report_at, levels_under, RunsTo, RunsFrom, RunsInto}
use Rattle.decoding.specs.Decoding.{Memory}
use Rattle.decoding.specs.Frames.{memory}

-- zeros, as numbers of four bytes
zeros : (n : ℕ) → table 4 (λ v. 0) n ≡ tabulate (λ k. 0) (4 * n)
unfolding table joined tabulate bytes
zeros zero = refl
zeros (suc n) = ap (λ l. l ++ (0 ∷ 0 ∷ 0 ∷ 0 ∷ [])) (zeros n) ∙ tabulate_add (λ k. 0) (4 * n) 4 ∙ ap (tabulate (λ k. 0)) (sym (mul-suc 4 n))

-- with the largest magnitudes by other names
pub begins_as : {values : List ℕ} {factor : Float} {Nch Nq Nch' Nq' : ℕ} {columns : List ℕ} {E s : ℕ} {y q C S b : List ℕ} → Nch ≡ Nch' → Nq ≡ Nq'
    → Begins values factor Nch Nq columns E s y q C S b → Begins values factor Nch' Nq' columns E s y q C S b
begins_as {values} {factor} {Nch} {Nq} {Nch'} {Nq'} {columns} {E} {s} {y} {q} {C} {S} {b} e f h =
    subst (λ (k : ℕ). Begins values factor k Nq' columns E s y q C S b) e (subst (λ (k : ℕ). Begins values factor Nch k columns E s y q C S b) f h)

module _ (n : ℕ) (starts columns : List ℕ) (Nq : ℕ) (φ : Offsets) (Λ : Lifting) {values : List ℕ} {factor : Float} {Nch : ℕ} {y q C S b : List ℕ}
    {E s : ℕ} (begins : Begins values factor Nch Nq columns E s y q C S b) (many : length values / 4 ≡ n) where
  begun_length : length y ≡ n
  begun_length = ap length begins.levels ∙ length_tabulate (λ v. byte (channel_level Nch factor values v)) (length values / 4) ∙ many

  pub begun_holds : E ≡ length columns / wide → s ≡ 4 * n
      → Holds (graph_of n starts columns) (begun (graph_of n starts columns) (sign_preserving (graph_of n starts columns) Nq φ Λ (level_in y))) q C S b
  unfolding sign_preserving unlifted begun first_message first_bit byte
  begun_holds e f = record {
    variable_messages = begins.variable_messages ∙ sym (map_tabulate byte (first_message (graph_of n starts columns) Nq (level_in y)) (length columns / wide));
    check_messages = begins.check_messages ∙ ap (tabulate (λ k. 0)) e ∙ sym (map_tabulate byte (λ e. plus_zero) (length columns / wide));
    sums = begins.sums ∙ ap (tabulate (λ k. 0)) f ∙ sym (zeros n)
        ∙ table_ext 4 (λ v. 0) (λ v. of_z w32 (get_or (tabulate (λ v. pos 0) n) v (pos 0))) n (λ v l. sym (ap (of_z w32) (get_d_tabulate (λ v. pos 0) n v (pos 0) l)));
    bits = begins.bits ∙ ap (tabulate (λ v. one (first_bit (level_in y) v))) begun_length ∙ sym (map_tabulate one (first_bit (level_in y)) n);
  }

-- the levels in bytes are the channel levels
module _ {s : Settings} (good : Admissible s) (n : ℕ) (values : List ℕ) {y : List ℕ} (e : y ≡ tabulate (λ v. byte (levels_under s values v)) n) where
  pub levels_length : length y ≡ n
  levels_length = ap length e ∙ length_tabulate (λ v. byte (levels_under s values v)) n

  pub levels_told : (v : ℕ) → v < n → level_in y v ≡ levels_under s values v
  levels_told v l =
      ap (λ k. level_of (get_or k v 0)) e ∙ ap level_of (get_d_tabulate (λ v. byte (levels_under s values v)) n v 0 l)
      ∙ level_bytes.0 (levels_under s values v) (omega (arith, magnitudes_within (largest s.channel) s.factor (value_at values v), largest_within s.channel good.channel.1))

-- memory for the run
pub ready_sized : (G : Graph) {y d q C S b : List ℕ} → Admitted G → Degrees G d
    → length y ≡ G.variables → length q ≡ G.entries → length C ≡ G.entries → length S ≡ 4 * G.variables → length b ≡ G.variables → Sized G y d q C S b
ready_sized G ok counted ly lq lC lS lb = record {
  summed = record { admitted = ok; levels = ly; counted = counted; check_messages = lC; sums = lS };
  variable_messages = lq;
  bits = lb;
}

-- the list after the degrees are counted, in its front
pub counted_degrees : (G : Graph) {d : List ℕ} (t : List ℕ) → Admitted G → d ≡ table 4 (variable_degree G) G.variables ++ t → Degrees G d
counted_degrees G {d} t ok e = record {
  degrees = λ v l. ap (λ k. degree_at k v) e ∙ at_table 4 (variable_degree G) G.variables t v l (omega (arith, (ok.variable_degrees v l).1));
  enough = omega (arith, ap length e, length-append (table 4 (variable_degree G) G.variables) t, length_table 4 (variable_degree G) G.variables);
}

-- ---- the run from iteration 0

module _ (G : Graph) (Nq : ℕ) (φ : Offsets) (Λ : Lifting) (y : ℕ → Level) where
  abbrev R : Scheme
  R = sign_preserving G Nq φ Λ y

  pub begun_given : {q C S b : List ℕ} → Holds G (begun G R) q C S b → Given Nq (begun G R) 0 q C
  unfolding sign_preserving unlifted begun first_message
  begun_given h = record {
    number = refl;
    variable_messages = in_bytes Nq (first_message G Nq y) G.entries (λ e _. omega arith) (h.variable_messages ∙ map_tabulate byte (first_message G Nq y) G.entries);
    check_messages = in_bytes Nq (λ e. plus_zero) G.entries (λ e _. omega arith) (h.check_messages ∙ map_tabulate byte (λ e. plus_zero) G.entries);
  }

-- at iteration 0 the limit is reached where it is 0
reached : (limit : ℕ) (u : Bool) → (eqb 0 limit || u) ≡ (u || leb limit 0)
reached zero u = sym (or_yes u)
reached (suc k) true = or_yes (eqb 0 (suc k))
reached (suc k) false = ap (λ b. b || false) (ne_eqb 0 (suc k) (λ e. omega arith)) ∙ sym (lt-leb (suc k) 0 (omega arith))

-- and where it is not, there is an iteration to do
pub still_on : (limit : ℕ) (u : Bool) {w : Bool} → w ≡ (eqb 0 limit || u) → w ≡ false → 0 < limit
still_on zero u e o = absurd (true≢false (sym e ∙ o))
still_on (suc k) u e o = omega arith

-- w says whether the run halts at iteration 0
module _ (G : Graph) (R : Scheme) (limit : ℕ) {q C S b : List ℕ} (holds : Holds G (begun G R) q C S b) where
  odd_begun : unsatisfied G (bit_of_byte b) ≡ unsatisfied G (bit_at (begun G R).bits)
  odd_begun = ap (unsatisfied G) (ap bit_of_byte holds.bits ∙ bits_of (begun G R).bits)

  -- the run ends there
  ends_there : ends G R limit (begun G R) ≡ true → RunsTo G R limit 0 q C S b
  ends_there e = record {
    number = sym (ended_at_once G R limit e).0;
    holds = subst (λ σ. Holds G σ q C S b) (ended_at_once G R limit e).1 holds;
  }

  at_once : {w : Bool} → w ≡ (eqb 0 limit || eqb (unsatisfied G (bit_of_byte b)) 0) → w ≡ ends G R limit (begun G R)
  unfolding ends begun
  at_once e = e ∙ reached limit (eqb (unsatisfied G (bit_of_byte b)) 0) ∙ ap (λ k. eqb k 0 || leb limit 0) odd_begun

  pub runs_ended : {w : Bool} → w ≡ (eqb 0 limit || eqb (unsatisfied G (bit_of_byte b)) 0) → w ≡ true → RunsTo G R limit 0 q C S b
  runs_ended e o = ends_there (sym (at_once e) ∙ o)

  -- or goes on to its end
  pub runs_on : {w : Bool} → w ≡ (eqb 0 limit || eqb (unsatisfied G (bit_of_byte b)) 0) → w ≡ false → {t : ℕ} {q₁ C₁ S₁ b₁ : List ℕ} → Resumes G R limit (limit - 0) (begun G R) t q₁ C₁ S₁ b₁ → RunsTo G R limit t q₁ C₁ S₁ b₁
  runs_on e o {t} {q₁} {C₁} {S₁} {b₁} r = record {
    number = r.number ∙ ap (λ (σ : State). σ.iteration) all ∙ final_number G R limit;
    holds = subst (λ σ. Holds G σ q₁ C₁ S₁ b₁) all r.holds;
  }
    where
      all : resumed G R limit (limit - 0) (begun G R) ≡ final G R limit
      all = let n : limit - 0 ≡ limit = omega arith in ap (λ (k : ℕ). resumed G R limit k (begun G R)) n ∙ begun_resumed G R limit (sym (at_once e) ∙ o)

-- stopped before its limit, it is at a codeword
pub none_odd_early : {G : Graph} {R : Scheme} {limit t : ℕ} {q C S b : List ℕ} → RunsTo G R limit t q C S b → t < limit → unsatisfied G (bit_of_byte b) ≡ 0
none_odd_early {G} {R} {limit} runs l =
    ap (unsatisfied G) (ap bit_of_byte runs.holds.bits ∙ bits_of (final G R limit).bits)
    ∙ codeword_none G (bit_at (final G R limit).bits) ((run_stops G R limit).reached (omega (arith, runs.number)))

-- what is reported where it stops
pub reported : (G : Graph) (R : Scheme) (limit : ℕ) {t k : ℕ} {r : Report} {q C S b : List ℕ} → RunsTo G R limit t q C S b → k ≡ unsatisfied G (bit_of_byte b) → r ≡ report_at t k → r ≡ report G R limit
unfolding report unsatisfied_in final
reported G R limit runs e f = f ∙ ap₂ report_at runs.number (e ∙ ap (unsatisfied G) (ap bit_of_byte runs.holds.bits ∙ bits_of (final G R limit).bits))

-- the run from the levels in bytes is the run from the channel levels
pub runs_same : (G : Graph) → Admitted G → (Nq : ℕ) (φ : Offsets) (Λ : Lifting) (y y' : ℕ → Level) → ((v : ℕ) → v < G.variables → y v ≡ y' v) → (limit : ℕ) {r : Report} {q C S b : List ℕ}
    → r ≡ report G (sign_preserving G Nq φ Λ y) limit → Holds G (final G (sign_preserving G Nq φ Λ y) limit) q C S b
    → (r ≡ report G (sign_preserving G Nq φ Λ y') limit) × Holds G (final G (sign_preserving G Nq φ Λ y') limit) q C S b
runs_same G ok Nq φ Λ y y' h limit {r} {q} {C} {S} {b} e w = (e ∙ report_same G ok Nq φ Λ y y' h limit, subst (λ σ. Holds G σ q C S b) (final_same G ok Nq φ Λ y y' h limit) w)

-- the run in the front of memory that may be longer
pub run_into : {s : Settings} {G : Graph} {values : List ℕ} {r : Report} {y q C S b : List ℕ} (M : Memory) → RunsFrom s G values r y q C S b
    → RunsInto s G values r M
    (memory (y ++ drop G.variables M.levels) (q ++ drop G.entries M.variable_messages) (C ++ drop G.entries M.check_messages) (S ++ drop (4 * G.variables) M.sums) (b ++ drop G.variables M.bits))
run_into {s} {G} {values} {r} {y} {q} {C} {S} {b} M w = record {
  report = w.report;
  memory = rw (w.levels, h.variable_messages, h.check_messages, h.sums, h.bits);
}
  where
    h : Holds G (final G (rules_under s G (levels_under s values)) s.limit) q C S b
    h = w.holds
