-- Begin and advance in lent memory: their refusals in order, and the bytes past the lists.
use Rattle.std.specs.Prelude.{Ok, Err}
use mathlib.Core.Path.{◌≡◌, refl, sym, ap, ap₂, ◌∙◌, subst}
use mathlib.Core.Bool.{Bool, true, false, cond, ◌&&◌, ◌||◌}
use mathlib.Core.List.{List, [], ◌∷◌, ◌++◌, map}
use Prim.Native.Nat.{ℕ, zero, suc, ◌+◌, ◌-◌, ◌*◌, ◌≤◌, ◌<◌, min}
use native.Mathlib.Decide.{dec_lt}
use native.Mathlib.Omega.{arith}
use borrow.Author.Tests.{eq-eqb, ne_eqb, leb-true, leb-false, ltb-true}
use lib.Dec.{eqb, leb, ltb}
use lib.Ieee.{of_int, lt}
use lib.ListN.{length, get_or, take, drop, get_or-map, get_or-eq_default}
use lib.Seq.{length-take-le}
use Rattle.rules.specs.Levels.{byte, level_of, largest}
use Rattle.rules.specs.Graphs.{Graph, limits, Admitted, unsatisfied}
use Rattle.rules.specs.Sequence.{Scheme, State, level_at, bit_at, begun, iterated, next}
use Rattle.rules.specs.Halting.{ends, onward, onward_by, resumed}
use Rattle.refusals.specs.Refusals.{unless, or_else, Judged}
use Rattle.refusals.specs.declared.Refusal.{Refusal}
use Rattle.refusals.specs.declared.Refusal.TheVariants as Refusals
use Rattle.rules.proofs.Own.{level_bytes}
use Rattle.refusals.proofs.Judging.{or_else_left, or_else_right, or_else_none, unless_true, all_true, each_same}
use Rattle.rules.proofs.Tests.{and_left, and_right}
use Rattle.rules.proofs.Halting.{resumed_limit}
use Rattle.rules.proofs.Same.{begun_same}
use Rattle.words.specs.Roles.{bit_of_byte}
use Rattle.graphs.specs.Judging.{graph_judged_in}
use Rattle.graphs.specs.Degrees as Lists
use Rattle.graphs.proofs.Lending.{lent_admitted, lent_counted}
use Rattle.settings.specs.declared.Settings.{Settings}
use Rattle.settings.specs.Settings.{Checked, settings, settings_judged, precisions_admitted, options_admitted, lifting_admitted, checked, settings_of}
use Rattle.settings.specs.Scaling.{positive}
use Rattle.settings.specs.Theorems.{Admissible}
use Rattle.settings.proofs.Accepted.{good_settings}
use Rattle.nodes.specs.Memory.{level_in}
use Rattle.steps.specs.Steps.{Holds, Degrees, offsets_in, lifting_in, rules_under, InBytes, Given, Resumes}
use Rattle.steps.proofs.Running.{bits_of}
use Rattle.decoding.specs.declared.Room.{Room}
use Rattle.decoding.specs.Decoding.{Frame, Memory, room_of, enough, graph, decode_finds}
use Rattle.decoding.specs.Decoding as Decoding
use Rattle.decoding.specs.Frames.{memory}
use Rattle.decoder.specs.Runs.{Long, levels_under, Ready, BeginsFrom}
use Rattle.decoding.proofs.Accepting.{checked_refused, checked_good, checked_same, enough_told}
use Rattle.decoder.proofs.Beginning.{levels_told, counted_degrees}
use Rattle.pausing.specs.declared.Run.{Run}
use Rattle.pausing.specs.declared.Unscaled.{Unscaled}
use Rattle.pausing.specs.Records.{is_open, record_at, record_of, admits}
use Rattle.pausing.specs.Pausing.{begun_answer, begun_memory, Begins, Lent, lent, Asked, scaled, unscaled_judged, handed, within_judged, refilled, graph_asked, limit_asked, scheme_asked, resume_judged, advance_judged, advance_finds, state_after, lent_after, Advances}
use Rattle.pausing.specs.Exact.{asked_finds, Accepts, BeginsExactly, BeginsInto, AdvancesExactly, AdvancesInto}

-- ---- memory

pub long_told : (G : Graph) (M : Memory) → enough G.variables G.entries (room_of M) ≡ true → Long G M
long_told G M h = let t = enough_told G.variables G.entries (room_of M) h in record { levels = t.0; variable_messages = t.1; check_messages = t.2; sums = t.3; bits = t.4 }

pub begin_into : {s : Settings} {G : Graph} {values : List ℕ} {r : Run} {y q C S b : List ℕ} (M : Memory) → BeginsExactly s G values r y q C S b
    → BeginsInto s G values r M
    (memory (y ++ drop G.variables M.levels) (q ++ drop G.entries M.variable_messages) (C ++ drop G.entries M.check_messages) (S ++ drop (4 * G.variables) M.sums) (b ++ drop G.variables M.bits))
begin_into M w = record { run = w.run; memory = rw (w.levels, w.holds.variable_messages, w.holds.check_messages, w.holds.sums, w.holds.bits) }

pub advance_into : {G : Graph} {R : Scheme} {limit k : ℕ} {σ : State} {r : Run} {q C S b : List ℕ} (M : Memory) → AdvancesExactly G R limit k σ r q C S b
    → AdvancesInto G R limit k σ r M
    (memory M.levels (q ++ drop G.entries M.variable_messages) (C ++ drop G.entries M.check_messages) (S ++ drop (4 * G.variables) M.sums) (b ++ drop G.variables M.bits))
advance_into M w = record { run = w.run; memory = rw (w.holds.variable_messages, w.holds.check_messages, w.holds.sums, w.holds.bits) }

-- ---- the record

-- of the state that the lists hold
pub record_is : (G : Graph) (limit : ℕ) (σ : State) {q C S b : List ℕ} {t k : ℕ} {r : Run} → Holds G σ q C S b → t ≡ σ.iteration → k ≡ unsatisfied G (bit_of_byte b) → r ≡ record_at limit t k
    → r ≡ record_of G limit σ
record_is G limit σ h n e f = f ∙ ap₂ (record_at limit) n (e ∙ ap (unsatisfied G) (ap bit_of_byte h.bits ∙ bits_of σ.bits))

-- the iterations up to the end are those that the advance is asked for
pub advances_exactly : (G : Graph) (R : Scheme) (limit count t end : ℕ) {σ : State} {r₀ : ℕ} {q C S b : List ℕ} {odd : ℕ} {r : Run} → end ≡ min (t + count) limit → σ.iteration ≡ t → t < limit
    → Resumes G R limit (end - t) σ r₀ q C S b → odd ≡ unsatisfied G (bit_of_byte b) → r ≡ record_at limit r₀ odd → AdvancesExactly G R limit count σ r q C S b
advances_exactly G R limit count t end {σ} {r₀} {q} {C} {S} {b} {odd} {r} m n l w e f = record {
  run = record_is G limit (resumed G R limit count σ) holds (w.number ∙ ap (λ (τ : State). τ.iteration) same) e f;
  holds = holds;
}
  where
    go : Dec (t + count < limit) → resumed G R limit (end - t) σ ≡ resumed G R limit count σ
    go (yes u) = let k : end - t ≡ count = omega arith in ap (λ (k : ℕ). resumed G R limit k σ) k
    go (no u) =
        let k : end - t ≡ limit - σ.iteration = omega arith in
        ap (λ (k : ℕ). resumed G R limit k σ) k ∙ sym (resumed_limit G R limit count σ (omega arith) (omega arith))

    same : resumed G R limit (end - t) σ ≡ resumed G R limit count σ
    same = go (dec_lt (t + count) limit)

    holds : Holds G (resumed G R limit count σ) q C S b
    holds = subst (λ (τ : State). Holds G τ q C S b) same w.holds

-- no state beyond the limit
pub resumed_within : (G : Graph) (R : Scheme) (limit k : ℕ) (σ : State) → σ.iteration < limit → (resumed G R limit k σ).iteration ≤ limit
unfolding resumed onward_by onward ends next iterated
resumed_within G R limit zero σ l = omega arith
resumed_within G R limit (suc k) σ l = on k
  where
    τ : ℕ → State
    τ k = onward_by G R limit k (next G R σ)

    once : (k : ℕ) (a b : Bool) → leb limit (τ k).iteration ≡ b → (τ k).iteration ≤ limit → (cond (a || b) (τ k) (next G R (τ k))).iteration ≤ limit
    once k true b e h = h
    once k false true e h = h
    once k false false e h = omega (arith, leb-false limit (τ k).iteration e)

    on : (k : ℕ) → (τ k).iteration ≤ limit
    on zero = omega arith
    on (suc k) = once k (eqb (unsatisfied G (bit_at (τ k).bits)) 0) (leb limit (τ k).iteration) refl (on k)

-- ---- bytes that are handed in

bytes_back : (q : List ℕ) → ((k : ℕ) → get_or q k 0 < 256) → map byte (map level_of q) ≡ q
bytes_back [] h = refl
bytes_back (b ∷ q) h = ap₂ ◌∷◌ (level_bytes.1 b (h 0)) (bytes_back q (λ k. h (suc k)))

take_byte : (n : ℕ) (q : List ℕ) → ((k : ℕ) → get_or q k 0 < 256) → (k : ℕ) → get_or (take n q) k 0 < 256
take_byte zero q h k = omega arith
take_byte (suc n) [] h k = omega arith
take_byte (suc n) (b ∷ q) h zero = h 0
take_byte (suc n) (b ∷ q) h (suc k) = take_byte n q (λ k. h (suc k)) k

take_at : (n : ℕ) (q : List ℕ) (k : ℕ) → k < n → get_or (take n q) k 0 ≡ get_or q k 0
take_at zero q k l = absurd (omega arith)
take_at (suc n) [] k l = refl
take_at (suc n) (b ∷ q) zero l = refl
take_at (suc n) (b ∷ q) (suc k) l = take_at n q k (omega arith)

-- what is judged of the first n bytes
pub within_front : {N M n : ℕ} {j : Judged} (l : List ℕ) → N ≡ M → n ≤ length l → j ≡ within_judged N (take n l) (length (take n l)) → within_judged M l n ≡ j
unfolding within_judged
within_front {N} {M} {n} l e h w =
    sym (w ∙ ap (within_judged N (take n l)) (length-take-le n l h)
    ∙ each_same _ _ n (λ k u. ap (λ (b : ℕ). unless (leb (level_of b).magnitude N) Refusals.Advance) (take_at n l k u)) ∙ ap (λ (k : ℕ). within_judged k l n) e)

module _ (N E : ℕ) (q : List ℕ) (bytes : (k : ℕ) → get_or q k 0 < 256) (within : within_judged N q E ≡ Ok tt) where
  handed_within : (e : ℕ) → (level_at (map level_of (take E q)) e).magnitude ≤ N
  unfolding level_of within_judged
  handed_within e = rw (get_or-map level_of (take E q) e 0) (go (dec_lt e E))
    where
      go : Dec (e < E) → (level_of (get_or (take E q) e 0)).magnitude ≤ N
      go (yes u) = rw (take_at E q e u) (leb-true (level_in q e).magnitude N (all_true (λ k. leb (level_in q k).magnitude N) (λ k. Refusals.Advance) E within e u))
      go (no u) = rw (get_or-eq_default (take E q) 0 {n = e} (omega (arith, length_take E q))) (omega arith)
        where
          length_take : (n : ℕ) (l : List ℕ) → length (take n l) ≤ n
          length_take zero l = omega arith
          length_take (suc n) [] = omega arith
          length_take (suc n) (x ∷ l) = omega (arith, length_take n l)

  pub handed_in : InBytes N (map level_of (take E q)) (take E q)
  handed_in = record { is = sym (bytes_back (take E q) (take_byte E q bytes)); within = handed_within }

pub given_handed : (N E : ℕ) (p : Run) (q C : List ℕ) → ((k : ℕ) → get_or q k 0 < 256) → ((k : ℕ) → get_or C k 0 < 256) → within_judged N q E ≡ Ok tt → within_judged N C E ≡ Ok tt
    → Given N (handed p (take E q) (take E C)) p.iterations (take E q) (take E C)
given_handed N E p q C bq bC wq wC = record { number = refl; variable_messages = handed_in N E q bq wq; check_messages = handed_in N E C bC wC }

-- ---- begin

-- iteration 0 from the levels in bytes is that from the channel levels
pub begins_exactly : {s : Settings} (G : Graph) (values : List ℕ) → Ready s G values → {y q C S b : List ℕ} → BeginsFrom s G values y q C S b → {k : ℕ} {r : Run}
    → k ≡ unsatisfied G (bit_of_byte b) → r ≡ record_at s.limit 0 k → BeginsExactly s G values r y q C S b
unfolding begun
begins_exactly {s} G values ready {y} {q} {C} {S} {b} w e f = record { run = record_is G s.limit (begun G (rules_under s G (levels_under s values))) h refl e f; levels = w.levels; holds = h }
  where
    h : Holds G (begun G (rules_under s G (levels_under s values))) q C S b
    h = subst (λ σ. Holds G σ q C S b) (begun_same G ready.admitted (largest s.message) (offsets_in s) (lifting_in s) (level_in y) (levels_under s values) (levels_told ready.settings G.variables values w.levels)) w.holds

module _ (F : Frame) (M : Memory) {d d' : List ℕ} {a : Checked} (accepts : Decoding.Accepts F (room_of M) a d d') where
  pub begins_refused : {r : Refusal} → a ≡ Err r → Begins F M M d d' (Err r)
  begins_refused {r} e = record { answer = sym (ap (begun_answer F) h); memory = sym (ap (λ j. begun_memory F j M) h); degrees = accepts.degrees }
    where
      h : decode_finds F (length d) (room_of M) ≡ Err r
      h = checked_refused (decode_finds F (length d) (room_of M)) (settings F.asked) (sym accepts.answer ∙ e)

  pub begins_at : {s : Settings} → a ≡ Ok s → {M' : Memory} {r : Run} → BeginsInto s (graph F) F.values r M M' → Begins F M M' d d' (Ok r)
  begins_at {s} e {M'} {r} w = record {
    answer = ap Ok run.run ∙ sym (ap (begun_answer F) h);
    memory = run.memory ∙ sym (ap (λ j. begun_memory F j M) h);
    degrees = accepts.degrees;
  }
    where
      told : checked (decode_finds F (length d) (room_of M)) (settings F.asked) ≡ Ok s
      told = sym accepts.answer ∙ e

      h : decode_finds F (length d) (room_of M) ≡ Ok tt
      h = checked_good (decode_finds F (length d) (room_of M)) (settings F.asked) told

      run : BeginsInto (settings F.asked) (graph F) F.values r M M'
      run = subst (λ t. BeginsInto t (graph F) F.values r M M') (sym (checked_same (decode_finds F (length d) (room_of M)) (settings F.asked) told)) w

-- ---- the refusals of an advance

-- a gain of 1 is never refused
pub plain_judged : (u : Unscaled) → settings_judged (scaled u) ≡ unscaled_judged u
unfolding positive of_int lt
plain_judged u =
    ap (λ j. or_else (unless (precisions_admitted u.channel u.message) Refusals.Precision) (or_else (unless (options_admitted (scaled u)) Refusals.Option) j))
    (or_else_none (unless (lifting_admitted (scaled u)) Refusals.Lifting))

module _ (G : Graph) (u : Unscaled) (m : Room) {g : Judged} {d d' : List ℕ} (checks : Lists.Checks limits G g d d') where
  accepts_as : {j : Judged} {a : Checked} → asked_finds G u (length d) m ≡ j → a ≡ checked j (settings (scaled u)) → Accepts G u m a d d'
  accepts_as h q = record { answer = q ∙ ap (λ j. checked j (settings (scaled u))) (sym h); degrees = checks.degrees }

  pub graph_refused : {r : Refusal} → g ≡ Err r → Accepts G u m (Err r) d d'
  graph_refused {r} e = accepts_as {j = Err r} (rw (sym checks.answer ∙ e) refl) refl

  module _ (good : g ≡ Ok tt) where
    pub graph_good : Admitted G
    graph_good = lent_admitted G (length d) (sym checks.answer ∙ good)

    pub settings_refused : {a : Checked} {r : Refusal} → a ≡ settings_of (scaled u) → a ≡ Err r → Accepts G u m (Err r) d d'
    unfolding settings_of
    settings_refused {a} {r} e f = accepts_as {j = Err r} (rw (sym checks.answer ∙ good, sym (plain_judged u) ∙ checked_refused (settings_judged (scaled u)) (settings (scaled u)) (sym e ∙ f)) refl) refl

    module _ {a : Checked} {s : Settings} (e : a ≡ settings_of (scaled u)) (f : a ≡ Ok s) where
      settled : unscaled_judged u ≡ Ok tt
      unfolding settings_of
      settled = sym (plain_judged u) ∙ checked_good (settings_judged (scaled u)) (settings (scaled u)) (sym e ∙ f)

      pub memory_refused : enough G.variables G.entries m ≡ false → Accepts G u m (Err Refusals.Buffer) d d'
      memory_refused h = accepts_as {j = Err Refusals.Buffer} (rw (sym checks.answer ∙ good, settled, h) refl) refl

      pub all_accepted : enough G.variables G.entries m ≡ true → Accepts G u m (Ok s) d d'
      unfolding settings_of
      all_accepted h = accepts_as {j = (Ok tt)} (rw (sym checks.answer ∙ good, settled, h) refl) (sym f ∙ e ∙ ap (λ j. checked j (settings (scaled u))) (checked_good (settings_judged (scaled u)) (settings (scaled u)) (sym e ∙ f)))

-- ---- the answers of an advance

or_assoc : (a b c d : Judged) → or_else a (or_else b (or_else c d)) ≡ or_else (or_else a (or_else b c)) d
or_assoc (Ok _) (Ok _) c d = refl
or_assoc (Ok _) (Err r) c d = refl
or_assoc (Err r) b c d = refl

module _ (A : Asked) (z : Lent) {d d' : List ℕ} {a : Checked} (accepts : Accepts (graph_asked A) A.settings (room_of z.memory) a d d') where
  abbrev before_record : Judged
  before_record = asked_finds (graph_asked A) A.settings (length d) (room_of z.memory)

  finds_is : advance_finds A (length d) z ≡ or_else before_record (resume_judged A z)
  unfolding advance_judged
  finds_is = or_assoc (graph_judged_in limits (graph_asked A) (length d)) (unscaled_judged A.settings) (unless (enough A.variables (graph_asked A).entries (room_of z.memory)) Refusals.Buffer) (resume_judged A z)

  answers : {j : Judged} {z' : Lent} → advance_finds A (length d) z ≡ j → z' ≡ lent_after A j z → Advances A z z' d d' j
  answers h w = record { answer = sym h; lent = w ∙ ap (λ j. lent_after A j z) (sym h); degrees = accepts.degrees }

  pub advances_refused : {r : Refusal} → a ≡ Err r → Advances A z z d d' (Err r)
  advances_refused e = answers (finds_is ∙ ap (λ j. or_else j (resume_judged A z)) (checked_refused before_record (settings (scaled A.settings)) (sym accepts.answer ∙ e))) refl

  module _ {s : Settings} (e : a ≡ Ok s) where
    told : checked before_record (settings (scaled A.settings)) ≡ Ok s
    told = sym accepts.answer ∙ e

    pub same : settings (scaled A.settings) ≡ s
    same = checked_same before_record (settings (scaled A.settings)) told

    passed : before_record ≡ Ok tt
    passed = checked_good before_record (settings (scaled A.settings)) told

    abbrev rest : Judged
    rest = or_else (unscaled_judged A.settings) (unless (enough A.variables (graph_asked A).entries (room_of z.memory)) Refusals.Buffer)

    graph_passed : graph_judged_in limits (graph_asked A) (length d) ≡ Ok tt
    graph_passed = or_else_left (graph_judged_in limits (graph_asked A) (length d)) rest passed

    rest_passed : rest ≡ Ok tt
    rest_passed = or_else_right (graph_judged_in limits (graph_asked A) (length d)) rest passed

    pub accepted_graph : Admitted (graph_asked A)
    accepted_graph = lent_admitted (graph_asked A) (length d) graph_passed

    pub accepted_degrees : Degrees (graph_asked A) d'
    accepted_degrees = counted_degrees (graph_asked A) _ accepted_graph (lent_counted limits (graph_asked A) (length d) d graph_passed accepts.degrees)

    pub accepted_settings : Admissible s
    unfolding settings_of
    accepted_settings = subst Admissible same (good_settings (scaled A.settings) (settings (scaled A.settings))
        (ap (λ j. checked j (settings (scaled A.settings))) (plain_judged A.settings ∙ or_else_left (unscaled_judged A.settings) _ rest_passed))).1

    pub accepted_long : Long (graph_asked A) z.memory
    accepted_long = long_told (graph_asked A) z.memory (unless_true (enough A.variables (graph_asked A).entries (room_of z.memory)) Refusals.Buffer (or_else_right (unscaled_judged A.settings) _ rest_passed))

    -- what is found of the record and the bytes
    module _ {j : Judged} (judged : j ≡ or_else (unless (admits s.limit A.count z.run) Refusals.Advance)
        (or_else (within_judged (largest s.channel) z.memory.levels A.variables)
        (or_else (within_judged (largest s.message) z.memory.variable_messages (graph_asked A).entries) (within_judged (largest s.message) z.memory.check_messages (graph_asked A).entries)))) where
      found : advance_finds A (length d) z ≡ j
      unfolding resume_judged
      found = finds_is ∙ ap (λ i. or_else i (resume_judged A z)) passed
          ∙ ap (λ (t : Settings). or_else (unless (admits t.limit A.count z.run) Refusals.Advance)
          (or_else (within_judged (largest t.channel) z.memory.levels A.variables)
          (or_else (within_judged (largest t.message) z.memory.variable_messages (graph_asked A).entries) (within_judged (largest t.message) z.memory.check_messages (graph_asked A).entries)))) same
          ∙ sym judged

      pub resume_refused : {r : Refusal} → j ≡ Err r → Advances A z z d d' (Err r)
      resume_refused h = answers (found ∙ h) refl

      module _ (h : j ≡ Ok tt) where
        pub advances_none : A.count ≡ 0 → Advances A z z d d' (Ok tt)
        advances_none n = answers (found ∙ h) (rw (eq-eqb A.count 0 n) refl)

        admitted : or_else (unless (admits s.limit A.count z.run) Refusals.Advance)
            (or_else (within_judged (largest s.channel) z.memory.levels A.variables)
            (or_else (within_judged (largest s.message) z.memory.variable_messages (graph_asked A).entries) (within_judged (largest s.message) z.memory.check_messages (graph_asked A).entries))) ≡ Ok tt
        admitted = sym judged ∙ h

        bytes : or_else (within_judged (largest s.message) z.memory.variable_messages (graph_asked A).entries) (within_judged (largest s.message) z.memory.check_messages (graph_asked A).entries) ≡ Ok tt
        bytes = or_else_right (within_judged (largest s.channel) z.memory.levels A.variables) _ (or_else_right (unless (admits s.limit A.count z.run) Refusals.Advance) _ admitted)

        pub variable_within : within_judged (largest s.message) z.memory.variable_messages (graph_asked A).entries ≡ Ok tt
        variable_within = or_else_left (within_judged (largest s.message) z.memory.variable_messages (graph_asked A).entries) _ bytes

        pub check_within_lem : within_judged (largest s.message) z.memory.check_messages (graph_asked A).entries ≡ Ok tt
        check_within_lem = or_else_right (within_judged (largest s.message) z.memory.variable_messages (graph_asked A).entries) _ bytes

        pub resumable_below : z.run.iterations < s.limit
        resumable_below =
            ltb-true z.run.iterations s.limit (and_left (ltb z.run.iterations s.limit) (leb A.count s.limit)
            (and_right (is_open z.run.standing) (ltb z.run.iterations s.limit && leb A.count s.limit)
            (unless_true (admits s.limit A.count z.run) Refusals.Advance (or_else_left (unless (admits s.limit A.count z.run) Refusals.Advance) _ admitted))))

        pub advances_on : (A.count ≡ 0 → ⊥) → {r : Run} {M' : Memory}
            → AdvancesInto (graph_asked A) (rules_under s (graph_asked A) (level_in (take A.variables z.memory.levels))) s.limit A.count
            (handed z.run (take (graph_asked A).entries z.memory.variable_messages) (take (graph_asked A).entries z.memory.check_messages)) r z.memory M'
            → Advances A z (lent r M') d d' (Ok tt)
        advances_on n {r} {M'} w = answers (found ∙ h) (ap₂ lent run.run run.memory ∙ ap (λ b. cond b z (lent (record_of (graph_asked A) (limit_asked A) (state_after A z)) (refilled A.variables (graph_asked A).entries (state_after A z) z.memory))) (sym (ne_eqb A.count 0 n)))
          where
            run : AdvancesInto (graph_asked A) (scheme_asked A z.memory.levels) (limit_asked A) A.count
                (handed z.run (take (graph_asked A).entries z.memory.variable_messages) (take (graph_asked A).entries z.memory.check_messages)) r z.memory M'
            run = subst (λ (t : Settings). AdvancesInto (graph_asked A) (rules_under t (graph_asked A) (level_in (take A.variables z.memory.levels))) t.limit A.count
                (handed z.run (take (graph_asked A).entries z.memory.variable_messages) (take (graph_asked A).entries z.memory.check_messages)) r z.memory M') (sym same) w
