-- The refusals of decode, in their order.
use Rattle.std.specs.Prelude.{Ok, Err}
use mathlib.Core.Path.{◌≡◌, refl, sym, ap, ◌∙◌}
use mathlib.Core.Bool.{Bool, true, false, not}
use mathlib.Core.List.{List}
use Prim.Native.Nat.{ℕ, ◌*◌, ◌/◌, ◌≤◌, ◌<◌}
use native.Mathlib.Omega.{arith}
use borrow.Author.Tests.{eq-eqb, ne_eqb, eqb-true, leb-true}
use lib.Dec.{eqb, leb}
use lib.ListN.{length}
use Rattle.rules.specs.Levels.{largest}
use Rattle.rules.specs.Graphs.{limits}
use Rattle.refusals.specs.Refusals.{unless, or_else, Judged}
use Rattle.refusals.specs.declared.Refusal.{Refusal}
use Rattle.refusals.specs.declared.Refusal.TheVariants.{Length, Blank, Buffer}
use Rattle.refusals.proofs.Judging.{or_else_left, or_else_right, or_else_none, unless_true}
use Rattle.rules.proofs.Tests.{and_left, and_right}
use Rattle.rules.proofs.Own.{largest_within, largest_some}
use Rattle.graphs.specs.Degrees as Lent
use Rattle.graphs.proofs.Wider.{found_before}
use Rattle.settings.specs.declared.Settings.{Settings}
use Rattle.settings.specs.Settings.{Checked, settings, settings_judged, checked, settings_of}
use Rattle.settings.proofs.Accepted.{good_settings}
use Rattle.settings.specs.Values.{values_judged, blank_values}
use Rattle.decoding.specs.declared.Room.{Room}
use Rattle.decoding.specs.Decoding.{Frame, graph, enough, asked_judged, is_blank, frame_judged, decode_judged, decode_finds, Accepts, AsBefore, ExposedAsBefore}

-- what is judged after the graph
module _ (F : Frame) where
  pub length_refused : (length F.values / 4 ≡ F.variables → ⊥) → asked_judged F ≡ Err (Length (length F.values / 4))
  length_refused h = rw (ne_eqb (length F.values / 4) F.variables h)

  module _ (l : length F.values / 4 ≡ F.variables) where
    pub settings_refused : {r : Refusal} → settings_judged F.asked ≡ Err r → asked_judged F ≡ Err r
    settings_refused c = rw (eq-eqb (length F.values / 4) F.variables l, c)

    -- what is left is the values
    pub values_judged_lem : {j : Judged} → settings_judged F.asked ≡ Ok tt → values_judged F.values ≡ j → asked_judged F ≡ j
    values_judged_lem c d = rw (eq-eqb (length F.values / 4) F.variables l, c, d)

-- where g is found of the graph, up to the memory
module _ (F : Frame) (g : Judged) where
  pub frame_asked : {r : Refusal} → g ≡ Ok tt → asked_judged F ≡ Err r → frame_judged F g ≡ Err r
  unfolding frame_judged
  frame_asked a h = rw (a, h)

  -- what is left is the exposure
  pub frame_exposed : {b : Bool} → g ≡ Ok tt → asked_judged F ≡ Ok tt → is_blank F ≡ b → frame_judged F g ≡ unless (not b) Blank
  unfolding frame_judged
  frame_exposed a h e = rw (a, h, e)

  pub frame_passed : frame_judged F g ≡ Ok tt → (g ≡ Ok tt) × (asked_judged F ≡ Ok tt)
  unfolding frame_judged
  frame_passed h =
      let exposed = unless (not (is_blank F)) Blank in
      (or_else_left g (or_else (asked_judged F) exposed) h, or_else_left (asked_judged F) exposed (or_else_right g (or_else (asked_judged F) exposed) h))

  module _ (m : Room) where
    pub graph_refused : {r : Refusal} → g ≡ Err r → decode_judged F g m ≡ Err r
    unfolding frame_judged decode_judged
    graph_refused a = rw a

    pub frame_refused : {r : Refusal} → frame_judged F g ≡ Err r → decode_judged F g m ≡ Err r
    unfolding decode_judged
    frame_refused a = rw a

    module _ (a : frame_judged F g ≡ Ok tt) where
      pub memory_refused : enough F.variables (graph F).entries m ≡ false → decode_judged F g m ≡ Err Buffer
      unfolding decode_judged
      memory_refused b = rw (a, b)

      pub all_admitted : enough F.variables (graph F).entries m ≡ true → decode_judged F g m ≡ Ok tt
      unfolding decode_judged
      all_admitted b = rw (a, b)

-- the answer of `accept`, once its judgement j is known; the list is as the check of the graph left it
pub accepts_as : (F : Frame) (m : Room) {r : Judged} {old now : List ℕ} {j : Judged} {a : Checked} → Lent.Checks limits (graph F) r old now
    → decode_finds F (length old) m ≡ j → a ≡ checked j (settings F.asked) → Accepts F m a old now
accepts_as F m k h q = record { answer = q ∙ ap (λ j. checked j (settings F.asked)) (sym h); degrees = k.degrees }

-- and of `accept_on`
pub answered : (F : Frame) (m : Room) {j : Judged} {a : Checked} → decode_judged F (Ok tt) m ≡ j → a ≡ checked j (settings F.asked) → a ≡ checked (decode_judged F (Ok tt) m) (settings F.asked)
answered F m h q = q ∙ ap (λ j. checked j (settings F.asked)) (sym h)

-- on graphs within the old limits nothing else is found than before
pub as_before : AsBefore
as_before F d m o = ap (λ g. decode_judged F g m) (found_before (graph F) d o)

-- and what is not blank is judged as before there was 20
pub exposed_as_before : ExposedAsBefore
unfolding frame_judged
exposed_as_before F g e = rw e (ap (or_else g) (or_else_none (asked_judged F)))

-- what the answer of the settings' check tells
pub checked_refused : (j : Judged) (s : Settings) {r : Refusal} → checked j s ≡ Err r → j ≡ Err r
checked_refused (Ok _) s h = let z : ◌≡◌ {A = ℕ} 0 1 = cc in absurd (omega arith)
checked_refused (Err x) s h = ap Err (cc)

pub checked_good : (j : Judged) (s : Settings) {t : Settings} → checked j s ≡ Ok t → j ≡ Ok tt
checked_good (Ok _) s h = refl
checked_good (Err x) s h = let z : ◌≡◌ {A = ℕ} 0 1 = cc in absurd (omega arith)

-- the test of the values under settings that were checked
pub blank_told : (F : Frame) {s : Settings} {b : Bool} → settings_of F.asked ≡ Ok s
    → ((N : ℕ) → 1 ≤ N → N < 128 → b ≡ blank_values N s.factor F.values) → is_blank F ≡ b
blank_told F {s} {b} e told =
    let good = good_settings F.asked s e in
    let bits : s.channel ≡ F.asked.channel = ap (λ (t : Settings). t.channel) good.0 in
    let N : ℕ = largest F.asked.channel in
    ap (λ (t : Settings). blank_values N t.factor F.values) (sym good.0)
    ∙ sym (told N (largest_some F.asked.channel (omega (arith, good.1.channel))) (omega (arith, largest_within F.asked.channel (omega (arith, good.1.channel)))))

-- what memory that is long enough has
pub enough_told : (n E : ℕ) (m : Room) → enough n E m ≡ true → (n ≤ m.levels) × (E ≤ m.variable_messages) × (E ≤ m.check_messages) × (4 * n ≤ m.sums) × (n ≤ m.bits)
enough_told n E m h =
    let h₁ = and_right (leb n m.levels) _ h in
    let h₂ = and_right (leb E m.variable_messages) _ h₁ in
    let h₃ = and_right (leb E m.check_messages) _ h₂ in (
      leb-true n m.levels (and_left (leb n m.levels) _ h),
      leb-true E m.variable_messages (and_left (leb E m.variable_messages) _ h₁),
      leb-true E m.check_messages (and_left (leb E m.check_messages) _ h₂),
      leb-true (4 * n) m.sums (and_left (leb (4 * n) m.sums) _ h₃),
      leb-true n m.bits (and_right (leb (4 * n) m.sums) _ h₃),
    )

-- ---- what an accepted frame tells

pub asked_told : (F : Frame) → asked_judged F ≡ Ok tt → (length F.values / 4 ≡ F.variables) × (settings_judged F.asked ≡ Ok tt) × (values_judged F.values ≡ Ok tt)
asked_told F h = (
  eqb-true count F.variables (unless_true (eqb count F.variables) (Length count) (or_else_left counted others h)),
  or_else_left s v (or_else_right counted others h),
  or_else_right s v (or_else_right counted others h),
)
  where
    count : ℕ
    count = length F.values / 4

    s : Judged
    s = settings_judged F.asked

    v : Judged
    v = values_judged F.values

    counted : Judged
    counted = unless (eqb count F.variables) (Length count)

    others : Judged
    others = or_else s v

pub limit_small : (F : Frame) → settings_judged F.asked ≡ Ok tt → F.asked.limit ≤ 255
unfolding settings_of
limit_small F h = (good_settings F.asked (settings F.asked) (ap (λ j. checked j (settings F.asked)) h)).1.limit

pub memory_told : (F : Frame) (g : Judged) (m : Room) → decode_judged F g m ≡ Ok tt → (frame_judged F g ≡ Ok tt) × (enough F.variables (graph F).entries m ≡ true)
unfolding decode_judged
memory_told F g m h =
    let room = unless (enough F.variables (graph F).entries m) Buffer in (
      or_else_left (frame_judged F g) room h,
      unless_true (enough F.variables (graph F).entries m) Buffer (or_else_right (frame_judged F g) room h),
    )

pub checked_same : (j : Judged) (s : Settings) {t : Settings} → checked j s ≡ Ok t → s ≡ t
checked_same (Ok _) s h = cc
checked_same (Err x) s h = let z : ◌≡◌ {A = ℕ} 0 1 = cc in absurd (omega arith)
