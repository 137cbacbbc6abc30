-- Where the check of a frame ends: the answer, by what was found so far.
use Rattle.std.specs.Prelude.{Ok, Err}
use mathlib.Core.Path.{◌≡◌, refl, sym, ap, ◌∙◌}
use mathlib.Core.Bool.{Bool, true, false, not}
use Prim.Native.Nat.{ℕ, ◌/◌, ◌≤◌, ◌<◌}
use lib.ListN.{length}
use Rattle.refusals.specs.Refusals.{unless}
use Rattle.refusals.specs.declared.Refusal.{Refusal}
use Rattle.refusals.specs.declared.Refusal.TheVariants.{Length, Blank, Buffer}
use Rattle.settings.specs.declared.Settings.{Settings}
use Rattle.settings.specs.Settings.{Checked, settings, settings_judged, checked, settings_of}
use Rattle.settings.specs.Values.{values_judged, blank_values}
use Rattle.decoding.specs.declared.Room.{Room}
use Rattle.decoding.specs.Decoding.{Frame, graph, enough, frame_judged, decode_judged}
use Rattle.decoding.proofs.Accepting.{length_refused, settings_refused, values_judged_lem, frame_asked, frame_exposed, frame_refused, memory_refused, all_admitted, answered, checked_refused, checked_good, blank_told}

module _ (F : Frame) (m : Room) where
  -- the answer on a graph that is in order
  abbrev pub answer : Checked
  answer = checked (decode_judged F (Ok tt) m) (settings F.asked)

  frame_off : {r : Refusal} → frame_judged F (Ok tt) ≡ Err r → Err r ≡ answer
  frame_off h = answered F m (frame_refused F (Ok tt) m h) refl

  pub count_off : (length F.values / 4 ≡ F.variables → ⊥) → Err (Length (length F.values / 4)) ≡ answer
  count_off h = frame_off (frame_asked F (Ok tt) refl (length_refused F h))

  module _ (l : length F.values / 4 ≡ F.variables) where
    pub settings_off : {r : Refusal} → Err r ≡ settings_of F.asked → Err r ≡ answer
    unfolding settings_of
    settings_off h = frame_off (frame_asked F (Ok tt) refl (settings_refused F l (checked_refused (settings_judged F.asked) (settings F.asked) (sym h))))

    module _ {s : Settings} (e : Ok s ≡ settings_of F.asked) where
      settled : settings_judged F.asked ≡ Ok tt
      unfolding settings_of
      settled = checked_good (settings_judged F.asked) (settings F.asked) (sym e)

      pub values_off : {r : Refusal} → Err r ≡ values_judged F.values → Err r ≡ answer
      values_off h = frame_off (frame_asked F (Ok tt) refl (values_judged_lem F l settled (sym h)))

      module _ (v : Ok tt ≡ values_judged F.values) {b : Bool} (t : (N : ℕ) → 1 ≤ N → N < 128 → b ≡ blank_values N s.factor F.values) where
        exposed : frame_judged F (Ok tt) ≡ unless (not b) Blank
        exposed = frame_exposed F (Ok tt) refl (values_judged_lem F l settled (sym v)) (blank_told F (sym e) t)

        pub blank_off : b ≡ true → Err Blank ≡ answer
        blank_off h = frame_off (exposed ∙ ap (λ b. unless (not b) Blank) h)

        module _ (no : b ≡ false) {E : ℕ} (p : E ≡ (graph F).entries) {k : Bool} (q : k ≡ enough F.variables E m) where
          told : enough F.variables (graph F).entries m ≡ k
          told = sym (q ∙ ap (λ E. enough F.variables E m) p)

          passed : frame_judged F (Ok tt) ≡ Ok tt
          passed = exposed ∙ ap (λ b. unless (not b) Blank) no

          pub memory_off : k ≡ false → Err Buffer ≡ answer
          memory_off h = answered F m (memory_refused F (Ok tt) m passed (told ∙ h)) refl

          pub accepted : k ≡ true → Ok s ≡ answer
          unfolding settings_of
          accepted h = answered F m (all_admitted F (Ok tt) m passed (told ∙ h)) (e ∙ ap (λ j. checked j (settings F.asked)) settled)
