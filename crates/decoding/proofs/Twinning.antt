-- Demand 3 over the values.
use mathlib.Core.Path.{◌≡◌, sym, ap, ap₂, ◌∙◌}
use mathlib.Core.Bool.{Bool, not}
use Prim.Native.Nat.{ℕ, ◌/◌}
use lib.Dec.{eqb}
use Rattle.rules.specs.Levels.{largest}
use Rattle.rules.specs.Graphs.{limits}
use Rattle.refusals.specs.Refusals.{unless, or_else, Judged}
use Rattle.rules.specs.Symmetry.{Symmetric}
use Rattle.refusals.specs.declared.Refusal.TheVariants.{Length, Blank}
use Rattle.rules.proofs.Codewords.{symmetry}
use Rattle.graphs.specs.Judging.{graph_judged}
use Rattle.graphs.proofs.Meaning.{graph_admitted}
use Rattle.settings.specs.Scaling.{factor_of}
use Rattle.settings.specs.Settings.{settings_judged}
use Rattle.settings.specs.Reversal.{Bytes}
use Rattle.settings.proofs.Reversing.{length_reversed, reversed_judged, reversed_levels, reversed_blank}
use Rattle.decoding.specs.Decoding.{Frame, graph, levels, offsets_of, lifting_of, asked_judged, is_blank, frame_judged}
use Rattle.decoding.specs.Symmetry.{reversed_by, Accepted, Demand3}
use Rattle.decoding.proofs.Accepting.{frame_passed, asked_told}

module _ (F : Frame) (bytes : Bytes F.values) (c : ℕ → Bool) where
  blank_kept : is_blank (reversed_by c F) ≡ is_blank F
  blank_kept = reversed_blank c F.values bytes (largest F.asked.channel) (factor_of F.asked.scaling)

  asked_kept : asked_judged (reversed_by c F) ≡ asked_judged F
  asked_kept =
      ap₂ (λ (k : ℕ) (v : Judged). or_else (unless (eqb k F.variables) (Length k)) (or_else (settings_judged F.asked) v))
      (ap (λ k. k / 4) (length_reversed c F.values)) (reversed_judged c F.values bytes)

  -- the same refusal, or none
  pub judged_kept : (g : Judged) → frame_judged (reversed_by c F) g ≡ frame_judged F g
  unfolding frame_judged
  judged_kept g = ap₂ (λ (j : Judged) (b : Bool). or_else g (or_else j (unless (not b) Blank))) asked_kept blank_kept

  mirrored : Accepted F → Symmetric (graph F) (largest F.asked.message) (offsets_of F) (lifting_of F) c (levels F) (levels (reversed_by c F))
  mirrored h =
      let passed = frame_passed F (graph_judged limits (graph F)) h in
      let asked = asked_told F passed.1 in
      symmetry (graph F) (graph_admitted (graph F) passed.0) (largest F.asked.message) (offsets_of F) (lifting_of F) c (levels F) (levels (reversed_by c F))
      (λ v l. reversed_levels c F.values bytes asked.2 (largest F.asked.channel) (factor_of F.asked.scaling) v (rw asked.0 l))

pub demand3 : Demand3
demand3 F bytes c = record {
  blank = blank_kept F bytes c;
  accepted = (λ h. sym kept ∙ h, λ h. kept ∙ h);
  symmetric = mirrored F bytes c;
}
  where
    kept : frame_judged (reversed_by c F) (graph_judged limits (graph F)) ≡ frame_judged F (graph_judged limits (graph F))
    kept = judged_kept F bytes c (graph_judged limits (graph F))
