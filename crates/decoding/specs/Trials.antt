-- Document 01, 'Trial values': every ★ case, the trial of document 02, item 1, and the whole example with its variants from their values, blank
-- ones among them, gathered under one table test.
use Rattle.std.specs.Prelude.{Bool, true, false, List, [], ◌∷◌, ◌++◌, map, ℕ, Ok, Err}
use Rattle.std.specs.Float.{binary32}
use Rattle.std.specs.Float.Ieee.{of_bits}
use Rattle.rules.specs.Tables.{AllPass, same_list}
use Rattle.rules.specs.Graphs.{limits}
use Rattle.rules.specs.Sequence.{final}
use Rattle.rules.specs.Nodes.{never}
use Rattle.rules.specs.Trials as Nodes
use Rattle.rules.specs.Trials.{verdict_number, bit_numbers}
use Rattle.refusals.specs.Refusals.{paper}
use Rattle.rules.specs.declared.Verdict.{Verdict}
use Rattle.rules.specs.declared.Verdict.TheVariants.{Codeword, Stopped}
use Rattle.words.specs.Words.{bytes}
use Rattle.words.specs.Roles.{wide}
use Rattle.graphs.specs.Judging.{graph_judged}
use Rattle.settings.specs.declared.Scaling.TheVariants.{Plain}
use Rattle.settings.specs.Settings.{largest_lift}
use Rattle.settings.specs.Trials as Levels
use Rattle.decoding.specs.Decoding.{Frame, graph, scheme, frame_judged, decoded, Decoded}
use Rattle.decoding.specs.Frames.{frame}

pub data Trial : Type 0 where
  -- a channel value and its level
  value : Levels.Trial → Trial
  -- a variable node, a check node, or a run from its levels
  node : Nodes.Trial → Trial
  -- the example's graph and settings with these values, as bit patterns, and this limit: verdict, iterations, unsatisfied checks, bits
  decodes : List ℕ → ℕ → Verdict → ℕ → ℕ → List Bool → Trial
  -- the same, refused: number and place
  refuses : List ℕ → ℕ → ℕ → ℕ → Trial

-- Numbers as bytes, lowest first.
unfoldable pub in_bytes : ℕ → List ℕ → List ℕ
in_bytes w [] = []
in_bytes w (x ∷ xs) = bytes w x ++ in_bytes w xs

-- 'Sheet lines .. `0 0`, `0 1`, `1 1`, `1 2`. Run text lines .. `3f800000 3 3 1 1 0 5`.'
unfoldable pub example : List ℕ → ℕ → Frame
example values limit =
    frame 3 (in_bytes wide (0 ∷ 2 ∷ 4 ∷ [])) (in_bytes wide (0 ∷ 1 ∷ 1 ∷ 2 ∷ [])) (in_bytes 4 values)
    (record {
      scaling = Plain (of_bits binary32 0x3f80_0000);
      channel = 3;
      message = 3;
      phi_s = 1;
      phi_a = 1;
      phi_0 = 0;
      limit = limit;
      lift_from = never;
      lift_to = largest_lift;
    })

unfoldable pub trials : List Trial
trials =
    map value Levels.trials ++ (map node Nodes.trials ++
    (decodes (0x4020_0000 ∷ 0xbf00_0000 ∷ 0x3fc0_0000 ∷ []) 5 Codeword 1 0 (false ∷ false ∷ false ∷ [])
    ∷ decodes (0xc020_0000 ∷ 0x3f00_0000 ∷ 0xbfc0_0000 ∷ []) 5 Codeword 1 0 (true ∷ true ∷ true ∷ [])
    ∷ decodes (0x4020_0000 ∷ 0xbf00_0000 ∷ 0x3fc0_0000 ∷ []) 0 Stopped 0 2 (false ∷ true ∷ false ∷ [])
    -- all +0.0, all -0.0, and all at the first threshold
    ∷ refuses (0 ∷ 0 ∷ 0 ∷ []) 5 20 0
    ∷ refuses (0x8000_0000 ∷ 0x8000_0000 ∷ 0x8000_0000 ∷ []) 5 20 0
    ∷ refuses (0x3f80_0000 ∷ 0xbf80_0000 ∷ 0x3f80_0000 ∷ []) 5 20 0
    -- one magnitude of 1
    ∷ decodes (0xbf80_0001 ∷ 0 ∷ 0 ∷ []) 5 Codeword 2 0 (true ∷ true ∷ true ∷ [])
    ∷ decodes (0 ∷ 0 ∷ 0x3f80_0001 ∷ []) 5 Codeword 0 0 (false ∷ false ∷ false ∷ [])
    -- 12 comes first
    ∷ refuses (0 ∷ 0x7f80_0000 ∷ 0 ∷ []) 5 12 1
    ∷ []))

-- What decode answers, lent long enough buffers: the verdict, iterations and unsatisfied checks, or the refusal's number and place.
unfoldable pub answered : Decoded → List ℕ
answered (Ok r) = verdict_number r.verdict ∷ r.iterations ∷ r.unsatisfied ∷ []
answered (Err r) = (paper r).number ∷ (paper r).place ∷ []

unfoldable pub answer : Frame → List ℕ
answer F = answered (decoded F (frame_judged F (graph_judged limits (graph F))))

unfoldable pub passes : Trial → Bool
passes (value t) = Levels.passes t
passes (node t) = Nodes.passes t
passes (decodes values limit verdict t u b) =
    let F : Frame = example values limit in
    same_list (answer F ++ bit_numbers (final (graph F) (scheme F) limit).bits) (verdict_number verdict ∷ t ∷ u ∷ bit_numbers b)
passes (refuses values limit number place) = same_list (answer (example values limit)) (number ∷ place ∷ [])

abbrev pub TrialsPass : Type 0
TrialsPass = AllPass passes trials
