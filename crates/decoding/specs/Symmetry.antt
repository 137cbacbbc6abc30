-- Demand 3 of document 01, with document 02, item 4, over the values: one claim about all iterations and both runs, of the very functions in decode's contract.
use Rattle.std.specs.Prelude.{◌≡◌, Bool, ◌↔◌, ℕ, Ok}
use Rattle.rules.specs.Levels.{largest}
use Rattle.rules.specs.Graphs.{limits}
use Rattle.rules.specs.Symmetry.{Symmetric}
use Rattle.graphs.specs.Judging.{graph_judged}
use Rattle.settings.specs.Reversal.{Bytes, reversed}
use Rattle.decoding.specs.Decoding.{Frame, graph, levels, offsets_of, lifting_of, is_blank, frame_judged}

-- The frame with the sign bit of its values reversed exactly where c is 1.
abbrev pub reversed_by : (ℕ → Bool) → Frame → Frame
reversed_by c F = record {
  variables = F.variables;
  starts = F.starts;
  columns = F.columns;
  values = reversed c F.values;
  asked = F.asked;
}

-- 'Its graph, settings and values are accepted where decode, lent long enough buffers, refuses nothing.'
abbrev pub Accepted : Frame → Type 0
Accepted F = frame_judged F (graph_judged limits (graph F)) ≡ Ok tt

pub record Twins (F : Frame) (c : ℕ → Bool) : Type 0 where
  -- 'reversing signs .. never makes or cures a blank'
  pub blank : is_blank (reversed_by c F) ≡ is_blank F
  -- so the reversed frame is accepted exactly when the frame is
  pub accepted : Accepted (reversed_by c F) ↔ Accepted F
  -- of an accepted frame: c is a codeword exactly when every iteration is mirrored; for a codeword the runs agree whatever the limit; no outgoing
  -- sum is zero
  pub symmetric : Accepted F → Symmetric (graph F) (largest F.asked.message) (offsets_of F) (lifting_of F) c (levels F) (levels (reversed_by c F))

abbrev pub Demand3 : Type 0
Demand3 = (F : Frame) → Bytes F.values → (c : ℕ → Bool) → Twins F c
