-- Document 01, 'Decode', and document 02, items 1, 4 and 9: what is refused, what is answered, and what the lent memory then holds.
use Rattle.std.specs.Prelude.{◌≡◌, Bool, false, not, ◌&&◌, List, ◌++◌, map, ℕ, ◌*◌, ◌/◌, eqb, leb, pos, length, get_or, drop, Ok, Err, Result}
use Rattle.rules.specs.Ranges.{one, tabulate}
use Rattle.rules.specs.Levels.{Level, byte, largest}
use Rattle.rules.specs.Graphs.{Graph, limits, program_limits}
use Rattle.rules.specs.Nodes.{Offsets, Lifting, never}
use Rattle.rules.specs.Sequence.{Scheme, State, unlifted, sign_preserving, final, report}
use Rattle.refusals.specs.Refusals.{unless, or_else, Judged}
use Rattle.refusals.specs.declared.Refusal.TheVariants.{Length, Blank, Buffer}
use Rattle.words.specs.Roles.{sum_table, graph_of}
use Rattle.graphs.specs.Judging.{graph_judged, countable, graph_judged_in}
use Rattle.graphs.specs.Degrees.{degrees_in}
use Rattle.graphs.specs.Calls.{Old}
use Rattle.settings.specs.declared.Parameters.{Parameters}
use Rattle.settings.specs.Settings.{Checked, largest_lift, settings, judged_with, settings_judged, checked}
use Rattle.settings.specs.Scaling.{factor_of}
use Rattle.settings.specs.Values.{values_judged, channel_level, blank_values}
use Rattle.decoding.specs.declared.Room.{Room}
use Rattle.refusals.specs.declared.Refusal.{Refusal}
use Rattle.rules.specs.declared.Report.{Report}

-- The report of a run, or the refusal.
abbrev pub Decoded : Type 0
Decoded = Result Report Refusal

-- One frame: the graph in its lists, the channel values, and what is asked of the run.
pub record Frame : Type 0 where
  pub variables : ℕ
  pub starts : List ℕ
  pub columns : List ℕ
  pub values : List ℕ
  pub asked : Parameters

-- The lent memory: levels, both message lists, sums and bits. (The list of degrees stands beside it.)
pub record Memory : Type 0 where
  pub levels : List ℕ
  pub variable_messages : List ℕ
  pub check_messages : List ℕ
  pub sums : List ℕ
  pub bits : List ℕ

-- Its lengths.
abbrev pub room_of : Memory → Room
room_of M = record {
  levels = length M.levels;
  variable_messages = length M.variable_messages;
  check_messages = length M.check_messages;
  sums = length M.sums;
  bits = length M.bits;
}

-- 'Levels (n bytes), both message lists (E bytes each), sums (n) and bits (n bytes).' A sum is four bytes.
abbrev pub enough : ℕ → ℕ → Room → Bool
enough n E m =
    leb n m.levels && (leb E m.variable_messages && (leb E m.check_messages && (leb (4 * n) m.sums && leb n m.bits)))

-- What the memory holds after a run on n variables and E entries with the channel levels y, that ends in the state σ. 'Bytes past these
-- lengths do not change.'
abbrev pub filled : ℕ → ℕ → (ℕ → Level) → State → Memory → Memory
filled n E y σ M = record {
  levels = tabulate (λ v. byte (y v)) n ++ drop n M.levels;
  variable_messages = map byte σ.variable_messages ++ drop E M.variable_messages;
  check_messages = map byte σ.check_messages ++ drop E M.check_messages;
  sums = sum_table (λ v. get_or σ.sums v (pos 0)) n ++ drop (4 * n) M.sums;
  bits = map one σ.bits ++ drop n M.bits;
}

module _ (F : Frame) where
  abbrev pub graph : Graph
  graph = graph_of F.variables F.starts F.columns

  -- The channel level of each variable.
  abbrev pub levels : ℕ → Level
  levels v = channel_level (largest F.asked.channel) (factor_of F.asked.scaling) F.values v

  abbrev pub offsets_of : Offsets
  offsets_of = record { phi_s = F.asked.phi_s; phi_a = F.asked.phi_a; phi_0 = F.asked.phi_0 }

  abbrev pub lifting_of : Lifting
  lifting_of = record { from = F.asked.lift_from; to = F.asked.lift_to }

  -- The rules of the run.
  abbrev pub scheme : Scheme
  scheme = sign_preserving graph (largest F.asked.message) offsets_of lifting_of levels

  -- '13, other than n values (their number); 8, precisions not admitted; 9, an offset above 1 or limit above 255'; 16, W or L outside its bounds;
  -- '10, gain or variance not finite and above zero; 11, factor infinite or zero; 12, a value infinite or NaN (first index).'
  abbrev pub asked_judged : Judged
  asked_judged =
      or_else (unless (eqb (length F.values / 4) F.variables) (Length (length F.values / 4)))
      (or_else (settings_judged F.asked)
      (values_judged F.values))

  -- 'A frame whose channel magnitudes are all 0 is now blank.'
  abbrev pub is_blank : Bool
  is_blank = blank_values (largest F.asked.channel) (factor_of F.asked.scaling) F.values

  -- 'The graph's ..', where g is what is found of the graph, then these; then 20, a blank frame, 'after 12 and before 6'.
  unfoldable pub frame_judged : Judged → Judged
  frame_judged g = or_else g (or_else asked_judged (unless (not is_blank) Blank))

  -- '6, a lent buffer too short.'
  unfoldable pub decode_judged : Judged → Room → Judged
  decode_judged g m = or_else (frame_judged g) (unless (enough F.variables graph.entries m) Buffer)

  -- What decode finds: a list of d bytes is lent for the variables' degrees, and memory of the lengths m.
  abbrev pub decode_finds : ℕ → Room → Judged
  decode_finds d m = decode_judged (graph_judged_in limits graph d) m

  -- The answer, and the memory afterwards: 'every refusal changes no lent byte' of it.
  abbrev pub decoded : Judged → Decoded
  decoded (Ok _) = Ok (report graph scheme F.asked.limit)
  decoded (Err r) = Err r

  abbrev pub memory_after : Judged → Memory → Memory
  memory_after (Ok _) M = filled F.variables graph.entries levels (final graph scheme F.asked.limit) M
  memory_after (Err r) M = M

-- What accepting a frame for memory of the lengths m promises of its answer r and of the list of degrees, old before and now after.
pub record Accepts (F : Frame) (m : Room) (r : Checked) (old now : List ℕ) : Type 0 where
  pub answer : r ≡ checked (decode_finds F (length old) m) (settings F.asked)
  pub degrees : now ≡ degrees_in (countable limits (graph F) (length old)) (graph F) old

-- What decode promises of its answer r, of the memory, M before and M' after, and of the list of degrees, d before and d' after.
pub record Decodes (F : Frame) (M M' : Memory) (d d' : List ℕ) (r : Decoded) : Type 0 where
  pub answer : r ≡ decoded F (decode_finds F (length d) (room_of M))
  pub memory : M' ≡ memory_after F (decode_finds F (length d) (room_of M)) M
  pub degrees : d' ≡ degrees_in (countable limits (graph F) (length d)) (graph F) d

-- Document 02, item 9: 'graphs within the old limits get the same answers as before where that list is long enough'. Before, the graph's five
-- came first, at the old limits; answer and memory are functions of what decode finds.
abbrev pub AsBefore : Type 0
AsBefore = (F : Frame) (d : ℕ) (m : Room) → Old (graph F) d
    → decode_finds F d m ≡ decode_judged F (graph_judged program_limits (graph F)) m

-- Document 02, item 1: where L is 256 nothing is lifted. The rules of the run are those of before, whatever W; and with the W of the run text, 15,
-- the settings are judged as they were before there was 16. Answer and memory are functions of these two, of the graph and of the values.
pub record NothingLifted (F : Frame) : Type 0 where
  pub rules : scheme F ≡ unlifted (graph F) (largest F.asked.message) (offsets_of F) (levels F)
  pub settings : F.asked.lift_to ≡ largest_lift → settings_judged F.asked ≡ judged_with F.asked (Ok tt)

abbrev pub UnliftedAsBefore : Type 0
UnliftedAsBefore = (F : Frame) → F.asked.lift_from ≡ never → NothingLifted F

-- Document 02, item 4: what is not blank is judged as it was before there was 20, whatever is found of the graph. Answer and memory are functions
-- of this, of the lent lengths, the rules and the levels.
abbrev pub ExposedAsBefore : Type 0
ExposedAsBefore = (F : Frame) (g : Judged) → is_blank F ≡ false → frame_judged F g ≡ or_else g (asked_judged F)
