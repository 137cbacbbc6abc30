-- Document 02, item 7: a pair of frames, what is refused of it, what is answered, and every lent byte afterwards.
use Rattle.std.specs.Prelude.{◌≡◌, List, ℕ, length, Ok, Err, Result}
use Rattle.rules.specs.Graphs.{Graph, limits, between}
use Rattle.rules.specs.Sequence.{stop, final, report}
use Rattle.refusals.specs.Refusals.{unless, Judged}
use Rattle.refusals.specs.declared.Refusal.{Refusal}
use Rattle.refusals.specs.declared.Refusal.TheVariants as Refusals
use Rattle.rules.specs.declared.Report.{Report}
use Rattle.words.specs.Roles.{graph_of}
use Rattle.graphs.specs.Judging.{countable}
use Rattle.graphs.specs.Degrees.{degrees_in}
use Rattle.settings.specs.declared.Parameters.{Parameters}
use Rattle.settings.specs.declared.Settings.{Settings}
use Rattle.settings.specs.Settings.{settings}
use Rattle.decoding.specs.declared.Heads as Lent
use Rattle.decoding.specs.declared.Room.{Room}
use Rattle.decoding.specs.Decoding.{Frame, Memory, room_of, filled, graph, levels, scheme, decode_finds}
use Rattle.decoding.specs.Frames.{frame}
use Rattle.decoding.specs.declared.Party.{Party}
use Rattle.decoding.specs.declared.Party.TheVariants.{First, Second, Pair}
use Rattle.decoding.specs.Pairing.Grants.{grant, half_up, half_down}

-- The reports of the first and the second head, or whose refusal it is and the refusal.
abbrev pub Paired : Type 0
Paired = Result (Report × Report) (Party × Refusal)

-- The settings of both, or the same.
abbrev pub CheckedPair : Type 0
CheckedPair = Result (Settings × Settings) (Party × Refusal)

-- What one head reads, and what is asked of its run.
pub record Head : Type 0 where
  pub values : List ℕ
  pub asked : Parameters

-- 'Two heads reading the same graph, and one allowance T of iterations per pair of frames.'
pub record Heads : Type 0 where
  pub variables : ℕ
  pub starts : List ℕ
  pub columns : List ℕ
  pub allowance : ℕ
  pub first : Head
  pub second : Head

abbrev pub heads : ℕ → List ℕ → List ℕ → ℕ → List ℕ → Parameters → List ℕ → Parameters → Heads
heads n starts columns T values asked values' asked' = record {
  variables = n;
  starts = starts;
  columns = columns;
  allowance = T;
  first = record { values = values; asked = asked };
  second = record { values = values'; asked = asked' };
}

-- The heads that are lent.
abbrev pub heads_lent : Lent.Heads → Heads
heads_lent h =
    heads h.graph.variables h.graph.starts.now h.graph.columns.now h.allowance h.first.values.now h.first.asked h.second.values.now h.second.asked

-- 'What each would take alone under its limit': the iteration count of decode's report.
abbrev pub alone : Frame → ℕ
alone F = stop (graph F) (scheme F) F.asked.limit

-- 'That grant serves as its limit in the rules': the report of a frame with the limit g, and what the memory then holds.
abbrev pub report_with : Frame → ℕ → Report
report_with F g = report (graph F) (scheme F) g

abbrev pub memory_with : Frame → ℕ → Memory → Memory
memory_with F g M = filled F.variables (graph F).entries (levels F) (final (graph F) (scheme F) g) M

-- 'A head's bits, messages and numbers depend on the other head only through the count that the other takes alone.'
abbrev pub head_report : ℕ → ℕ → Frame → ℕ → Report
head_report half T F other = report_with F (grant half T (alone F) other)

abbrev pub head_memory : ℕ → ℕ → Frame → ℕ → Memory → Memory
head_memory half T F other M = memory_with F (grant half T (alone F) other) M

-- What is found of a pair: nothing, or a refusal and whose it is.
pub data Found : Type 0 where
  admitted : Found
  refused : Party → Refusal → Found

-- What is refused of a party, else what is found of those after it.
abbrev pub found_of : Party → Judged → Found → Found
found_of p (Ok _) rest = rest
found_of p (Err r) rest = refused p r

-- '22, T outside 2 to 510.'
abbrev pub allowance_judged : ℕ → Judged
allowance_judged T = unless (between 2 T 510) Refusals.Allowance

-- The settings of both heads, where nothing is refused.
abbrev pub checked_pair : Found → Settings → Settings → CheckedPair
checked_pair admitted s s' = Ok (s, s')
checked_pair (refused p r) s s' = Err (p, r)

module _ (P : Heads) where
  abbrev pub graph_of_both : Graph
  graph_of_both = graph_of P.variables P.starts P.columns

  abbrev pub frame_of : Head → Frame
  frame_of h = frame P.variables P.starts P.columns h.values h.asked

  abbrev pub first_frame : Frame
  first_frame = frame_of P.first

  abbrev pub second_frame : Frame
  second_frame = frame_of P.second

  -- 'One refused head refuses the pair': 22 comes 'after both frames' own refusals, the first head's before the second's'. A list of d bytes is lent
  -- for the variables' degrees, and memory of the lengths m and m'.
  unfoldable pub pair_finds : ℕ → Room → Room → Found
  pair_finds d m m' =
      found_of First (decode_finds first_frame d m)
      (found_of Second (decode_finds second_frame d m')
      (found_of Pair (allowance_judged P.allowance) admitted))

  abbrev pub first_report : Report
  first_report = head_report (half_up P.allowance) P.allowance first_frame (alone second_frame)

  abbrev pub second_report : Report
  second_report = head_report (half_down P.allowance) P.allowance second_frame (alone first_frame)

  -- The answer, and the memory of each head afterwards: a refusal changes no byte of either.
  abbrev pub pair_answer : Found → Paired
  pair_answer admitted = Ok (first_report, second_report)
  pair_answer (refused p r) = Err (p, r)

  abbrev pub first_after : Found → Memory → Memory
  first_after admitted M = head_memory (half_up P.allowance) P.allowance first_frame (alone second_frame) M
  first_after (refused p r) M = M

  abbrev pub second_after : Found → Memory → Memory
  second_after admitted M = head_memory (half_down P.allowance) P.allowance second_frame (alone first_frame) M
  second_after (refused p r) M = M

-- What accepting a pair for memory of the lengths m and m' promises of its answer r and of the list of degrees, d before and d' after.
pub record AcceptsPair (P : Heads) (m m' : Room) (d d' : List ℕ) (r : CheckedPair) : Type 0 where
  pub answer : r ≡ checked_pair (pair_finds P (length d) m m') (settings P.first.asked) (settings P.second.asked)
  pub degrees : d' ≡ degrees_in (countable limits (graph_of_both P) (length d)) (graph_of_both P) d

-- What decoding a pair promises of its answer r, of the first head's memory, M before and M' after, of the second's, N and N', and of the list of
-- degrees, d and d'.
pub record DecodesPair (P : Heads) (M M' N N' : Memory) (d d' : List ℕ) (r : Paired) : Type 0 where
  pub answer : r ≡ pair_answer P (pair_finds P (length d) (room_of M) (room_of N))
  pub first : M' ≡ first_after P (pair_finds P (length d) (room_of M) (room_of N)) M
  pub second : N' ≡ second_after P (pair_finds P (length d) (room_of M) (room_of N)) N
  pub degrees : d' ≡ degrees_in (countable limits (graph_of_both P) (length d)) (graph_of_both P) d
