-- Document 02, item 6, on lent memory: what begin and advance refuse, what they answer, and every lent byte afterwards.
use Rattle.std.specs.Prelude.{◌≡◌, cond, List, [], ◌++◌, map, ℕ, ◌*◌, eqb, leb, pos, length, get_or, take, drop, Ok, Err, Result}
use Rattle.rules.specs.Ranges.{one}
use Rattle.rules.specs.Levels.{byte, level_of, largest}
use Rattle.rules.specs.Graphs.{Graph, limits}
use Rattle.rules.specs.Nodes.{Offsets, Lifting}
use Rattle.rules.specs.Sequence.{Scheme, State, sign_preserving, begun}
use Rattle.rules.specs.Halting.{resumed}
use Rattle.refusals.specs.Refusals.{unless, or_else, each, Judged}
use Rattle.refusals.specs.declared.Refusal.TheVariants as Refusals
use Rattle.words.specs.Roles.{sum_table, graph_of}
use Rattle.words.specs.declared.Graph as Lists
use Rattle.graphs.specs.Judging.{countable, graph_judged_in}
use Rattle.graphs.specs.Degrees.{degrees_in}
use Rattle.settings.specs.declared.Parameters.{Parameters}
use Rattle.settings.specs.declared.Scaling.TheVariants.{Plain}
use Rattle.settings.specs.Scaling.{whole}
use Rattle.settings.specs.Settings.{precisions_admitted, options_admitted, lifting_admitted}
use Rattle.nodes.specs.Memory.{level_in}
use Rattle.decoding.specs.Decoding.{Frame, Memory, room_of, enough, graph, levels, scheme, decode_finds, filled}
use Rattle.pausing.specs.declared.Run.{Run}
use Rattle.pausing.specs.declared.Unscaled.{Unscaled}
use Rattle.pausing.specs.Records.{record_of, admits}
use Rattle.refusals.specs.declared.Refusal.{Refusal}

-- ---- begin

-- The record of a begun run, or the refusal.
abbrev pub Begun : Type 0
Begun = Result Run Refusal

-- 'Begin refuses as decode', and leaves iteration 0 in the lent memory.
abbrev pub begun_answer : Frame → Judged → Begun
begun_answer F (Ok _) = Ok (record_of (graph F) F.asked.limit (begun (graph F) (scheme F)))
begun_answer F (Err r) = Err r

abbrev pub begun_memory : Frame → Judged → Memory → Memory
begun_memory F (Ok _) M = filled F.variables (graph F).entries (levels F) (begun (graph F) (scheme F)) M
begun_memory F (Err r) M = M

-- What begin promises of its answer r, of the memory, M before and M' after, and of the list of degrees, d before and d' after.
pub record Begins (F : Frame) (M M' : Memory) (d d' : List ℕ) (r : Begun) : Type 0 where
  pub answer : r ≡ begun_answer F (decode_finds F (length d) (room_of M))
  pub memory : M' ≡ begun_memory F (decode_finds F (length d) (room_of M)) M
  pub degrees : d' ≡ degrees_in (countable limits (graph F) (length d)) (graph F) d

-- ---- advance

-- What is judged where an advance answers a record or a refusal, and the record that the caller has then: its own where it is refused.
abbrev pub judged_of : Result Run Refusal → Judged
judged_of (Ok p) = Ok tt
judged_of (Err r) = Err r

abbrev pub record_after : Run → Result Run Refusal → Run
record_after p (Ok p') = p'
record_after p (Err r) = p

-- What the caller keeps between two advances, beside the list of degrees: the record and the memory.
pub record Lent : Type 0 where
  pub run : Run
  pub memory : Memory

abbrev pub lent : Run → Memory → Lent
lent p M = record { run = p; memory = M }

-- What an advance is asked: the graph in its lists, the settings without scaling, and a count.
pub record Asked : Type 0 where
  pub variables : ℕ
  pub starts : List ℕ
  pub columns : List ℕ
  pub settings : Unscaled
  pub count : ℕ

abbrev pub asked : ℕ → List ℕ → List ℕ → Unscaled → ℕ → Asked
asked n starts columns u k = record { variables = n; starts = starts; columns = columns; settings = u; count = k }

-- The same on a graph that is lent.
abbrev pub asked_lent : Lists.Graph → Unscaled → ℕ → Asked
asked_lent g u k = asked g.variables g.starts.now g.columns.now u k

-- The settings with a scaling, which nothing reads.
abbrev pub scaled : Unscaled → Parameters
scaled u = record {
  scaling = Plain (whole 1);
  channel = u.channel;
  message = u.message;
  phi_s = u.phi_s;
  phi_a = u.phi_a;
  phi_0 = u.phi_0;
  limit = u.limit;
  lift_from = u.lift_from;
  lift_to = u.lift_to;
}

-- '8, 9, 16', as decode judges the same numbers.
abbrev pub unscaled_judged : Unscaled → Judged
unscaled_judged u =
    or_else (unless (precisions_admitted u.channel u.message) Refusals.Precision)
    (or_else (unless (options_admitted (scaled u)) Refusals.Option)
    (unless (lifting_admitted (scaled u)) Refusals.Lifting))

-- The state that a record and lists of messages hold, handed in or made: 'carried on by the rules from what they are, sums unread', and bits.
abbrev pub handed : Run → List ℕ → List ℕ → State
handed p q C = record { iteration = p.iterations; variable_messages = map level_of q; check_messages = map level_of C; sums = []; bits = [] }

-- A level or message byte, among the first n of a list, 'beyond its precision'.
unfoldable pub within_judged : ℕ → List ℕ → ℕ → Judged
within_judged N l n = each (λ k. unless (leb (level_in l k).magnitude N) Refusals.Advance) n

-- What the memory holds once a run on n variables and E entries has come to the state σ. Levels are only read; bytes past the lists do not change.
abbrev pub refilled : ℕ → ℕ → State → Memory → Memory
refilled n E σ M = record {
  levels = M.levels;
  variable_messages = map byte σ.variable_messages ++ drop E M.variable_messages;
  check_messages = map byte σ.check_messages ++ drop E M.check_messages;
  sums = sum_table (λ v. get_or σ.sums v (pos 0)) n ++ drop (4 * n) M.sums;
  bits = map one σ.bits ++ drop n M.bits;
}

module _ (A : Asked) where
  abbrev pub graph_asked : Graph
  graph_asked = graph_of A.variables A.starts A.columns

  abbrev pub limit_asked : ℕ
  limit_asked = A.settings.limit

  abbrev pub offsets_asked : Offsets
  offsets_asked = record { phi_s = A.settings.phi_s; phi_a = A.settings.phi_a; phi_0 = A.settings.phi_0 }

  abbrev pub lifting_asked : Lifting
  lifting_asked = record { from = A.settings.lift_from; to = A.settings.lift_to }

  -- The rules, from the levels in the first n bytes of their list.
  abbrev pub scheme_asked : List ℕ → Scheme
  scheme_asked y = sign_preserving graph_asked (largest A.settings.message) offsets_asked lifting_asked (level_in (take A.variables y))

  -- 'With 21 a finished record, one at or past its limit, a count above the limit, or a level or message byte beyond its precision.'
  unfoldable pub resume_judged : Lent → Judged
  resume_judged z =
      or_else (unless (admits limit_asked A.count z.run) Refusals.Advance)
      (or_else (within_judged (largest A.settings.channel) z.memory.levels A.variables)
      (or_else (within_judged (largest A.settings.message) z.memory.variable_messages graph_asked.entries)
      (within_judged (largest A.settings.message) z.memory.check_messages graph_asked.entries)))

  -- 'An advance refuses the graph's ..', where g is what is found of the graph, '8, 9, 16, 6, and then with 21.'
  unfoldable pub advance_judged : Judged → Lent → Judged
  advance_judged g z =
      or_else g
      (or_else (unscaled_judged A.settings)
      (or_else (unless (enough A.variables graph_asked.entries (room_of z.memory)) Refusals.Buffer)
      (resume_judged z)))

  -- What an advance finds: a list of d bytes is lent for the variables' degrees.
  abbrev pub advance_finds : ℕ → Lent → Judged
  advance_finds d z = advance_judged (graph_judged_in limits graph_asked d) z

  -- The state that an accepted advance comes to.
  abbrev pub state_after : Lent → State
  state_after z =
      resumed graph_asked (scheme_asked z.memory.levels) limit_asked A.count
      (handed z.run (take graph_asked.entries z.memory.variable_messages) (take graph_asked.entries z.memory.check_messages))

  -- 'An advance of 0 and a refused one change nothing.'
  abbrev pub lent_after : Judged → Lent → Lent
  lent_after (Ok _) z =
      cond (eqb A.count 0) z
      (lent (record_of graph_asked limit_asked (state_after z)) (refilled A.variables graph_asked.entries (state_after z) z.memory))
  lent_after (Err r) z = z

-- What an advance promises of what it judges, from any record and any bytes; of these, z before and z' after; and of the list of degrees, d before
-- and d' after.
pub record Advances (A : Asked) (z z' : Lent) (d d' : List ℕ) (r : Judged) : Type 0 where
  pub answer : r ≡ advance_finds A (length d) z
  pub lent : z' ≡ lent_after A (advance_finds A (length d) z) z
  pub degrees : d' ≡ degrees_in (countable limits (graph_asked A) (length d)) (graph_asked A) d
