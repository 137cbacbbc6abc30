-- The trial values, by computation: where a definition is wrong, the rows that fail are shown.
use mathlib.Core.Path.{refl}
use mathlib.Core.Bool.{xor}
use lib.Ieee.{mul, lt, of_int, of_bits}
use Rattle.rules.specs.Tables.{failures}
use Rattle.rules.specs.Ranges.{fold, but, count, joined, tabulate, first}
use Rattle.rules.specs.Levels.{byte, blank}
use Rattle.rules.specs.Graphs.{variable_degree, check_of, odd_check, unsatisfied}
use Rattle.rules.specs.Nodes.{first_message, first_bit, others, from_check, lifts, lifted, counted, contribution, odd, extra, channel_part, share, posterior, outgoing_sum, outgoing_magnitude, outgoing, from_variable}
use Rattle.rules.specs.Sequence.{unlifted, sign_preserving, begun, sent_in, sent, iterated, next, state, unsatisfied_in, stop, final, report}
use Rattle.refusals.specs.Refusals.{each}
use Rattle.rules.specs.Trials as Nodes
use Rattle.rules.specs.Trials.{star, fan}
use Rattle.words.specs.Words.{word, bytes}
use Rattle.graphs.specs.Judging.{span_judged, shape_judged, graph_judged, counts_judged, starts_judged, columns_judged, rows_judged, check_degrees_judged, variable_degrees_judged}
use Rattle.settings.specs.Scaling.{positive}
use Rattle.settings.specs.Quantiser.{wholes_below, level_for}
use Rattle.settings.specs.Trials as Levels
use Rattle.decoding.specs.Decoding.{frame_judged}
use Rattle.decoding.specs.Trials.{in_bytes, example, trials, answered, answer, passes, TrialsPass}

pub trials_pass : TrialsPass
unfolding xor mul lt of_int of_bits fold but count joined tabulate first byte blank variable_degree check_of odd_check unsatisfied first_message first_bit others from_check lifts lifted counted contribution odd extra channel_part share posterior outgoing_sum outgoing_magnitude outgoing from_variable unlifted sign_preserving begun sent_in sent iterated next state unsatisfied_in stop final report star fan Nodes.example Nodes.trials Nodes.passes each word bytes span_judged shape_judged graph_judged counts_judged starts_judged columns_judged rows_judged check_degrees_judged variable_degrees_judged positive wholes_below level_for Levels.trials Levels.passes frame_judged in_bytes example trials answered answer passes failures
trials_pass = refl
