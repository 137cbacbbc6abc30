-- The trial values, by computation: where a definition is wrong, the rows that fail are shown.
use mathlib.Core.Path.{refl}
use mathlib.Core.Bool.{xor}
use Rattle.rules.specs.Tables.{failures}
use Rattle.rules.specs.Ranges.{fold, but, count, joined, tabulate, first}
use Rattle.rules.specs.Levels.{byte}
use Rattle.rules.specs.Graphs.{variable_degree, check_of, odd_check, unsatisfied}
use Rattle.rules.specs.Nodes.{first_message, first_bit, others, from_check, lifts, lifted, counted, contribution, odd, extra, channel_part, share, posterior, outgoing_sum, outgoing_magnitude, outgoing, from_variable}
use Rattle.rules.specs.Sequence.{unlifted, sign_preserving, begun, sent_in, sent, iterated, next, state, unsatisfied_in, stop, final, report}
use Rattle.rules.specs.Trials.{star, fan, example, trials, passes, TrialsPass}

pub trials_pass : TrialsPass
unfolding fold but count joined tabulate first byte variable_degree check_of odd_check unsatisfied first_message first_bit others from_check lifts lifted counted contribution odd extra channel_part share posterior outgoing_sum outgoing_magnitude outgoing from_variable unlifted sign_preserving begun sent_in sent iterated next state unsatisfied_in stop final report star fan example trials passes failures xor
trials_pass = refl
