-- The example, its variants and the refusals, by computation: where a definition is wrong, the rows that fail are shown.
use mathlib.Core.Path.{refl}
use mathlib.Core.Bool.{xor}
use lib.Ieee.{mul, div, lt, of_int, of_bits}
use Rattle.rules.specs.Tables.{failures}
use Rattle.rules.specs.Ranges.{fold, but, count, joined, tabulate, first}
use Rattle.rules.specs.Levels.{byte, blank}
use Rattle.rules.specs.Graphs.{variable_degree, check_of, odd_check, unsatisfied}
use Rattle.rules.specs.Nodes.{first_message, first_bit, others, from_check, lifts, lifted, counted, contribution, odd, extra, channel_part, share, posterior, outgoing_sum, outgoing_magnitude, outgoing, from_variable}
use Rattle.rules.specs.Sequence.{unlifted, sign_preserving, begun, sent_in, sent, iterated, next, state, unsatisfied_in, stop, final, report}
use Rattle.refusals.specs.Refusals.{each}
use Rattle.words.specs.Words.{word, bytes, table}
use Rattle.graphs.specs.Judging.{span_judged, shape_judged, graph_judged, counts_judged, starts_judged, columns_judged, rows_judged, check_degrees_judged, variable_degrees_judged}
use Rattle.settings.specs.Scaling.{positive}
use Rattle.settings.specs.Quantiser.{wholes_below, level_for}
use Rattle.decoding.specs.Decoding.{frame_judged}
use Rattle.texts.specs.Numbers.{digits, decimal, more, number}
use Rattle.texts.specs.Lines.{line_text, field, line, fixed}
use Rattle.texts.specs.Reading.{rows, sheet_lines}
use Rattle.code_sheets.specs.Text.Reading.{start_in, column_in}
use Rattle.code_sheets.specs.Reader.Reading.{sheet_read}
use Rattle.program_texts.specs.RunText.Texts.{hex_digit, hex_digits, pattern, setting, titles, scaling, settings, settings_line}
use Rattle.program_texts.specs.RunText.Reading.{value_lines, run_lines, run_text}
use Rattle.program_texts.specs.Printing.Texts.{verdict_lines, report_text, refusal_text}
use Rattle.program_texts.specs.Answering.{frame_text, program_text}
use Rattle.program_texts.specs.Trials.{many, trials, passes, TrialsPass}

pub trials_pass : TrialsPass
unfolding xor mul div lt of_int of_bits fold but count joined tabulate first byte blank variable_degree check_of odd_check unsatisfied first_message first_bit others from_check lifts lifted counted contribution odd extra channel_part share posterior outgoing_sum outgoing_magnitude outgoing from_variable unlifted sign_preserving begun sent_in sent iterated next state unsatisfied_in stop final report each word bytes table span_judged shape_judged graph_judged counts_judged starts_judged columns_judged rows_judged check_degrees_judged variable_degrees_judged positive wholes_below level_for frame_judged digits decimal more number line_text field line fixed rows sheet_lines start_in column_in sheet_read hex_digit hex_digits pattern setting titles scaling settings settings_line value_lines run_lines run_text verdict_lines report_text refusal_text frame_text program_text many trials passes failures
trials_pass = refl
