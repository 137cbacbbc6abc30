-- The example and its damaged sheets, by computation: where a definition is wrong, the rows that fail are shown.
use mathlib.Core.Path.{refl}
use Rattle.rules.specs.Tables.{failures}
use Rattle.rules.specs.Ranges.{fold, count, joined, tabulate}
use Rattle.rules.specs.Graphs.{variable_degree}
use Rattle.refusals.specs.Refusals.{each}
use Rattle.words.specs.Words.{bytes, table}
use Rattle.graphs.specs.Judging.{check_degrees_judged, variable_degrees_judged}
use Rattle.texts.specs.Numbers.{digits, decimal, more, number}
use Rattle.texts.specs.Lines.{line_text, lines_text, field, line, fixed}
use Rattle.texts.specs.Reading.{rows, sheet_lines}
use Rattle.code_sheets.specs.Text.Texts.{sheet_of, row_entries, entries_of, sheet_text}
use Rattle.code_sheets.specs.Text.Reading.{start_in, column_in}
use Rattle.code_sheets.specs.Reader.Reading.{sheet_read_in}
use Rattle.code_sheets.specs.Reader.Trials.{trials, told, written_as, passes, TrialsPass}

pub trials_pass : TrialsPass
unfolding fold count joined tabulate variable_degree each check_degrees_judged variable_degrees_judged digits decimal more number line_text lines_text field line fixed sheet_of row_entries entries_of sheet_text rows sheet_lines start_in column_in bytes table sheet_read_in trials told written_as passes failures
trials_pass = refl
