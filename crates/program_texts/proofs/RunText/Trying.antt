-- The example and its damaged texts, by computation: where a definition is wrong, the rows that fail are shown.
use mathlib.Core.Path.{refl}
use lib.Ieee.{of_bits, to_bits}
use Rattle.rules.specs.Tables.{failures}
use Rattle.texts.specs.Numbers.{more, number}
use Rattle.texts.specs.Lines.{field, fixed}
use Rattle.words.specs.Words.{bytes}
use Rattle.program_texts.specs.RunText.Texts.{hex_digit, hex_digits, pattern, setting, titles, scaling, settings, settings_line}
use Rattle.program_texts.specs.RunText.Reading.{value_lines, run_lines, run_text}
use Rattle.program_texts.specs.RunText.Trials.{trials, told, passes, TrialsPass}

pub trials_pass : TrialsPass
unfolding of_bits to_bits more number field fixed bytes hex_digit hex_digits pattern setting titles scaling settings settings_line value_lines run_lines run_text trials told passes failures
trials_pass = refl
