-- Frames and memory from the parameters of a call.
use Rattle.std.specs.Prelude.{List, ℕ}
use Rattle.settings.specs.declared.Parameters.{Parameters}
use Rattle.decoding.specs.declared.Frame as Lent
use Rattle.decoding.specs.Decoding.{Frame, Memory}

abbrev pub frame : ℕ → List ℕ → List ℕ → List ℕ → Parameters → Frame
frame n starts columns values asked = record { variables = n; starts = starts; columns = columns; values = values; asked = asked }

abbrev pub memory : List ℕ → List ℕ → List ℕ → List ℕ → List ℕ → Memory
memory levels variable_messages check_messages sums bits = record {
  levels = levels;
  variable_messages = variable_messages;
  check_messages = check_messages;
  sums = sums;
  bits = bits;
}

-- The frame that is lent.
abbrev pub frame_lent : Lent.Frame → Frame
frame_lent f = frame f.graph.variables f.graph.starts.now f.graph.columns.now f.values.now f.asked
