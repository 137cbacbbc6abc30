use native.Mathlib.Omega.{arith}
use Rattle.sheet_lines.proofs.Checks.{goes_same, goes_next}
use Rattle.sheet_lines.proofs.go_on.Goals as goal

pub returns-then-rows-c : goal.returns-then-rows-c
returns-then-rows-c c = goes_same (omega arith) (omega arith)

pub returns : goal.returns
returns c = goes_next (omega arith) c.lowest.ensures
