use native.Mathlib.Omega.{arith}
use Rattle.texts.proofs.Putting.{one_digit, more_digits, word_short}
use Rattle.sheet_writer.proofs.count_digits.Goals as goal

pub loop-left-preserved : goal.loop-left-preserved
loop-left-preserved c = omega (arith, more_digits c.loop-left.left (omega arith))

pub returns : goal.returns
returns c = omega (arith, one_digit c.loop-left.left (omega arith), word_short c.args.k (omega arith))
