use mathlib.Core.Path.{sym}
use native.Mathlib.Omega.{arith}
use Rattle.texts.proofs.Putting.{one_digit, digits_are}
use Rattle.sheet_writer.proofs.digits.Goals as goal

pub returns-then-k-lt10 : goal.returns-then-k-lt10
returns-then-k-lt10 c = (sym (one_digit c.args.k c.if-k-lt10.true), omega arith)

pub returns-then-k-lt100 : goal.returns-then-k-lt100
returns-then-k-lt100 c = (digits_are 1 c.args.k (omega arith) (omega arith), omega arith)

pub returns-then-k-lt1000 : goal.returns-then-k-lt1000
returns-then-k-lt1000 c = (digits_are 2 c.args.k (omega arith) (omega arith), omega arith)

pub returns-then-k-lt10000 : goal.returns-then-k-lt10000
returns-then-k-lt10000 c = (digits_are 3 c.args.k (omega arith) (omega arith), omega arith)

pub returns-then-k-lt100000 : goal.returns-then-k-lt100000
returns-then-k-lt100000 c = (digits_are 4 c.args.k (omega arith) (omega arith), omega arith)

pub returns-then-k-lt1000000 : goal.returns-then-k-lt1000000
returns-then-k-lt1000000 c = (digits_are 5 c.args.k (omega arith) (omega arith), omega arith)
