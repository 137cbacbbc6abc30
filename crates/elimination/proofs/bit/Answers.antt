use borrow.Author.Rules.{rules}
use Rattle.elimination.specs.Rows.{digit, bit_in}
use Rattle.elimination.proofs.bit.Goals as goal

pub returns : goal.returns
unfolding bit_in digit
returns c = search rules
