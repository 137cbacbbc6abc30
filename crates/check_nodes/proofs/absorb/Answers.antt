use mathlib.Core.Bool.{xor}
use borrow.Author.Rules.{rules}
use Rattle.check_nodes.proofs.absorb.Goals as goal

pub returns : goal.returns
unfolding xor
returns c = search rules
