use Rattle.std.proofs.Common.{rules}
use lib.Ieee.{of_bits, of_int}
use Rattle.pausing.proofs.Unscaled.scaled.Goals as goal

pub returns : goal.returns
unfolding of_bits of_int
returns c = search rules
