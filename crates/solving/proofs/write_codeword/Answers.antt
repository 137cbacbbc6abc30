use Rattle.solving.proofs.Answering.{zeros_long, written}
use Rattle.solving.proofs.write_codeword.Goals as goal

pub returns : goal.returns
returns c = λ G M. written (zeros_long _ (c.fill.ensures.after (λ y h. h))) c.put_given.ensures c.put_ones.ensures G M
