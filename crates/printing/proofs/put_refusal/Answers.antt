use Rattle.printing.proofs.Parts.{refusal_put}
use Rattle.printing.proofs.put_refusal.Goals as goal

pub returns : goal.returns
returns c = refusal_put c.args.r c.numbered-k.ensures c.put_refused.ensures
