use Rattle.texts.proofs.Putting.{put_long}
use Rattle.printing.proofs.Parts.{bits_after, report_put}
use native.Mathlib.Omega.{arith}
use Rattle.printing.proofs.put_report.Goals as goal

pub put_fixed-requires : goal.put_fixed-requires
put_fixed-requires c = omega (arith, c.put_run-a.ensures.short, put_long c.put_run-a.ensures.put, c.put_fixed-b.ensures.after, put_long c.put_fixed-b.ensures, put_long c.put_bits-c.ensures, bits_after c.args.bits.now c.put_bits-c.ensures)

pub returns : goal.returns
returns c = report_put c.args.r c.args.bits.now c.requires.1 c.put_run-a.ensures c.put_fixed-b.ensures c.put_bits-c.ensures c.put_fixed.ensures
