use Rattle.texts.specs.Lines.{space}
use Rattle.texts.proofs.Putting.{put_long, word_short}
use Rattle.printing.proofs.Parts.{field_long, verdict_room, run_put}
use native.Mathlib.Omega.{arith}
use Rattle.printing.proofs.put_run.Goals as goal

pub put_field-c-requires : goal.put_field-c-requires
put_field-c-requires c = omega (arith, word_short c.args.t (omega arith), put_long c.put_fixed-a.ensures, c.put_fixed-a.ensures.after, put_long c.put_verdict-b.ensures, verdict_room c.args.v c.put_verdict-b.ensures)

pub put_field-requires : goal.put_field-requires
put_field-requires c = omega (arith, word_short c.args.t (omega arith), word_short c.args.u (omega arith), put_long c.put_fixed-a.ensures, c.put_fixed-a.ensures.after, put_long c.put_verdict-b.ensures, verdict_room c.args.v c.put_verdict-b.ensures, put_long c.put_field-c.ensures, c.put_field-c.ensures.after, field_long c.args.t space)

pub returns : goal.returns
returns c = run_put c.args.v c.args.t c.args.u (word_short c.args.t (omega arith)) (word_short c.args.u (omega arith)) c.put_fixed-a.ensures c.put_verdict-b.ensures c.put_field-c.ensures c.put_field.ensures
