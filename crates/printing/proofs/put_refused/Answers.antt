use Rattle.texts.specs.Lines.{space}
use Rattle.texts.proofs.Putting.{put_long, word_short}
use Rattle.printing.proofs.Parts.{field_long, refused_put}
use native.Mathlib.Omega.{arith}
use Rattle.printing.proofs.put_refused.Goals as goal

pub put_field-b-requires : goal.put_field-b-requires
put_field-b-requires c = omega (arith, word_short c.args.number (omega arith), put_long c.put_fixed-a.ensures, c.put_fixed-a.ensures.after)

pub put_field-requires : goal.put_field-requires
put_field-requires c = omega (arith, word_short c.args.number (omega arith), word_short c.args.place (omega arith), put_long c.put_fixed-a.ensures, c.put_fixed-a.ensures.after, put_long c.put_field-b.ensures, c.put_field-b.ensures.after, field_long c.args.number space)

pub returns : goal.returns
returns c = refused_put c.args.number c.args.place (word_short c.args.number (omega arith)) (word_short c.args.place (omega arith)) c.put_fixed-a.ensures c.put_field-b.ensures c.put_field.ensures
