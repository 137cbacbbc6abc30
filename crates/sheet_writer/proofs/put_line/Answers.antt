use native.Mathlib.Omega.{arith}
use Rattle.texts.proofs.Putting.{put_long}
use Rattle.code_sheets.proofs.Writer.Texts.{line_long}
use Rattle.sheet_writer.proofs.Putting.{put_fields}
use Rattle.sheet_writer.proofs.put_line.Goals as goal

pub put_number-i-requires : goal.put_number-i-requires
put_number-i-requires c = omega (arith, line_long c.args.a c.args.b)

pub put_fixed-j-requires : goal.put_fixed-j-requires
put_fixed-j-requires c =
    let p = c.put_number-i.ensures in
    omega (arith, line_long c.args.a c.args.b, p.after, put_long p)

pub put_number-k-requires : goal.put_number-k-requires
put_number-k-requires c =
    let p = c.put_number-i.ensures in
    let q = c.put_fixed-j.ensures in
    omega (arith, line_long c.args.a c.args.b, p.after, put_long p, q.after, put_long q)

pub put_fixed-requires : goal.put_fixed-requires
put_fixed-requires c =
    let p = c.put_number-i.ensures in
    let q = c.put_fixed-j.ensures in
    let r = c.put_number-k.ensures in
    omega (arith, line_long c.args.a c.args.b, p.after, put_long p, q.after, put_long q, r.after, put_long r)

pub returns : goal.returns
returns c = put_fields c.args.a c.args.b c.put_number-i.ensures c.put_fixed-j.ensures c.put_number-k.ensures c.put_fixed.ensures
