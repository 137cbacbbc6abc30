use mathlib.Core.Path.{◌≡◌, refl}
use mathlib.Core.Bool.{true, false}
use Rattle.interface.specs.Runs.{is_open_number, unpacked}
use Rattle.packing.proofs.runs.unpack.Goals as goal

pub returns-then-x-t : goal.returns-then-x-t
unfolding unpacked is_open_number
returns-then-x-t c = let e : is_open_number c.args.x ≡ true = c.if-x-t.true in rw e refl

pub returns : goal.returns
unfolding unpacked is_open_number
returns c = let e : is_open_number c.args.x ≡ false = c.if-x-t.false in rw e refl
