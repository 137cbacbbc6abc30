use mathlib.Core.Path.{ap}
use native.Mathlib.Omega.{arith}
use Rattle.rules.proofs.Rows.{admitted_row}
use Rattle.words.specs.Roles.{bit_of_byte}
use Rattle.syndrome.proofs.Loops.{parity_none, parity_more, parity_all}
use Rattle.syndrome.proofs.is_odd.Goals as goal

pub loop-e-init : goal.loop-e-init
loop-e-init c = parity_none c.start-e.ensures.0

pub column-requires : goal.column-requires
column-requires c = omega (arith, admitted_row _ c.requires.0 c.args.i c.requires.1 c.start-e.ensures.0 c.start-e-end.ensures.0)

pub bounds-bits-column : goal.bounds-bits-column
bounds-bits-column c =
    let ends = admitted_row _ c.requires.0 c.args.i c.requires.1 c.start-e.ensures.0 c.start-e-end.ensures.0 in
    omega (arith, c.requires.0.within c.loop-e.e (omega (arith, ends)))

pub loop-e-preserved : goal.loop-e-preserved
loop-e-preserved c = parity_more c.loop-e.invariant (omega arith) (ap (bit_of_byte c.args.bits.now) c.column.ensures.0)

pub returns : goal.returns
returns c =
    let ends = admitted_row _ c.requires.0 c.args.i c.requires.1 c.start-e.ensures.0 c.start-e-end.ensures.0 in
    parity_all c.loop-e.invariant (omega (arith, c.loop-e.auto.e-end (omega (arith, ends.0))))
