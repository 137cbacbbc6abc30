use mathlib.Core.Path.{refl, sym, ap, ◌∙◌, subst}
use Prim.Native.Nat.{ℕ, ◌+◌}
use native.Mathlib.Nat.{add-zero, add_assoc, mul-le-mul_right}
use native.Mathlib.Omega.{arith}
use lib.ListN.{length}
use Rattle.words.specs.Roles.{wide}
use Rattle.words.proofs.Words.{length_stored}
use Rattle.words.proofs.Filling.{Filled, filled_more}
use Rattle.block_rows.proofs.put_starts.Goals as goal

pub loop-r-init : goal.loop-r-init
loop-r-init c = (refl, λ f old h g. subst (Filled wide f old c.args.starts.now) (sym (add-zero c.args.c)) h)

pub overflow_add-c : goal.overflow_add-c
overflow_add-c c = omega (arith, c.requires.1)

pub overflow_mul-r : goal.overflow_mul-r
overflow_mul-r c = record { fits = omega (arith, c.requires.0, mul-le-mul_right {m = c.loop-r.r} {n = c.args.size} c.args.d (omega arith)) }

pub overflow_add-x : goal.overflow_add-x
overflow_add-x c = omega (arith, c.requires.0, mul-le-mul_right {m = c.loop-r.r} {n = c.args.size} c.args.d (omega arith))

pub put_start-requires : goal.put_start-requires
put_start-requires c = (omega (arith, c.requires.1, c.loop-r.invariant.0), omega (arith, c.requires.0, mul-le-mul_right {m = c.loop-r.r} {n = c.args.size} c.args.d (omega arith)))

pub loop-r-preserved : goal.loop-r-preserved
loop-r-preserved c = (ap length c.put_start.ensures ∙ length_stored wide _ _ _ ∙ c.loop-r.invariant.0, λ f old h g. subst (Filled wide f old c.put_start.new.starts) (add_assoc c.args.c c.loop-r.r 1) (filled_more (omega (arith, h.long, c.requires.1)) (c.loop-r.invariant.1 f old h g) c.put_start.ensures (g c.loop-r.r (omega arith))))

pub shape_of-starts : goal.shape_of-starts
shape_of-starts c = c.loop-r.invariant.0

pub returns : goal.returns
returns c = λ f old h g. subst (λ (n : ℕ). Filled wide f old c.loop-r.starts (c.args.c + n)) (omega arith) (c.loop-r.invariant.1 f old h g)
