use mathlib.Core.Path.{sym}
use native.Mathlib.Omega.{arith}
use borrow.Author.Tests.{not-true, not-false}
use Rattle.rules.proofs.Blanks.{blank_none, blank_more, exposed_at}
use Rattle.quantiser.proofs.is_blank.Goals as goal

pub loop-v-init : goal.loop-v-init
loop-v-init c = λ N l u. blank_none _

pub returns-then-is_exposed : goal.returns-then-is_exposed
returns-then-is_exposed c =
    λ N l u. sym (exposed_at _ c.loop-v.v _ (omega arith) (not-true _ (cc (c.is_exposed.ensures N l u))))

pub loop-v-preserved : goal.loop-v-preserved
loop-v-preserved c =
    let i = c.loop-v in
    λ N l u. blank_more _ i.v (i.invariant N l u) (not-false _ (cc (c.is_exposed.ensures N l u)))
