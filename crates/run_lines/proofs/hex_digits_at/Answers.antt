use mathlib.Core.Path.{sym, ap, ◌∙◌}
use native.Mathlib.Omega.{arith}
use borrow.Author.Tests.{ltb-false}
use Rattle.program_texts.specs.RunText.Texts.{hex_digit}
use Rattle.run_lines.proofs.Words.{reading_none, reading_all, reading_end, reading_not, reading_fits, reading_more}
use Rattle.run_lines.proofs.hex_digits_at.Goals as goal

pub loop-k-init : goal.loop-k-init
loop-k-init c = reading_none c.args.s.now c.args.at c.requires

pub returns-in_err-b : goal.returns-in_err-b
returns-in_err-b c =
    rw c.from_residual.ensures (reading_end c.loop-k.invariant c.loop-k-test.true (ltb-false _ _ (sym c.in_err-b.ensures.lookup.0)))

pub overflow_mul-value : goal.overflow_mul-value
overflow_mul-value c = omega (arith, reading_fits c.loop-k.invariant c.loop-k-test.true 0)

pub returns-in_err-value : goal.returns-in_err-value
returns-in_err-value c =
    let found = c.in_ok-b.ensures.lookup.3 in
    rw c.from_residual-in_err-value.ensures
    (reading_not c.loop-k.invariant c.loop-k-test.true found.0 (ap hex_digit (sym (found.1 0)) ∙ c.in_err-value.ensures))

pub overflow_add-value : goal.overflow_add-value
overflow_add-value c = omega (arith, reading_fits c.loop-k.invariant c.loop-k-test.true c.in_ok-value.field-0 c.in_ok-value.ensures.0)

pub loop-k-preserved : goal.loop-k-preserved
loop-k-preserved c =
    let found = c.in_ok-b.ensures.lookup.3 in
    let digit = c.in_ok-value.ensures in
    reading_more c.loop-k.invariant c.loop-k-test.true found.0 (digit.0, ap hex_digit (sym (found.1 0)) ∙ digit.1)

pub returns : goal.returns
returns c = reading_all c.loop-k.invariant (omega arith)
