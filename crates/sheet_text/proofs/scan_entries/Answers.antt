use Rattle.std.proofs.Common.{rules}
use mathlib.Core.Path.{sym, ◌∙◌, subst}
use Prim.Native.Nat.{◌+◌}
use native.Mathlib.Omega.{arith}
use Rattle.texts.specs.Lines.{pair}
use Rattle.texts.specs.Places.{LineAt}
use Rattle.texts.proofs.Passes.{Scanning, scanning_none, scanning_end, scanning_many, scanning_other, scanning_refused, scanning_more}
use Rattle.code_sheets.specs.Text.Reading.{sheet_entries}
use Rattle.code_sheets.proofs.Text.Passes.{capped_entry, after_capped}
use Rattle.sheet_text.proofs.scan_entries.Goals as goal

pub loop-at-init : goal.loop-at-init
loop-at-init c = (omega arith, scanning_none sheet_entries c.args.most.entries (pair c.args.n c.args.m) c.args.text.now c.args.from c.requires.from_in_bounds.0)

pub overflow_add-result : goal.overflow_add-result
overflow_add-result c = omega (arith, c.requires.up_to.entries)

pub returns-then-most-k : goal.returns-then-most-k
returns-then-most-k c = scanning_many c.loop-at.invariant.1 (omega arith) (omega arith)

pub overflow_add-result-in_default : goal.overflow_add-result-in_default
overflow_add-result-in_default c = omega (arith, c.requires.up_to.entries)

pub returns-in_default : goal.returns-in_default
returns-in_default c = scanning_other c.loop-at.invariant.1 (omega arith) (omega arith) c.in_default.ensures

pub overflow_add-k : goal.overflow_add-k
overflow_add-k c = omega (arith, c.requires.up_to.entries)

pub returns-in_err-judge_entry : goal.returns-in_err-judge_entry
returns-in_err-judge_entry c =
    let r = c.in-Some.ensures in
    search (
      rules,
      scanning_refused c.loop-at.invariant.1 (omega arith) (omega arith) r.pair c.in-Some.line.next r.reads
          (sym (capped_entry (pair c.args.n c.args.m) (pair c.loop-at.c0 c.loop-at.w0) (c.loop-at.k + 4) r.pair c.in-Some.line.value.0 c.in-Some.line.value.1 (omega (arith, c.requires.up_to.variables)) (omega (arith, c.requires.up_to.checks)) r.first r.second)
          ∙ sym c.in_err-judge_entry.ensures),
    )

pub overflow_add-w0 : goal.overflow_add-w0
overflow_add-w0 c =
    let r = c.in-Some.ensures in
    omega (arith, r.second)

pub overflow_add-k-in-loop-at : goal.overflow_add-k-in-loop-at
overflow_add-k-in-loop-at c = omega (arith, c.requires.up_to.entries)

pub loop-at-smaller : goal.loop-at-smaller
loop-at-smaller c =
    let r = c.in-Some.ensures in
    omega (arith, r.on, r.within)

pub loop-at-preserved : goal.loop-at-preserved
loop-at-preserved c =
    let r = c.in-Some.ensures in
    let counts = pair c.args.n c.args.m in
    let low = pair c.loop-at.c0 c.loop-at.w0 in
    let judged = sym (capped_entry (pair c.args.n c.args.m) (pair c.loop-at.c0 c.loop-at.w0) (c.loop-at.k + 4) r.pair c.in-Some.line.value.0 c.in-Some.line.value.1 (omega (arith, c.requires.up_to.variables)) (omega (arith, c.requires.up_to.checks)) r.first r.second) ∙ sym c.judge_entry.ensures ∙ c.in_ok-judge_entry.was in (
      omega arith,
      subst (Scanning sheet_entries c.args.most.entries counts c.args.text.now c.args.from c.in-Some.line.next (c.loop-at.k + 1))
          (after_capped counts low (c.loop-at.k + 4) r.pair c.in-Some.line.value.0 c.in-Some.line.value.1 (omega (arith, c.requires.up_to.variables)) (omega (arith, c.requires.up_to.checks)) r.first r.second judged)
          (scanning_more c.loop-at.invariant.1 (omega arith) (omega arith) r.pair c.in-Some.line.next r.reads r.within judged),
    )

pub returns : goal.returns
returns c =
    let q = c.loop-at.invariant.1 in
    record { entries = q.done; are = scanning_end q (omega arith); many = q.got; rest = scanning_end q (omega arith) }
