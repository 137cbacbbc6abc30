use mathlib.Core.Path.{sym, ◌∙◌}
use native.Mathlib.Omega.{arith}
use borrow.Author.Rules.{rules}
use Rattle.elimination.specs.Rows.{width}
use Rattle.elimination.proofs.Bytes.{row_fits}
use Rattle.elimination.proofs.Steps.{clear_row, clear_more}
use Rattle.elimination.proofs.clear_others.Goals as goal

pub clear_one-requires : goal.clear_one-requires
clear_one-requires c =
    let turn = c.loop-j in
    let asked = c.requires in
    let a = c.args in
    let d = turn.invariant in
    (search rules, omega (arith, row_fits (width a.n) turn.j a.m (omega arith), d.long), search rules, asked.3, λ u l. asked.4 u l ∙ sym (clear_row a.i a.h d u l))

pub loop-j-preserved : goal.loop-j-preserved
loop-j-preserved c = clear_more _ _ (omega arith) c.loop-j.invariant c.clear_one.ensures
