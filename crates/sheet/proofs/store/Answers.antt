use mathlib.Core.Path.{◌≡◌, ◌∙◌}
use Prim.Native.Nat.{◌+◌}
use native.Mathlib.Omega.{arith}
use Rattle.words.specs.Roles.{wide}
use Rattle.words.proofs.Filling.{Filled, filled_more}
use Rattle.code_sheets.specs.Text.Reading.{start_in}
use Rattle.sheet_lines.proofs.Passing.{pass_known, pass_numbers, pass_starts, pass_column, pass_ends}
use Rattle.sheet.proofs.Storing.{stage_none, stage_more, stage_all}
use Rattle.sheet.proofs.store.Goals as goal
use Rattle.sheet.proofs.store.Goals.{After-fill-2}

pub loop-k-init : goal.loop-k-init
loop-k-init c = stage_none c.args.starts.now c.args.columns.now c.requires.entries_at

pub known_line_at-line-requires : goal.known_line_at-line-requires
known_line_at-line-requires c = pass_known c.loop-k.invariant.pass (omega arith)

pub overflow_add-check : goal.overflow_add-check
overflow_add-check c = omega (arith, (pass_numbers c.loop-k.invariant.pass (omega arith) c.known_line_at-line.ensures).0, c.requires.entries_at.small.checks)

pub fill-requires : goal.fill-requires
fill-requires c = let n = pass_numbers c.loop-k.invariant.pass (omega arith) c.known_line_at-line.ensures in (n.2, omega (arith, n.0, c.loop-k.invariant.starts_are.long, c.requires.checks_in_bounds), omega (arith, c.requires.entries_at.small.entries))

pub put_column-requires : goal.put_column-requires
put_column-requires c = (omega (arith, c.loop-k.invariant.columns_are.long, c.requires.checks_in_bounds), omega (arith, (pass_numbers c.loop-k.invariant.pass (omega arith) c.known_line_at-line.ensures).1, c.requires.entries_at.small.variables))

pub overflow_add-filled : goal.overflow_add-filled
overflow_add-filled c = omega (arith, (pass_numbers c.loop-k.invariant.pass (omega arith) c.known_line_at-line.ensures).0, c.requires.entries_at.small.checks)

pub loop-k-preserved : goal.loop-k-preserved
loop-k-preserved c = let q = c.loop-k.invariant in let r = c.known_line_at-line.ensures in stage_more q (omega arith) r (c.fill.ensures (start_in q.pass.held.entries) c.args.starts.now q.starts_are (pass_starts q.pass (omega arith) r)) (filled_more (omega (arith, c.requires.checks_in_bounds)) q.columns_are c.put_column.ensures (pass_column q.pass (omega arith) r))

pub overflow_add-counts : goal.overflow_add-counts
overflow_add-counts c = omega (arith, c.requires.entries_at.small.checks)

pub fill-requires-2 : goal.fill-requires-2
fill-requires-2 c = (omega (arith, c.loop-k.invariant.pass.at.high), omega (arith, c.loop-k.invariant.starts_are.long, c.requires.checks_in_bounds), omega (arith, c.requires.entries_at.small.entries))

-- the starts after the last entry
last : (c : After-fill-2) → Filled wide (start_in c.loop-k.invariant.pass.held.entries) c.args.starts.now c.fill-2.new.starts (c.args.counts.checks + 1)
last c =
    let q = c.loop-k.invariant in
    let all : c.args.counts.entries ≡ c.loop-k.k = omega arith in
    c.fill-2.ensures (start_in q.pass.held.entries) c.args.starts.now q.starts_are (λ j l u. all ∙ pass_ends q.pass (omega arith) j l)

pub shape_of-starts : goal.shape_of-starts
shape_of-starts c = (last (goal.at.shape_of-starts c).After-fill-2).long

pub shape_of-columns : goal.shape_of-columns
shape_of-columns c = c.loop-k.invariant.columns_are.long

pub returns : goal.returns
returns c = stage_all c.loop-k.invariant (omega arith) (last (goal.at.returns c).After-fill-2)
