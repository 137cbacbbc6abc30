use mathlib.Core.Path.{sym}
use borrow.Author.Tests.{le-leb, lt-leb}
use Rattle.graphs.specs.Judging.{counts_judged}
use Rattle.shape.proofs.check_counts.Goals as goal
use Rattle.shape.proofs.check_counts.Goals.{else-variables-via-then-variables+then-checks+else-entries-le-MOST_ENTRIES, else-variables-via-then-variables+else-checks, else-variables-via-else-variables}

pub returns-then-entries-le-MOST_ENTRIES : goal.returns-then-entries-le-MOST_ENTRIES
unfolding counts_judged
returns-then-entries-le-MOST_ENTRIES c =
    sym (rw (← c.in_range-variables.ensures, c.if-variables.true, ← c.checks.ensures, ← c.in_range-checks.ensures, c.if-checks.true, ← c.entries.ensures, le-leb _ _ c.if-entries-le-MOST_ENTRIES.true))

pub returns-else-variables : goal.returns-else-variables
unfolding counts_judged
returns-else-variables c = elim c.else-variables.branch [
  | else-variables-via-then-variables+then-checks+else-entries-le-MOST_ENTRIES w ↦ sym (rw (← c.in_range-variables.ensures, w.if-variables.true, ← c.checks.ensures, ← c.in_range-checks.ensures, w.if-checks.true, ← w.entries.ensures, lt-leb _ _ w.if-entries-le-MOST_ENTRIES.false))
  | else-variables-via-then-variables+else-checks w ↦ sym (rw (← c.in_range-variables.ensures, w.if-variables.true, ← c.checks.ensures, ← c.in_range-checks.ensures, w.if-checks.false))
  | else-variables-via-else-variables w ↦ sym (rw (← c.in_range-variables.ensures, w.if-variables.false))
]
