use Rattle.std.proofs.lemmas.Result.{err_from_is_err_and}
use Rattle.sheet_lines.proofs.Ways.{variables_refused, starts_short, columns_short, long_enough_lem}
use Rattle.sheet_lines.proofs.judge_lines.Goals as goal
use Rattle.sheet_lines.proofs.judge_lines.Goals.{then-starts-counts-via-then-starts-counts, then-starts-counts-via-else-starts-counts+then-columns-counts}

pub returns-in_err-judge : goal.returns-in_err-judge
returns-in_err-judge c =
    let exit = err_from_is_err_and c.from_residual-in_err-judge.result c.from_residual-in_err-judge.ensures.1 in
    rw (exit.1, exit.2) (variables_refused c.requires c.if-degrees-counts.false c.in_ok-count_entries.ensures c.in_err-judge.ensures)

pub returns-then-starts-counts : goal.returns-then-starts-counts
returns-then-starts-counts c =
    elim c.then-starts-counts.branch [
      | then-starts-counts-via-then-starts-counts w ↦ starts_short c.requires c.if-degrees-counts.false c.in_ok-count_entries.ensures c.in_ok-judge.ensures w.if-starts-counts.true
      | then-starts-counts-via-else-starts-counts+then-columns-counts w ↦
          columns_short c.requires c.if-degrees-counts.false c.in_ok-count_entries.ensures c.in_ok-judge.ensures w.if-columns-counts.true
    ]

pub returns : goal.returns
returns c =
    long_enough_lem c.requires c.if-degrees-counts.false c.in_ok-count_entries.ensures c.in_ok-judge.ensures c.if-starts-counts.false c.if-columns-counts.false
