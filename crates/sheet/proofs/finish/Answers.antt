use Rattle.std.proofs.Common.{rules}
use mathlib.Core.Path.{refl}
use Rattle.sheet_lines.proofs.Ways.{finished_refused, room_told, finished_all}
use Rattle.sheet.proofs.finish.Goals as goal

pub returns-in_err-judge_lines : goal.returns-in_err-judge_lines
returns-in_err-judge_lines c = search (rules, finished_refused c.requires c.args.starts.now c.args.columns.now c.in_err-judge_lines.ensures refl)

pub store-requires : goal.store-requires
store-requires c = record { entries_at = c.requires; checks_in_bounds = room_told c.requires c.args.starts.now c.args.columns.now c.in_ok-judge_lines.ensures refl }

pub returns : goal.returns
returns c = finished_all c.requires c.args.starts.now c.args.columns.now c.in_ok-judge_lines.ensures refl c.store.ensures
