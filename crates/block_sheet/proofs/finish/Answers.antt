use Rattle.std.proofs.Common.{rules}
use mathlib.Core.Path.{refl}
use native.Mathlib.Omega.{arith}
use Rattle.block_sheet.proofs.Ways.{entries_small, finished_refused, room_told, rows_told, finished_all}
use Rattle.block_sheet.proofs.finish.Goals as goal

pub returns-in_err-judge_blocks : goal.returns-in_err-judge_blocks
returns-in_err-judge_blocks c = search (rules, finished_refused c.requires c.args.starts.now c.args.columns.now c.in_err-judge_blocks.ensures refl)

pub store-requires : goal.store-requires
store-requires c = let q = c.in_ok-judge_blocks.ensures in record { blocks_at = (c.requires, rows_told c.requires c.args.starts.now c.args.columns.now q refl); size_in_bounds = room_told c.requires c.args.starts.now c.args.columns.now q refl }

pub overflow_mul-result-3 : goal.overflow_mul-result-3
overflow_mul-result-3 c = record { fits = omega (arith, entries_small c.requires) }

pub returns : goal.returns
returns c = finished_all c.requires c.args.starts.now c.args.columns.now c.in_ok-judge_blocks.ensures refl c.store.ensures
