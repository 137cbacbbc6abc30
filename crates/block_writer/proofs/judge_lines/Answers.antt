use Rattle.std.proofs.Common.{rules}
use mathlib.Core.Path.{refl}
use Rattle.texts.specs.Triples.{triple}
use Rattle.block_sheets.specs.Writer.Writing.{entries_in}
use Rattle.block_writer.proofs.Entries.{size_refused, size_some, size_then}
use Rattle.block_writer.proofs.judge_lines.Goals as goal

pub returns-in_err-judge_size : goal.returns-in_err-judge_size
returns-in_err-judge_size c = search (rules, size_refused (triple c.args.blocks.size c.args.blocks.rows c.args.blocks.columns) (entries_in c.args.blocks.entries.now) c.min-size.ensures c.min-rows.ensures c.min-columns.ensures c.in_err-judge_size.ensures refl)

pub judge_entries-requires : goal.judge_entries-requires
judge_entries-requires c = size_some (triple c.args.blocks.size c.args.blocks.rows c.args.blocks.columns) (entries_in c.args.blocks.entries.now) c.min-size.ensures c.min-rows.ensures c.min-columns.ensures c.in_ok-judge_size.ensures refl

pub returns : goal.returns
returns c = size_then (triple c.args.blocks.size c.args.blocks.rows c.args.blocks.columns) (entries_in c.args.blocks.entries.now) c.min-size.ensures c.min-rows.ensures c.min-columns.ensures c.in_ok-judge_size.ensures refl c.judge_entries.ensures
