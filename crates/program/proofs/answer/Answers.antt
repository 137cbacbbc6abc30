use Rattle.program.proofs.Inputs.{program_large, program_small, answer_none, answer_put}
use native.Mathlib.Omega.{arith}
use Rattle.program.proofs.answer.Goals as goal

pub returns-then-out-lt-LONGEST : goal.returns-then-out-lt-LONGEST
returns-then-out-lt-LONGEST c = answer_none c.args.sheet.now c.args.run.now c.if-out-lt-LONGEST.true

pub returns-then-sheet-gt-LARGEST_INPUT : goal.returns-then-sheet-gt-LARGEST_INPUT
returns-then-sheet-gt-LARGEST_INPUT c = answer_put c.args.sheet.now c.args.run.now (omega arith) (program_large c.args.sheet.now c.args.run.now c.if-sheet-gt-LARGEST_INPUT.true) c.put_refusal.ensures

pub returns : goal.returns
returns c = answer_put c.args.sheet.now c.args.run.now (omega arith) (program_small c.args.sheet.now c.args.run.now (omega arith)) c.sheet_answer.ensures
