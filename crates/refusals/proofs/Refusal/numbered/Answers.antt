use Rattle.refusals.proofs.Refusal.numbered.Goals as goal

pub returns-in-Form : goal.returns-in-Form
returns-in-Form c = rw c.in-Form.is

pub returns-in-Count : goal.returns-in-Count
returns-in-Count c = rw c.in-Count.is

pub returns-in-Range : goal.returns-in-Range
returns-in-Range c = rw c.in-Range.is

pub returns-in-Order : goal.returns-in-Order
returns-in-Order c = rw c.in-Order.is

pub returns-in-Degree : goal.returns-in-Degree
returns-in-Degree c = rw c.in-Degree.is

pub returns-in-Buffer : goal.returns-in-Buffer
returns-in-Buffer c = rw c.in-Buffer.is

pub returns-in-Start : goal.returns-in-Start
returns-in-Start c = rw c.in-Start.is

pub returns-in-Precision : goal.returns-in-Precision
returns-in-Precision c = rw c.in-Precision.is

pub returns-in-Option : goal.returns-in-Option
returns-in-Option c = rw c.in-Option.is

pub returns-in-Scaling : goal.returns-in-Scaling
returns-in-Scaling c = rw c.in-Scaling.is

pub returns-in-Factor : goal.returns-in-Factor
returns-in-Factor c = rw c.in-Factor.is

pub returns-in-Value : goal.returns-in-Value
returns-in-Value c = rw c.in-Value.is

pub returns-in-Length : goal.returns-in-Length
returns-in-Length c = rw c.in-Length.is

pub returns-in-RunText : goal.returns-in-RunText
returns-in-RunText c = rw c.in-RunText.is

pub returns-in-Bit : goal.returns-in-Bit
returns-in-Bit c = rw c.in-Bit.is

pub returns-in-Lifting : goal.returns-in-Lifting
returns-in-Lifting c = rw c.in-Lifting.is

pub returns-in-Shift : goal.returns-in-Shift
returns-in-Shift c = rw c.in-Shift.is

pub returns-in-Positions : goal.returns-in-Positions
returns-in-Positions c = rw c.in-Positions.is

pub returns-in-NoCodeword : goal.returns-in-NoCodeword
returns-in-NoCodeword c = rw c.in-NoCodeword.is

pub returns-in-Blank : goal.returns-in-Blank
returns-in-Blank c = rw c.in-Blank.is

pub returns-in-Advance : goal.returns-in-Advance
returns-in-Advance c = rw c.in-Advance.is

pub returns-in-Allowance : goal.returns-in-Allowance
returns-in-Allowance c = rw c.in-Allowance.is
