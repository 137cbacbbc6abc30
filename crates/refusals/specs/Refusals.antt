-- Document 01, 'What each call turns down', and document 02: refusals with their numbers and places, and the order in which they are looked for.
use Rattle.std.specs.Prelude.{Bool, true, false, ℕ, Result, Ok, Err}
use Rattle.rules.specs.Ranges.{fold}
use Rattle.refusals.specs.declared.Refusal.{Refusal}
use Rattle.refusals.specs.declared.Refusal.TheVariants.{Form, Count, Range, Order, Degree, Buffer, Start, Precision, Option, Scaling, Factor, Value, Length, RunText, Bit, Lifting, Shift, Positions, NoCodeword, Blank, Advance, Allowance}
use Rattle.refusals.specs.declared.Numbered.{Numbered}

abbrev numbered : ℕ → ℕ → Numbered
numbered n p = record { number = n; place = p }

-- 'Every refusal carries a number and a place. Place is 0 unless given.'
abbrev pub paper : Refusal → Numbered
paper (Form p) = numbered 1 p  -- a line of another form, or a missing line or LF
paper (Count p) = numbered 2 p  -- a count outside its limits, too many entries, an oversized file
paper (Range p) = numbered 3 p  -- a column, a check number, or a number of a sheet out of range
paper (Order p) = numbered 4 p  -- a column not above its predecessor, an entry not after the one above
paper (Degree p) = numbered 5 p  -- a degree outside its limits
paper Buffer = numbered 6 0  -- a lent buffer too short
paper (Start p) = numbered 7 p  -- a start that does not begin at 0, falls, or does not end at E
paper Precision = numbered 8 0  -- precisions not admitted
paper Option = numbered 9 0  -- an offset above 1 or limit above 255
paper Scaling = numbered 10 0  -- gain or variance not finite and above zero
paper Factor = numbered 11 0  -- factor infinite or zero
paper (Value p) = numbered 12 p  -- a value infinite or NaN
paper (Length p) = numbered 13 p  -- other than n values, other than n bits
paper (RunText p) = numbered 14 p  -- a line of the run text
paper (Bit p) = numbered 15 p  -- a byte not 0 or 1
paper Lifting = numbered 16 0  -- W or L outside its bounds
paper (Shift p) = numbered 17 p  -- a block size of 0, a shift not below the size
paper Positions = numbered 18 0  -- given positions out of order or range, or not as many as given bits
paper NoCodeword = numbered 19 0  -- no codeword holds the given bits
paper Blank = numbered 20 0  -- a blank frame: every channel magnitude is 0
paper Advance = numbered 21 0  -- a finished record, one at or past its limit, a count above the limit, a level or message beyond its precision
paper Allowance = numbered 22 0  -- an allowance of two heads outside its bounds

-- What a check of some input finds: nothing, or why it is turned down.
abbrev pub Judged : Type 0
Judged = Result (Unit {0}) Refusal

-- The refusal where the test fails.
abbrev pub unless : Bool → Refusal → Judged
unless true r = Ok tt
unless false r = Err r

-- 'Where several apply, the one named first below is given.'
abbrev pub or_else : Judged → Judged → Judged
or_else (Ok _) j = j
or_else (Err r) j = Err r

-- 'Each looked for over the whole input before the next': the first refusal of j 0, j 1, .., j (k - 1).
unfoldable pub each : (ℕ → Judged) → ℕ → Judged
each j k = fold or_else (Ok tt) j 0 k
