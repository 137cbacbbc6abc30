-- The lists of documents 01 and 02 by their roles: starts, columns and degrees are u32, sums i32, values f32, given positions u16, bits bytes.
use Rattle.std.specs.Prelude.{Bool, List, ℕ, ◌-◌, ◌*◌, ◌/◌, eqb, ℤ, Float, length, get_or}
use Rattle.std.specs.Float.{binary32}
use Rattle.std.specs.Float.Ieee.{of_bits}
use Rattle.std.specs.Int.{w32}
use Rattle.std.proofs.Common.{to_z, of_z}
use Rattle.rules.specs.Graphs.{Graph}
use Rattle.words.specs.Words.{word, table}
use Rattle.words.specs.declared.Graph as Lists

-- 'Starts and columns becoming 32-bit' (document 02, item 9): so many bytes is a row start or a column.
abbrev pub wide : ℕ
wide = 4

-- Row start i, and the column of entry e.
abbrev pub start_at : List ℕ → ℕ → ℕ
start_at starts i = word wide starts (wide * i)

abbrev pub column_at : List ℕ → ℕ → ℕ
column_at columns e = word wide columns (wide * e)

-- The degree of variable v, of a list of degrees: 32-bit numbers.
abbrev pub degree_at : List ℕ → ℕ → ℕ
degree_at degrees v = word 4 degrees (4 * v)

-- Given position k (document 02, item 3): 16-bit numbers.
abbrev pub position_at : List ℕ → ℕ → ℕ
position_at positions k = word 2 positions (2 * k)

-- The graph that two byte lists hold, admitted or not. No starts make no checks, which counts as a bad m.
abbrev pub graph_of : ℕ → List ℕ → List ℕ → Graph
graph_of n starts columns = record {
  variables = n;
  checks = length starts / wide - 1;
  entries = length columns / wide;
  start = start_at starts;
  column = column_at columns;
}

-- The graph of the lists that are lent.
abbrev pub graph_lent : Lists.Graph → Graph
graph_lent g = graph_of g.variables g.starts.now g.columns.now

-- The bit of variable v, of a list of bits in bytes: 1 is true.
abbrev pub bit_of_byte : List ℕ → ℕ → Bool
bit_of_byte bits v = eqb (get_or bits v 0) 1

-- 'Posterior sum, kept in halves as an i32'.
abbrev pub sum_at : List ℕ → ℕ → ℤ
sum_at sums v = to_z w32 (word 4 sums (4 * v))

-- The bit pattern of channel value v, and its f32. Every NaN pattern is the NaN.
abbrev pub pattern_at : List ℕ → ℕ → ℕ
pattern_at values v = word 4 values (4 * v)

abbrev pub value_at : List ℕ → ℕ → Float
value_at values v = of_bits binary32 (pattern_at values v)

-- The bytes of a list of sums.
abbrev pub sum_table : (ℕ → ℤ) → ℕ → List ℕ
sum_table f n = table 4 (λ v. of_z w32 (f v)) n
