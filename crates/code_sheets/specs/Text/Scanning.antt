-- What the first pass owes: the lines as `sheet_lines` has them.
use Rattle.std.specs.Prelude.{◌≡◌, List, ℕ, ◌≤◌, Ok, Err, Result}
use Rattle.rules.specs.Graphs.{Limits, limits}
use Rattle.texts.specs.Lines.{Pair, pair}
use Rattle.texts.specs.Scanning as Listing
use Rattle.code_sheets.specs.Text.Reading.{Lines, refused, sheet_entries}
use Rattle.code_sheets.specs.declared.Counts.{Counts}
use Rattle.refusals.specs.declared.Refusal.{Refusal}

abbrev pub counted : Counts → Pair
counted k = pair k.variables k.checks

-- The limits of a graph whose counts may be as large as these.
abbrev pub within : Counts → Limits
within most = record {
  variables = most.variables;
  checks = most.checks;
  entries = most.entries;
  check_degree = limits.check_degree;
  variable_degree = limits.variable_degree;
}

-- The largest counts of a sheet.
abbrev pub largest_counts : Counts
largest_counts = record { variables = limits.variables; checks = limits.checks; entries = limits.entries }

-- No count is above its limit.
pub record UpTo (k : Counts) (L : Limits) : Type 0 where
  pub variables : k.variables ≤ L.variables
  pub checks : k.checks ≤ L.checks
  pub entries : k.entries ≤ L.entries

-- The counts and the place of the first entry's line, or the first refusal of the lines.
abbrev pub Scanned : Type 0
Scanned = Result (Counts × ℕ) Refusal

-- The lines x of the text s have these counts, and the entries' lines begin at `at`.
abbrev pub LinesAt : Limits → List ℕ → Lines → Counts → ℕ → Type 0
LinesAt L s x k at = Listing.LinesAt sheet_entries L.entries s x (counted k) k.entries at

abbrev pub ScannedAs : Limits → List ℕ → Lines → Scanned → Type 0
ScannedAs L s x (Err r) = x ≡ refused r
ScannedAs L s x (Ok (k, at)) = LinesAt L s x k at
