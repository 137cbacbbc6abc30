-- 'A block sheet is accepted exactly when its form, ranges and order are right, its expansion is admitted and the buffers suffice.'
use Rattle.std.specs.Prelude.{◌≡◌, List, ℕ}
use Rattle.rules.specs.Graphs.{Graph, Admitted}
use Rattle.code_sheets.specs.Reader.Reading.{graph}
use Rattle.code_sheets.specs.Reader.Theorems.{Suffice}
use Rattle.block_sheets.specs.Text.Blocks.{Blocks}
use Rattle.block_sheets.specs.Text.Expansion.{expansion}
use Rattle.block_sheets.specs.Text.Reading.{block_text}
use Rattle.block_sheets.specs.Text.Theorems.{Ordered}
use Rattle.block_sheets.specs.Reader.Reading.{block_read_in}

-- t is the text of blocks in range and order, their expansion G is admitted, and lists of d, s and c bytes suffice.
pub record ReadFrom (t : List ℕ) (d s c : ℕ) (G : Graph) : Type 0 where
  pub blocks : Blocks
  pub ordered : Ordered blocks
  pub text : t ≡ block_text blocks
  pub gives : G ≡ expansion blocks
  pub admitted : Admitted G
  pub suffice : Suffice G d s c

pub record BlocksAccepted : Type 0 where
  pub only : (t : List ℕ) (d s c : ℕ) (G : Graph) → block_read_in t d s c ≡ graph G → ReadFrom t d s c G
  pub all : (t : List ℕ) (d s c : ℕ) (G : Graph) → ReadFrom t d s c G → block_read_in t d s c ≡ graph G
  -- no two blocks in range and order whose expansions are admitted have one text
  pub one_text : (a b : Blocks) → Ordered a → Ordered b → Admitted (expansion a) → Admitted (expansion b) → block_text a ≡ block_text b → a ≡ b
