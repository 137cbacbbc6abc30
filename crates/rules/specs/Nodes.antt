-- Document 01, 'One iteration', and document 02, item 1: what check nodes and variable nodes send, posterior sums and bits.
-- A rule takes messages as a function of the entry, and channel levels as a function of the variable.
use Rattle.std.specs.Prelude.{Bool, true, false, not, cond, ◌&&◌, ℕ, zero, suc, ◌+◌, ◌-◌, ◌*◌, ◌/◌, min, eqb, leb, ltb, ℤ, pos, negsuc, ◌+ℤ◌, neg_ℤ, nat_abs}
use Rattle.std.specs.Bool.{xor}
use Rattle.rules.specs.Ranges.{fold, but}
use Rattle.rules.specs.Levels.{Level}
use Rattle.rules.specs.Graphs.{Graph, check_degree, variable_degree, check_of}

-- ---- iteration 0

-- 'Every variable sends its channel sign with the smaller of its channel magnitude and Nq.'
unfoldable pub first_message : Graph → ℕ → (ℕ → Level) → ℕ → Level
first_message G Nq y e = record { minus = (y (G.column e)).minus; magnitude = min (y (G.column e)).magnitude Nq }

-- 'The bits are the channel signs, minus being 1.'
unfoldable pub first_bit : (ℕ → Level) → ℕ → Bool
first_bit y v = (y v).minus

-- ---- 'Check to variable'

-- f combined over the entries of e's check other than e.
unfoldable pub others : {A : Type 0} → Graph → (A → A → A) → A → (ℕ → A) → ℕ → A
others G op z f e = fold op z (but z e f) (G.start (check_of G e)) (check_degree G (check_of G e))

-- 'The sign is the product of the other incoming signs, the magnitude their least.' Two minus signs make a plus; 127 is the
-- largest magnitude of a byte, and every check has another entry.
unfoldable pub from_check : Graph → (ℕ → Level) → ℕ → Level
from_check G q e = record { minus = others G xor false (λ k. (q k).minus) e; magnitude = others G min 127 (λ k. (q k).magnitude) e }

-- ---- how a check message counts

-- L and W.
pub record Lifting : Type 0 where
  pub from : ℕ
  pub to : ℕ

-- 'Where 256 means never.'
abbrev pub never : ℕ
never = 256

-- 'From iteration L on'; never means in iterations 256, 257, .. too.
unfoldable pub lifts : Lifting → ℕ → Bool
lifts Λ t = leb Λ.from t && not (eqb Λ.from never)

-- 'A check message of magnitude Nq counts as magnitude W', every other as it is.
unfoldable pub lifted : ℕ → ℕ → Level → Level
lifted Nq W l = record { minus = l.minus; magnitude = cond (eqb l.magnitude Nq) W l.magnitude }

-- How a check message counts in the sums of iteration t.
unfoldable pub counted : ℕ → Lifting → ℕ → Level → Level
counted Nq Λ t l = cond (lifts Λ t) (lifted Nq Λ.to l) l

-- ---- 'Posterior sum, kept in halves'

-- s n, where s is +1 or -1.
abbrev pub signed : Bool → ℕ → ℤ
signed false n = pos n
signed true n = neg_ℤ (pos n)

-- 's(2M + e)': what a level adds to a sum.
unfoldable pub contribution : ℕ → Level → ℤ
contribution e l = signed l.minus (2 * l.magnitude + e)

unfoldable pub odd : ℕ → Bool
odd zero = false
odd (suc n) = not (odd n)

-- 'e applies to the channel level only and is 0 for d = 2, 1 for odd d, 2 for even d from 4.'
unfoldable pub extra : ℕ → ℕ
extra d = cond (eqb d 2) 0 (cond (odd d) 1 2)

-- The channel's part of the sum of variable v.
unfoldable pub channel_part : Graph → (ℕ → Level) → ℕ → ℤ
channel_part G y v = contribution (extra (variable_degree G v)) (y v)

-- What the check message at entry k adds to the sum of variable v: nothing where k is no entry of v.
unfoldable pub share : Graph → (ℕ → Level) → ℕ → ℕ → ℤ
share G C v k = cond (eqb (G.column k) v) (contribution 1 (C k)) (pos 0)

-- 's(2M + e) plus, over all d incoming messages, s(2M + 1).'
unfoldable pub posterior : Graph → (ℕ → Level) → (ℕ → Level) → ℕ → ℤ
posterior G y C v = channel_part G y v +ℤ fold ◌+ℤ◌ (pos 0) (share G C v) 0 G.entries

-- 'Bit: 1 for a negative sum, 0 for a positive one; a sum of zero takes the channel sign.'
abbrev pub bit_of : ℤ → Bool → Bool
bit_of (negsuc n) minus = true
bit_of (pos (suc n)) minus = false
bit_of (pos zero) minus = minus

-- ---- 'Variable to check'

-- 'U, the outgoing variable sum, is the same sum without the message from that check.'
unfoldable pub outgoing_sum : Graph → (ℕ → Level) → (ℕ → Level) → ℕ → ℤ
outgoing_sum G y C e = channel_part G y (G.column e) +ℤ fold ◌+ℤ◌ (pos 0) (but (pos 0) e (share G C (G.column e))) 0 G.entries

-- The offsets φs, φa and φ0. 'Each offset φ is 0 or 1.'
pub record Offsets : Type 0 where
  pub phi_s : ℕ
  pub phi_a : ℕ
  pub phi_0 : ℕ

-- 'The magnitude is Nq for F > Nq; Nq - φs for F = Nq; F - φa for 2 ≤ F < Nq; 1 - φ0 for F = 1 < Nq; 0 for F = 0.'
unfoldable pub outgoing_magnitude : ℕ → Offsets → ℕ → ℕ
outgoing_magnitude Nq φ F =
    cond (ltb Nq F) Nq
    (cond (eqb F Nq) (Nq - φ.phi_s)
    (cond (leb 2 F) (F - φ.phi_a)
    (cond (eqb F 1) (1 - φ.phi_0) 0)))

abbrev pub negative : ℤ → Bool
negative (pos n) = false
negative (negsuc n) = true

-- 'With F = (|U| - 1) / 2 the magnitude is .. The sign is U's.'
unfoldable pub outgoing : ℕ → Offsets → ℤ → Level
outgoing Nq φ U = record { minus = negative U; magnitude = outgoing_magnitude Nq φ ((nat_abs U - 1) / 2) }

unfoldable pub from_variable : Graph → ℕ → Offsets → (ℕ → Level) → (ℕ → Level) → ℕ → Level
from_variable G Nq φ y C e = outgoing Nq φ (outgoing_sum G y C e)
