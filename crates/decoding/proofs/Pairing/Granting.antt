-- The arithmetic of grants.
use mathlib.Core.Path.{◌≡◌, ap, ap₂, ◌∙◌}
use Prim.Native.Nat.{ℕ, ◌+◌, ◌-◌, ◌≤◌, ◌<◌, min}
use native.Mathlib.Decide.{dec_lt}
use native.Mathlib.Omega.{arith}
use Rattle.decoding.specs.Pairing.Grants.{grant, half_up, half_down, first_grant, second_grant}
use Rattle.decoding.specs.Pairing.Granting.{GrantsWithin}

pub halves : (T : ℕ) → half_up T + half_down T ≡ T
halves T = omega arith

-- of any two shares that make up the whole: a head that stays within its own takes all it wants; one that does not gets what the other leaves, or its share
kept_within : (h T a b : ℕ) → a ≤ h → grant h T a b ≡ a
kept_within h T a b l = omega arith

left_over : (h h' a b : ℕ) → b ≤ h' → grant h (h + h') a b ≡ min a (h + h' - b)
left_over h h' a b l = omega arith

held_back : (h h' a b : ℕ) → h < a → h' < b → grant h (h + h') a b ≡ h
held_back h h' a b l m = omega arith

shares : (h h' a b : ℕ) → grant h (h + h') a b + grant h' (h + h') b a ≡ min (h + h') (a + b)
shares h h' a b = go (dec_lt h a) (dec_lt h' b)
  where
    turn : h + h' ≡ h' + h
    turn = omega arith

    go : Dec (h < a) → Dec (h' < b) → grant h (h + h') a b + grant h' (h + h') b a ≡ min (h + h') (a + b)
    go (no l) (no m) = ap₂ ◌+◌ (kept_within h (h + h') a b (omega arith)) (kept_within h' (h + h') b a (omega arith)) ∙ omega arith
    go (no l) (yes m) = ap₂ ◌+◌ (kept_within h (h + h') a b (omega arith)) (ap (λ (T : ℕ). grant h' T b a) turn ∙ left_over h' h b a (omega arith)) ∙ omega arith
    go (yes l) (no m) = ap₂ ◌+◌ (left_over h h' a b (omega arith)) (kept_within h' (h + h') b a (omega arith)) ∙ omega arith
    go (yes l) (yes m) = ap₂ ◌+◌ (held_back h h' a b l m) (ap (λ (T : ℕ). grant h' T b a) turn ∙ held_back h' h b a m l) ∙ omega arith

within_whole : (x T s : ℕ) → x ≡ min T s → x ≤ T
within_whole x T s e = omega arith

pub grants_within : GrantsWithin
grants_within T a b = record { within = within_whole (first_grant T a b + second_grant T a b) T (a + b) used; used = used }
  where
    used : first_grant T a b + second_grant T a b ≡ min T (a + b)
    used = rw (halves T) at (shares (half_up T) (half_down T) a b)

-- where the allowance is enough for both, each is granted what it takes alone
pub granted_all : (half T own other : ℕ) → own + other ≤ T → grant half T own other ≡ own
granted_all half T own other l = omega arith
