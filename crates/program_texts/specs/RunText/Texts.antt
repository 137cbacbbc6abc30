-- Document 01, 'Code sheet and program': what stands in a run text, at its front.
use Rattle.std.specs.Prelude.{Bool, true, false, cond, ◌&&◌, List, [], ◌∷◌, ℕ, zero, suc, ◌+◌, ◌-◌, ◌*◌, leb, ltb}
use Rattle.std.specs.Float.{binary32}
use Rattle.std.specs.Float.Ieee.{of_bits}
use Rattle.texts.specs.Quoted.{ascii}
use Rattle.texts.specs.Numbers.{Front, other, value}
use Rattle.texts.specs.Lines.{space, lf, and_then, ended_by, field, fixed}
use Rattle.settings.specs.declared.Scaling.{Scaling}
use Rattle.settings.specs.declared.Scaling.TheVariants.{Plain, Noise}
use Rattle.rules.specs.Nodes.{never}
use Rattle.settings.specs.Settings.{largest_lift}
use Rattle.settings.specs.declared.Parameters.{Parameters}

-- The first of two forms that stands there.
abbrev pub first_of : {A : Type 0} → Front A → Front A → Front A
first_of other y = y
first_of (value a t) y = value a t

-- ---- numbers

-- The value of a lowercase hexadecimal digit, 16 where the byte is none.
unfoldable pub hex_digit : ℕ → ℕ
hex_digit b = cond (leb 48 b && leb b 57) (b - 48) (cond (leb 97 b && leb b 102) (b - 87) 16)

-- k hexadecimal digits, after those that make v.
unfoldable pub hex_digits : ℕ → ℕ → List ℕ → Front ℕ
hex_digits zero v t = value v t
hex_digits (suc k) v [] = other
hex_digits (suc k) v (b ∷ t) = cond (ltb (hex_digit b) 16) (hex_digits k (v * 16 + hex_digit b) t) other

-- 'Eight lowercase hexadecimal digits of f32 bits', with the byte x after them.
unfoldable pub pattern : ℕ → List ℕ → Front ℕ
pattern x t = and_then (hex_digits 8 0 t) (ended_by x)

-- A number of at most five digits: one below 100,000.
abbrev pub five_digits : ℕ → List ℕ → Front ℕ
five_digits v t = cond (leb v 99999) (value v t) other

-- 'The others are decimal, at most five digits', with the byte x after it.
unfoldable pub setting : ℕ → List ℕ → Front ℕ
setting x t = and_then (field x t) five_digits

-- ---- line 1

-- 'Line 1 `gain channel message phi_s phi_a phi_0 limit`, or the same with `variance` after `gain`.'
abbrev pub plain_titles : List ℕ
plain_titles = ascii "gain channel message phi_s phi_a phi_0 limit\n"

abbrev pub noise_titles : List ℕ
noise_titles = ascii "gain variance channel message phi_s phi_a phi_0 limit\n"

-- Whether there is a variance.
unfoldable pub titles : List ℕ → Front Bool
titles t = first_of (and_then (fixed plain_titles t) (λ u r. value false r)) (and_then (fixed noise_titles t) (λ u r. value true r))

-- ---- line 2

-- The gain, and the variance where there is one, as f32.
unfoldable pub scaling : Bool → List ℕ → Front Scaling
scaling false t = and_then (pattern space t) (λ g r. value (Plain (of_bits binary32 g)) r)
scaling true t =
    and_then (pattern space t) (λ g r. and_then (pattern space r) (λ v u. value (Noise (of_bits binary32 g) (of_bits binary32 v)) u))

-- Three decimal numbers, the byte x after the last.
pub record Three : Type 0 where
  pub first : ℕ
  pub second : ℕ
  pub third : ℕ

abbrev pub three : ℕ → ℕ → ℕ → Three
three a b c = record { first = a; second = b; third = c }

unfoldable pub settings : ℕ → List ℕ → Front Three
settings x t =
    and_then (setting space t) (λ a t₁. and_then (setting space t₁) (λ b t₂. and_then (setting x t₂) (λ c t₃. value (three a b c) t₃)))

-- 'Run text means L 256'; W then never shows.
abbrev pub given : Scaling → Three → Three → Parameters
given s a b = record {
  scaling = s;
  channel = a.first;
  message = a.second;
  phi_s = a.third;
  phi_a = b.first;
  phi_0 = b.second;
  limit = b.third;
  lift_from = never;
  lift_to = largest_lift;
}

-- 'Line 2 the values': scaling, channel, message, phi_s, then phi_a, phi_0, limit.
unfoldable pub settings_line : Bool → List ℕ → Front Parameters
settings_line noise t =
    and_then (scaling noise t) (λ s t₁. and_then (settings space t₁) (λ a t₂. and_then (settings lf t₂) (λ b t₃. value (given s a b) t₃)))

-- ---- line 3

-- 'Line 3 `value`.'
abbrev pub value_title : List ℕ
value_title = ascii "value\n"
