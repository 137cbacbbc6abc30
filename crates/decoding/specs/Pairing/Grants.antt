-- Document 02, item 7, 'Two heads, one allowance': how many iterations each head is granted.
use Rattle.std.specs.Prelude.{ℕ, ◌+◌, ◌-◌, ◌/◌, min, max}

-- 'The smaller of a and the larger of T/2 .. and T - b', for a head that takes `own` iterations alone where the other takes `other`. (T - other is 0
-- where the other takes more than T.)
abbrev pub grant : ℕ → ℕ → ℕ → ℕ → ℕ
grant half T own other = min own (max half (T - other))

-- 'T/2 rounded up', of the first head, and 'rounded down', of the second.
abbrev pub half_up : ℕ → ℕ
half_up T = (T + 1) / 2

abbrev pub half_down : ℕ → ℕ
half_down T = T / 2

-- What the first and the second head get, where they take a and b alone.
abbrev pub first_grant : ℕ → ℕ → ℕ → ℕ
first_grant T a b = grant (half_up T) T a b

abbrev pub second_grant : ℕ → ℕ → ℕ → ℕ
second_grant T a b = grant (half_down T) T b a
