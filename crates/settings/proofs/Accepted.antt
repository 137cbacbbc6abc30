-- Laws of settings: their refusals in order, and what is known of those that are not turned down.
use Rattle.std.specs.Prelude.{Ok, Err}
use mathlib.Core.Path.{◌≡◌, refl, sym, ap, ◌∙◌, subst}
use mathlib.Core.Bool.{Bool, true, false, not, ◌&&◌, ◌||◌, true≢false}
use Prim.Native.Nat.{ℕ, ◌-◌, ◌≤◌, ◌<◌}
use native.Mathlib.Omega.{arith}
use borrow.Author.Tests.{eqb-true, leb-true, ltb-true, lt-ltb}
use lib.Dec.{eqb, leb, ltb}
use lib.Ieee.{Float}
use Rattle.rules.specs.Levels.{largest}
use Rattle.rules.specs.Nodes.{never}
use Rattle.refusals.specs.Refusals.{unless, or_else, Judged}
use Rattle.refusals.specs.declared.Refusal.TheVariants as Refusal
use Rattle.refusals.proofs.Judging.{refused_not}
use Rattle.rules.proofs.Tests.{and_left, and_right}
use Rattle.rules.proofs.Own.{largest_within}
use Rattle.settings.specs.declared.Parameters.{Parameters}
use Rattle.settings.specs.declared.Settings.{Settings}
use Rattle.settings.specs.Scaling.{factor_of, scaling_admitted, infinite_or_zero}
use Rattle.settings.specs.Settings.{largest_lift, precisions_admitted, options_admitted, lifting_admitted, settings_judged, settings, checked, settings_of, Checked}
use Rattle.settings.specs.Theorems.{Admissible, GoodSettings, JudgedAsBefore}
use Rattle.settings.proofs.Factors.{factor_positive}

abbrev in_order : Bool → Bool → Bool → Bool → Bool → Judged
in_order p o l g f =
    or_else (unless p Refusal.Precision) (or_else (unless o Refusal.Option) (or_else (unless l Refusal.Lifting) (or_else (unless g Refusal.Scaling) (unless f Refusal.Factor))))

module _ (p : Parameters) where
  -- the answer, by what each of the five tests gave
  pub tested : {b o l g f : Bool} → precisions_admitted p.channel p.message ≡ b → options_admitted p ≡ o → lifting_admitted p ≡ l
      → scaling_admitted p.scaling ≡ g → not (infinite_or_zero (factor_of p.scaling)) ≡ f
      → checked (in_order b o l g f) (settings p) ≡ settings_of p
  unfolding settings_of
  tested hp ho hl hg hf = cc

  pub with_factor : {f : Float} → f ≡ factor_of p.scaling
      → ◌≡◌ {A = Checked} (Ok (record { factor = f; channel = p.channel; message = p.message; phi_s = p.phi_s; phi_a = p.phi_a; phi_0 = p.phi_0; limit = p.limit; lift_from = p.lift_from; lift_to = p.lift_to }))
      (Ok (settings p))
  with_factor e = cc

either : {P : Type 0} (a b : Bool) → (a ≡ true → P) → (b ≡ true → P) → a || b ≡ true → P
either true b f g h = f refl
either false b f g h = g h

pub precision_bounds : (channel message : ℕ) → precisions_admitted channel message ≡ true
    → ((3 ≤ channel) × (channel ≤ 4)) × ((2 ≤ message) × (message ≤ channel))
precision_bounds channel message h =
    let of_channel = eqb channel 3 || eqb channel 4 in
    let of_message = eqb message channel || eqb message (channel - 1) in
    let bits : (3 ≤ channel) × (channel ≤ 4) =
    either (eqb channel 3) (eqb channel 4) (λ e. omega (arith, eqb-true channel 3 e)) (λ e. omega (arith, eqb-true channel 4 e)) (and_left of_channel of_message h) in
    let fewer : (2 ≤ message) × (message ≤ channel) =
    either (eqb message channel) (eqb message (channel - 1)) (λ e. omega (arith, eqb-true message channel e)) (λ e. omega (arith, eqb-true message (channel - 1) e)) (and_right of_channel of_message h) in
    (bits, fewer)

-- four tests, one after the other
four_true : (a b c d : Bool) → a && b && c && d ≡ true → (a ≡ true) × (b ≡ true) × (c ≡ true) × (d ≡ true)
four_true true true true true h = (refl, refl, refl, refl)
four_true true true true false h = absurd (true≢false (sym h))
four_true true true false d h = absurd (true≢false (sym h))
four_true true false c d h = absurd (true≢false (sym h))
four_true false b c d h = absurd (true≢false (sym h))

pub option_bounds : (p : Parameters) → options_admitted p ≡ true → ((p.phi_s ≤ 1) × (p.phi_a ≤ 1) × (p.phi_0 ≤ 1)) × (p.limit ≤ 255)
option_bounds p h =
    let t = four_true (leb p.phi_s 1) (leb p.phi_a 1) (leb p.phi_0 1) (leb p.limit 255) h in
    let offsets : (p.phi_s ≤ 1) × (p.phi_a ≤ 1) × (p.phi_0 ≤ 1) =
    (leb-true p.phi_s 1 t.0, leb-true p.phi_a 1 t.1, leb-true p.phi_0 1 t.2) in
    (offsets, leb-true p.limit 255 t.3)

pub lifting_bounds : (p : Parameters) → lifting_admitted p ≡ true
    → (1 ≤ p.lift_from) × (p.lift_from ≤ never) × (largest p.message < p.lift_to) × (p.lift_to ≤ largest_lift)
lifting_bounds p h =
    let t = four_true (leb 1 p.lift_from) (leb p.lift_from never) (ltb (largest p.message) p.lift_to) (leb p.lift_to largest_lift) h in
    (leb-true 1 p.lift_from t.0, leb-true p.lift_from never t.1, ltb-true (largest p.message) p.lift_to t.2, leb-true p.lift_to largest_lift t.3)

checked_good : (j : Judged) (made s : Settings) → checked j made ≡ Ok s → (j ≡ Ok tt) × (s ≡ made)
checked_good (Ok _) made s h = (refl, cc)
checked_good (Err r) made s h = let z : ◌≡◌ {A = ℕ} 0 1 = cc in absurd (omega arith)

all_pass : (p o l g f : Bool) → in_order p o l g f ≡ Ok tt → (p ≡ true) × (o ≡ true) × (l ≡ true) × (g ≡ true) × (f ≡ true)
all_pass true true true true true h = (refl, refl, refl, refl, refl)
all_pass true true true true false h = absurd (refused_not h)
all_pass true true true false f h = absurd (refused_not h)
all_pass true true false g f h = absurd (refused_not h)
all_pass true false l g f h = absurd (refused_not h)
all_pass false o l g f h = absurd (refused_not h)

pub good_settings : GoodSettings
unfolding settings_of
good_settings p s h =
    let made = settings p in
    let good = checked_good (settings_judged p) made s h in
    let passed = all_pass (precisions_admitted p.channel p.message) (options_admitted p) (lifting_admitted p) (scaling_admitted p.scaling) (not (infinite_or_zero (factor_of p.scaling))) good.0 in
    let bits = precision_bounds p.channel p.message passed.0 in
    let options = option_bounds p passed.1 in
    let admissible : Admissible made = record {
      factor = factor_positive p.scaling passed.3 ∙ passed.4;
      channel = bits.0;
      message = bits.1;
      offsets = options.0;
      limit = options.1;
      lifting = lifting_bounds p passed.2;
    } in
    (good.1, subst Admissible (sym good.1) admissible)

-- ---- nothing lifted

pub judged_as_before : JudgedAsBefore
judged_as_before p hL hW = go (precisions_admitted p.channel p.message) refl
  where
    admitted : precisions_admitted p.channel p.message ≡ true → lifting_admitted p ≡ true
    admitted h =
        let bits = precision_bounds p.channel p.message h in
        rw (hL, hW, lt-ltb (largest p.message) largest_lift (omega (arith, largest_within p.message (omega arith))))

    rest : Judged → Judged
    rest l = or_else (unless (options_admitted p) Refusal.Option) (or_else l (or_else (unless (scaling_admitted p.scaling) Refusal.Scaling) (unless (not (infinite_or_zero (factor_of p.scaling))) Refusal.Factor)))

    go : (b : Bool) → precisions_admitted p.channel p.message ≡ b
        → or_else (unless b Refusal.Precision) (rest (unless (lifting_admitted p) Refusal.Lifting)) ≡ or_else (unless b Refusal.Precision) (rest (Ok tt))
    go true h = ap (λ l. rest (unless l Refusal.Lifting)) (admitted h)
    go false h = refl
