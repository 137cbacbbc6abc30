-- Document 01, 'Decode', refusals 8 to 11, and document 02, item 1, refusal 16: the settings, or why they are turned down.
use Rattle.std.specs.Prelude.{Bool, not, ◌&&◌, ◌||◌, ℕ, ◌-◌, eqb, leb, ltb, Ok, Err, Result}
use Rattle.rules.specs.Levels.{largest}
use Rattle.rules.specs.Nodes.{never}
use Rattle.refusals.specs.Refusals.{unless, or_else, Judged}
use Rattle.settings.specs.declared.Parameters.{Parameters}
use Rattle.settings.specs.declared.Settings.{Settings}
use Rattle.settings.specs.Scaling.{factor_of, scaling_admitted, infinite_or_zero}
use Rattle.refusals.specs.declared.Refusal.{Refusal}

-- The largest W.
abbrev pub largest_lift : ℕ
largest_lift = 15

-- 'Channel precision is 3 or 4 bits, message precision equal to it or one less.'
abbrev pub precisions_admitted : ℕ → ℕ → Bool
precisions_admitted channel message = (eqb channel 3 || eqb channel 4) && (eqb message channel || eqb message (channel - 1))

module _ (p : Parameters) where
  -- 'An offset above 1 or limit above 255' is refused.
  abbrev pub options_admitted : Bool
  options_admitted = leb p.phi_s 1 && leb p.phi_a 1 && leb p.phi_0 1 && leb p.limit 255

  -- 'L is 1 to 256', 'W is Nq + 1 to 15'.
  abbrev pub lifting_admitted : Bool
  lifting_admitted = leb 1 p.lift_from && leb p.lift_from never && ltb (largest p.message) p.lift_to && leb p.lift_to largest_lift

  -- '8, precisions not admitted; 9, an offset above 1 or limit above 255'; then l, what is found of the lifting; '10, gain or variance not
  -- finite and above zero; 11, factor infinite or zero.'
  abbrev pub judged_with : Judged → Judged
  judged_with l =
      or_else (unless (precisions_admitted p.channel p.message) Refusal.Precision)
      (or_else (unless options_admitted Refusal.Option)
      (or_else l
      (or_else (unless (scaling_admitted p.scaling) Refusal.Scaling)
      (unless (not (infinite_or_zero (factor_of p.scaling))) Refusal.Factor))))

  -- 'It refuses a W or L outside these bounds with 16, directly after 9.'
  abbrev pub settings_judged : Judged
  settings_judged = judged_with (unless lifting_admitted Refusal.Lifting)

  -- The factor, beside the precisions in bits, the offsets, the limit, L and W as they were given.
  abbrev pub settings : Settings
  settings = record {
    factor = factor_of p.scaling;
    channel = p.channel;
    message = p.message;
    phi_s = p.phi_s;
    phi_a = p.phi_a;
    phi_0 = p.phi_0;
    limit = p.limit;
    lift_from = p.lift_from;
    lift_to = p.lift_to;
  }

-- The settings, or the refusal.
abbrev pub Checked : Type 0
Checked = Result Settings Refusal

-- The settings, unless they were turned down.
abbrev pub checked : Judged → Settings → Checked
checked (Ok _) s = Ok s
checked (Err r) s = Err r

-- The settings, or why they are turned down.
unfoldable pub settings_of : Parameters → Checked
settings_of p = checked (settings_judged p) (settings p)
