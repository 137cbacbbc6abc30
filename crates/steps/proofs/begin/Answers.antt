use mathlib.Core.Path.{◌≡◌, sym, ap, ◌∙◌}
use Prim.Native.Nat.{◌/◌}
use native.Mathlib.Omega.{arith}
use lib.ListN.{length}
use Rattle.words.specs.Roles.{wide}
use Rattle.rules.specs.Ranges.{tabulate}
use Rattle.rules.proofs.Filling.{tabulate_same}
use Rattle.settings.proofs.Magnitudes.{quantised_all}
use Rattle.steps.proofs.begin.Goals as goal

pub first_messages-requires : goal.first_messages-requires
first_messages-requires c = record { outgoing_len = (omega arith, omega arith); by_index = λ e h. omega (arith, c.quantise.auto.levels, c.requires.by_index e (omega arith)) }

pub returns : goal.returns
returns c =
    let h : length c.args.variable_messages.now ≡ length c.args.columns.now / wide = omega arith in
    record {
      levels = c.quantise.ensures ∙ quantised_all c.args.channel_most c.args.factor c.args.values.now c.args.levels.now (omega arith) (omega arith);
      variable_messages = c.first_messages.ensures ∙ ap (tabulate _) h;
      check_messages = c.fill.ensures.after (λ y h. h) ∙ sym (tabulate_same 0 _);
      sums = c.fill-2.ensures.after (λ y h. h) ∙ sym (tabulate_same 0 _);
      bits = c.first_bits.ensures;
    }
