use Rattle.std.proofs.Common.{rules, ◌++◌, ◌∙◌, ap, take, sym, subst}
use Rattle.std.proofs.lemmas.List.{take_rest}
use Rattle.std.specs.Io.KnownBytes.{Appends}
use Rattle.std.proofs.KnownBytes.{Appends-trans}
use lib.Seq.{take-add}
use Rattle.files.proofs.write_whole.Goals as goal

pub loop-written-preserved-in-Ok : goal.loop-written-preserved-in-Ok
loop-written-preserved-in-Ok g c =
    let (within, before) = c.loop-written.invariant in
    let text = c.args.text.now in
    let written = c.loop-written.written in
    let put = c.in-Ok.put in
    let front = take-add written put text ∙ ap (λ l. take written text ++ take put l) (sym (take_rest text written)) in
    (search rules, subst (Appends _ _) (sym front) (Appends-trans _ _ _ _ _ before c.in-Ok.ensures.bytes))
