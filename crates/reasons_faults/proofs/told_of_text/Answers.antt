use Rattle.std.proofs.Common.{◌++◌, ap, ◌∙◌}
use Rattle.reasons_faults.specs.Reasons.{spelled, left_out_of}
use Rattle.reasons_faults.proofs.told_of_text.Goals as goal

pub returns-in_ok-put_left_out-in-Ok : goal.returns-in_ok-put_left_out-in-Ok
returns-in_ok-put_left_out-in-Ok c =
    let told = c.in_ok-lines-in-Ok.lines.items in
    spelled c.requires.other c.args.written c.requires.spelled c.in-Ok.tokens.items c.in-Ok.ensures.found
    (record {
      told = told;
      of_kind = c.in_ok-lines-in-Ok.ensures;
      are = c.in_ok-put_left_out-in-Ok.ensures ∙ ap (λ tokens. told ++ left_out_of c.args.text.now tokens c.args.number c.args.place) c.deref.ensures.value;
    })
