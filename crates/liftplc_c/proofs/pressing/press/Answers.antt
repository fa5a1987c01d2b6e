use Rattle.std.proofs.Common.{◌∙◌}
use Rattle.group_spec.specs.Replies.{reply_with}
use Rattle.liftplc_c.proofs.Resting.{press_keeps, press_rests}
use Rattle.liftplc_c.proofs.pressing.press.Goals as goal

pub returns-clause-kept : goal.returns-clause-kept
returns-clause-kept c other =
    press_keeps c.args.call c.args.rounds.now.world c.apply-reply.new.self c.apply-reply.result
    (record { report = c.apply-reply.new.report; pressed = c.apply-reply.ensures.model; same = c.apply-reply.ensures.same })
    (λ is. other (c.press_status.ensures ∙ is))

pub returns-clause-rests : goal.returns-clause-rests
returns-clause-rests c =
    let w = c.args.rounds.now.world in
    press_rests w.program.config w.world c.apply-reply.new.self.world c.args.call (reply_with c.apply-reply.result c.apply-reply.new.report) c.apply-reply.ensures.model c.requires
