use Rattle.std.proofs.Common.{ap, ◌∙◌, Ok}
use Rattle.group_laws.proofs.Coming.{refused_unchanged}
use Rattle.group_spec.specs.declared.event.Reply.{Reply as Answer}
use Rattle.group_spec.specs.Replies.{Refused, reply_with}
use Rattle.group_rounds.proofs.Taking.{answer_taken}
use Rattle.group_rounds.proofs.along.replied.Goals as goal

pub returns-in-Refused-clause-refused : goal.returns-in-Refused-clause-refused
returns-in-Refused-clause-refused c =
    let model = c.apply-reply.ensures.model ∙ ap (λ (a : Answer). Ok (c.apply-reply.new.self.world, reply_with a c.apply-reply.new.report)) c.in-Refused.is in
    model ∙ ap (λ w. Ok (w, Refused c.in-Refused.fault)) (refused_unchanged c.args.world.now.program.config c.args.world.now.world c.apply-reply.new.self.world c.args.event.now c.in-Refused.fault model)

pub returns-in_default-clause-taken : goal.returns-in_default-clause-taken
returns-in_default-clause-taken c = (c.apply-reply.ensures.model, answer_taken c.apply-reply.result c.apply-reply.new.report c.in_default.not-Refused)
