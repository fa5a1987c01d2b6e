use Rattle.std.proofs.Common.{ap, ◌∙◌, Ok}
use Rattle.group_laws.proofs.Coming.{refused_unchanged}
use Rattle.group_spec.specs.Replies.{Refused, reply_with}
use Rattle.group_journal.proofs.Taking.{happen_one}
use Rattle.group_rounds.proofs.Taking.{answer_taken}
use Rattle.group_rounds.proofs.scan.taken.Goals as goal

pub returns-in-Refused-clause-refused : goal.returns-in-Refused-clause-refused
returns-in-Refused-clause-refused c =
    let same = refused_unchanged c.args.world.now.program.config c.args.world.now.world c.apply.new.self.world c.args.event.now c.in-Refused.fault c.in-Refused.ensures.model in
    (same, c.in-Refused.ensures.model ∙ ap (λ w. Ok (w, Refused c.in-Refused.fault)) same)

pub returns-in_default : goal.returns-in_default
returns-in_default c = record {
  taken =
      happen_one c.args.world.now.program.config c.args.world.now.world c.apply.new.self.world c.args.event.now (reply_with c.apply.result c.apply.new.report) c.apply.ensures.model
      (answer_taken c.apply.result c.apply.new.report c.in_default.not-Refused);
  refused = tt;
  same = c.apply.ensures.same;
}
