use Rattle.std.proofs.Common.{◌≡◌, ◌++◌, arith, length, length-append, string_bytes, ap, ◌∙◌}
use Rattle.group_spec.specs.Replies.{reply_with}
use Rattle.serve_lines.specs.Answers.{press_line}
use Rattle.serve_lines.proofs.Doing.{press_closes}
use Rattle.serve_lines.proofs.Few.{on_ok, press_few}
use Rattle.serve_lines.proofs.act.act_press.Goals as goal

pub returns-clause-closed : goal.returns-clause-closed
returns-clause-closed c = press_closes c.args.rounds.now.world.program.config c.args.rounds.now.world.world c.apply-reply.new.self.world c.args.call (reply_with c.apply-reply.result c.apply-reply.new.report) c.apply-reply.ensures.model c.requires.closed

pub returns-clause-room : goal.returns-clause-room
returns-clause-room c =
    let reply = reply_with c.apply-reply.result c.apply-reply.new.report in
    let few = press_few c.args.call reply c.requires.numbers.0 c.requires.numbers.1 in
    let empty = ap length c.requires.empty in
    on_ok c.put_press.result (λ (is : string_bytes c.put_press.new.text ≡ string_bytes c.args.text.now ++ press_line c.args.call reply). let all = ap length is ∙ length-append (string_bytes c.args.text.now) (press_line c.args.call reply) in omega (arith, all, few, empty)) c.put_press.ensures
