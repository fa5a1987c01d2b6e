use Rattle.std.proofs.Common.{subst}
use Rattle.group_world.specs.Worlds.{WorldOf}
use Rattle.group_journal.specs.Rounds.{TakesAll}
use Rattle.serve_lines.specs.Saying.{events_of}
use Rattle.serve_lines.proofs.Replaying.{acts_taken}
use Rattle.serve_lines.proofs.Serving.{unheard_answer}
use Rattle.serve_lines.proofs.server.Server.hear.Goals as goal

pub returns-in-Err-answer_said-clause-unheard : goal.returns-in-Err-answer_said-clause-unheard
returns-in-Err-answer_said-clause-unheard g c =
    unheard_answer c.args.line.now c.in-Ok.said c.args.self.now.rounds.world c.trace_said.new.self.rounds.world c.answer_said.new.self.rounds.world.world c.args.self.now.count (g.O.Sink.has_failed c.answer_said.new.out) (g.T.Sink.has_failed c.trace_said.new.trace) c.in-Err-answer_said.fault
    (g.O.Sink.contents c.args.out.now) (g.O.Sink.contents c.answer_said.new.out) (g.T.Sink.contents c.args.trace.now) (g.T.Sink.contents c.trace_said.new.trace) c.trace_said.ensures.same c.in-Ok.ensures.found c.in_ok-trace_said.ensures.traced c.in-Err-answer_said.ensures.fault

pub returns-clause-replays : goal.returns-clause-replays
returns-clause-replays g c =
    let said = c.in-Ok.said in
    let mid = c.trace_said.new.self.rounds.world in
    let v = c.answer_said.new.self.rounds.world.world in
    let acts = c.in_default.ensures.answered in (
      said,
      c.in-Ok.ensures.found,
      subst (λ (x : WorldOf). TakesAll x.program.config x.world (events_of x.program.config said) v) c.trace_said.ensures.same (acts_taken mid.program.config said mid.world v acts.0 acts.1),
    )
