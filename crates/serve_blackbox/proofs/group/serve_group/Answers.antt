use Rattle.std.proofs.Common.{sym, ap, ◌∙◌, subst, string_bytes}
use Rattle.group_world.specs.Worlds.{WorldOf}
use Rattle.serve_lines.specs.Answers.{stop_line}
use Rattle.serve_blackbox.specs.Ending.{Ends}
use Rattle.serve_lines.proofs.Serving.{if_err, if_ok}
use Rattle.serve_blackbox.specs.Between.{final}
use Rattle.serve_blackbox.proofs.Ending.{consumes_none, ended_behind, halted_behind}
use Rattle.serve_blackbox.proofs.group.serve_group.Goals as goal

pub returns-then-is_err-clause-halted : goal.returns-then-is_err-clause-halted
returns-then-is_err-clause-halted g c = (
  consumes_none (g.R.Read.remaining c.args.reader.now),
  if_err c.put_all.result (sym c.is_err.ensures.value ∙ c.if-is_err.true) c.put_all.ensures.failed,
  subst (Ends (g.O.Sink.contents c.args.out.now) (g.O.Sink.contents c.put_stop.new.out) (g.O.Sink.has_failed c.put_stop.new.out)) (c.as_bytes.ensures.value ∙ c.in-Ok.ensures.server.stop ∙ ap (λ (x : WorldOf). stop_line x.program.config) c.in-Ok.ensures.begins.0) c.put_stop.ensures,
  if_err c.put_all.result (sym c.is_err.ensures.value ∙ c.if-is_err.true) c.put_all.ensures.front,
  c.put_all.ensures.made,
)

pub returns-in-Ok-serve_traces-clause-ended : goal.returns-in-Ok-serve_traces-clause-ended
returns-in-Ok-serve_traces-clause-ended g c =
    ended_behind c.args.world c.in-Ok.server.rounds.world c.in-Ok.server.count c.args.head.events (g.T.Sink.made c.put_all.new.sink) (g.T.Sink.made c.args.trace.now) c.args.source.now c.args.head.text.now (g.R.Read.remaining c.args.reader.now) (g.O.Sink.contents c.args.out.now) (g.T.Sink.contents c.args.trace.now) (g.T.Sink.contents c.put_all.new.sink)
    (final g.R.Read g.O.Sink g.T.Sink c.serve_traces.new.reader c.serve_traces.new.out c.serve_traces.new.trace) c.in-Ok.ensures.begins c.put_all.ensures.made (if_ok c.put_all.result (sym c.is_err.ensures.value ∙ c.if-is_err.false) c.put_all.ensures.ok)
    c.in-Ok-serve_traces.ensures.ended

pub returns-clause-halted : goal.returns-clause-halted
returns-clause-halted g c =
    halted_behind c.args.world c.in-Ok.server.rounds.world c.in-Ok.server.count c.args.head.events (g.T.Sink.made c.put_all.new.sink) (g.T.Sink.made c.args.trace.now) c.args.source.now c.args.head.text.now (g.R.Read.remaining c.args.reader.now) (g.O.Sink.contents c.args.out.now) (g.T.Sink.contents c.args.trace.now) (g.T.Sink.contents c.put_all.new.sink)
    (final g.R.Read g.O.Sink g.T.Sink c.serve_traces.new.reader c.write_stop.new.out c.serve_traces.new.trace) c.in-Ok.ensures.begins c.put_all.ensures.made (if_ok c.put_all.result (sym c.is_err.ensures.value ∙ c.if-is_err.false) c.put_all.ensures.ok)
    (g.O.Sink.contents c.serve_traces.new.out) (g.O.Sink.has_failed c.serve_traces.new.out) c.as_bytes-in-Err.result.now
    (c.as_bytes-in-Err.ensures.value ∙ ap (λ s. string_bytes s) c.serve_traces.ensures.stop ∙ c.in-Ok.ensures.server.stop ∙ ap (λ (x : WorldOf). stop_line x.program.config) c.in-Ok.ensures.begins.0)
    c.in-Err.halt c.in-Err.ensures.halted c.write_stop.ensures
