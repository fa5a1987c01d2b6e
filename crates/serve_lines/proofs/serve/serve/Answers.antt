use Rattle.std.proofs.Common.{◌≡◌, ◌+◌, arith, sym, ◌∙◌}
use Rattle.serve_lines.proofs.Lines.{if_none, none_asked, so_far_next, served, stopped_line, stopped_input, stopped_lines}
use Rattle.serve_lines.proofs.serve.serve.Goals as goal

pub returns-in-Ok-true-clause-served : goal.returns-in-Ok-true-clause-served
returns-in-Ok-true-clause-served g c =
    served c.args.server.now.rounds.world.program c.args.server.now.rounds.world.world c.lines.server.rounds.world.world c.args.server.now.count c.args.heard c.lines.server.count c.lines.before (g.R.Read.remaining c.args.reader.now) (g.R.Read.remaining c.lines.reader) (g.O.Sink.contents c.args.out.now) (g.O.Sink.contents c.lines.out) (g.T.Sink.contents c.args.trace.now) (g.T.Sink.contents c.lines.trace) c.lines.invariant.served
    c.lines.server.rounds.world.program c.lines.invariant.same c.next_line-came.new.line.items c.as_slice-text.result.now c.as_slice-text.ensures.value (g.R.Read.remaining c.next_line-came.new.reader) (g.O.Sink.contents c.hear.new.out) (g.T.Sink.contents c.hear.new.trace) c.in-Whole.ensures.comes.1 c.hear.new.self.rounds.world.world c.hear.new.self.count c.in-Ok-true.field-0 (sym c.in-Ok-true.field-0-test) c.in-Ok-true.ensures.heard

pub returns-in-Err-clause-stopped : goal.returns-in-Err-clause-stopped
returns-in-Err-clause-stopped g c =
    stopped_line c.args.server.now.rounds.world.program c.args.server.now.rounds.world.world c.lines.server.rounds.world.world c.args.server.now.count c.args.heard c.lines.server.count c.lines.before (g.R.Read.remaining c.args.reader.now) (g.R.Read.remaining c.lines.reader) (g.O.Sink.contents c.args.out.now) (g.O.Sink.contents c.lines.out) (g.T.Sink.contents c.args.trace.now) (g.T.Sink.contents c.lines.trace) c.lines.invariant.served
    c.lines.server.rounds.world.program c.lines.invariant.same c.next_line-came.new.line.items c.as_slice-text.result.now c.as_slice-text.ensures.value (g.R.Read.remaining c.next_line-came.new.reader) (g.O.Sink.contents c.hear.new.out) (g.T.Sink.contents c.hear.new.trace) c.in-Whole.ensures.comes.1 (record { left = g.R.Read.remaining c.next_line-came.new.reader; out_failed = g.O.Sink.has_failed c.hear.new.out; trace_failed = g.T.Sink.has_failed c.hear.new.trace }) c.in-Err.fault c.in-Whole.ensures.comes.0 (none_asked c.as_slice-text.result.now c.next_line-came.new.line.items c.as_slice-text.ensures.value (if_none c.asked_name.result (sym c.is_some.ensures ∙ c.if-is_some.false) c.asked_name.ensures.none)) c.in-Err.ensures.unheard

pub returns-in_default-clause-stopped : goal.returns-in_default-clause-stopped
returns-in_default-clause-stopped g c =
    stopped_input c.args.server.now.rounds.world.program c.args.server.now.rounds.world.world c.lines.server.rounds.world.world c.args.server.now.count c.args.heard c.lines.server.count c.lines.before (g.R.Read.remaining c.args.reader.now) (g.R.Read.remaining c.lines.reader) (g.O.Sink.contents c.args.out.now) (g.O.Sink.contents c.lines.out) (g.T.Sink.contents c.args.trace.now) (g.T.Sink.contents c.lines.trace) c.lines.invariant.served
    (g.O.Sink.has_failed c.lines.out) (g.T.Sink.has_failed c.lines.trace) c.next_line-came.result c.next_line-came.new.line.items (g.R.Read.remaining c.next_line-came.new.reader) c.in_default.not-Whole c.next_line-came.ensures.comes

pub lines-preserved : goal.lines-preserved
lines-preserved g c =
    record {
      served = so_far_next c.args.server.now.rounds.world.program c.args.server.now.rounds.world.world c.lines.server.rounds.world.world c.args.server.now.count c.args.heard c.lines.server.count c.lines.before (g.R.Read.remaining c.args.reader.now) (g.R.Read.remaining c.lines.reader) (g.O.Sink.contents c.args.out.now) (g.O.Sink.contents c.lines.out) (g.T.Sink.contents c.args.trace.now) (g.T.Sink.contents c.lines.trace) c.lines.invariant.served
          c.lines.server.rounds.world.program c.lines.invariant.same c.next_line-came.new.line.items c.as_slice-text.result.now c.as_slice-text.ensures.value (g.R.Read.remaining c.next_line-came.new.reader) (g.O.Sink.contents c.hear.new.out) (g.T.Sink.contents c.hear.new.trace) c.in-Whole.ensures.comes.1 c.hear.new.self.rounds.world.world c.hear.new.self.count c.in-Ok-false.field-0 c.in-Ok-false.field-0-test c.in-Ok-false.ensures.heard;
      server = c.in-Ok-false.ensures.server;
      same = c.hear.ensures.same ∙ c.lines.invariant.same;
      stop = c.hear.ensures.stop ∙ c.lines.invariant.stop;
      room = c.next_line-came.ensures.room;
      silent = λ none. c.hear.ensures.silent (c.lines.invariant.silent none);
      made = c.hear.ensures.made ∙ c.lines.invariant.made;
    }

pub returns-clause-stopped : goal.returns-clause-stopped
returns-clause-stopped g c =
    let end : 18446744073709551614 + 1 ≡ c.lines.before + 1 = omega (arith, c.lines-test.false, c.lines.auto.before-end) in
    let most : c.lines.before ≡ 18446744073709551614 = omega (arith, end) in
    stopped_lines c.args.server.now.rounds.world.program c.args.server.now.rounds.world.world c.lines.server.rounds.world.world c.args.server.now.count c.args.heard c.lines.server.count c.lines.before (g.R.Read.remaining c.args.reader.now) (g.R.Read.remaining c.lines.reader) (g.O.Sink.contents c.args.out.now) (g.O.Sink.contents c.lines.out) (g.T.Sink.contents c.args.trace.now) (g.T.Sink.contents c.lines.trace) c.lines.invariant.served (record { left = g.R.Read.remaining c.lines.reader; out_failed = g.O.Sink.has_failed c.lines.out; trace_failed = g.T.Sink.has_failed c.lines.trace }) 18446744073709551615 end most
