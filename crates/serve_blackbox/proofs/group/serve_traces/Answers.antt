use Rattle.std.proofs.Common.{◌∙◌, arith, refl, ap, subst, List, ℕ, Ok}
use Rattle.group_rounds.specs.declared.kept.Rounds.{Rounds}
use Rattle.serve_lines.specs.declared.serve.Pause.TheVariants.{End, Asked}
use Rattle.serve_lines.specs.Between.{Pauses}
use Rattle.serve_lines.specs.Saying.{AsksFor}
use Rattle.serve_blackbox.specs.Between.{final, spot, kept_spot, kept_final}
use Rattle.serve_blackbox.specs.Keeping.{here}
use Rattle.serve_blackbox.proofs.Following.{ok_of, ends_here, halts_here, goes_on_here, unkept_here, goes_there, unkept_there}
use Rattle.serve_blackbox.proofs.group.serve_traces.Goals as goal

pub traces-init : goal.traces-init
traces-init g c = record {
  leads = here;
  server = c.requires.server;
  same = refl;
  stop = refl;
  room = c.requires.room;
  few = omega (arith);
  silent = λ none. none;
}

pub returns-in-Ok-End-clause-ended : goal.returns-in-Ok-End-clause-ended
returns-in-Ok-End-clause-ended g c =
    ends_here c.args.server.now.rounds.world.program c.traces.server.rounds.world.program c.traces.invariant.same c.args.source.now (spot g.R.Read g.O.Sink g.T.Sink c.args.server.now.rounds.world.world c.args.server.now.count 0 c.args.reader.now c.args.out.now c.args.trace.now)
    (spot g.R.Read g.O.Sink g.T.Sink c.traces.server.rounds.world.world c.traces.server.count c.traces.heard c.traces.reader c.traces.out c.traces.trace) c.traces.invariant.leads (final g.R.Read g.O.Sink g.T.Sink c.serve.new.reader c.serve.new.out c.serve.new.trace) c.serve.new.server.rounds.world.world c.serve.new.server.count
    (ok_of (Pauses g.R.Read g.O.Sink g.T.Sink c.traces.server c.serve.new.server c.traces.heard c.serve.new.line.items c.traces.reader c.serve.new.reader c.traces.out c.serve.new.out c.traces.trace c.serve.new.trace) c.serve.result End (c.in-Ok-End.is ∙ ap Ok c.in-Ok-End.field-0-is) c.serve.ensures.served) c.serve.ensures.made

pub returns-in-Err-clause-halted : goal.returns-in-Err-clause-halted
returns-in-Err-clause-halted g c =
    halts_here c.args.server.now.rounds.world.program c.traces.server.rounds.world.program c.traces.invariant.same c.args.source.now (spot g.R.Read g.O.Sink g.T.Sink c.args.server.now.rounds.world.world c.args.server.now.count 0 c.args.reader.now c.args.out.now c.args.trace.now)
    (spot g.R.Read g.O.Sink g.T.Sink c.traces.server.rounds.world.world c.traces.server.count c.traces.heard c.traces.reader c.traces.out c.traces.trace) c.traces.invariant.leads (final g.R.Read g.O.Sink g.T.Sink c.serve.new.reader c.serve.new.out c.serve.new.trace) c.in-Err.stopped
    c.in-Err.ensures.stopped c.serve.ensures.made

pub returns-in-Err-keep-clause-halted : goal.returns-in-Err-keep-clause-halted
returns-in-Err-keep-clause-halted g c =
    let asks = subst (λ (l : List ℕ). AsksFor l c.in-Some.name.now) c.deref.ensures.value c.in-Some.ensures.found in
    let asked = ok_of (Pauses g.R.Read g.O.Sink g.T.Sink c.traces.server c.serve.new.server c.traces.heard c.serve.new.line.items c.traces.reader c.serve.new.reader c.traces.out c.serve.new.out c.traces.trace c.serve.new.trace) c.serve.result (Asked c.in-Ok-Asked.number) (c.in-Ok-Asked.is ∙ ap Ok c.in-Ok-Asked.field-0-is) c.serve.ensures.served in
    unkept_here c.args.server.now.rounds.world.program c.traces.server.rounds.world.program c.traces.invariant.same c.args.source.now (spot g.R.Read g.O.Sink g.T.Sink c.args.server.now.rounds.world.world c.args.server.now.count 0 c.args.reader.now c.args.out.now c.args.trace.now)
    (spot g.R.Read g.O.Sink g.T.Sink c.traces.server.rounds.world.world c.traces.server.count c.traces.heard c.traces.reader c.traces.out c.traces.trace) c.traces.invariant.leads (spot g.R.Read g.O.Sink g.T.Sink c.serve.new.server.rounds.world.world c.serve.new.server.count c.in-Ok-Asked.number c.serve.new.reader c.serve.new.out c.serve.new.trace) c.serve.new.line.items c.in-Some.name.now asked asks c.serve.ensures.made c.serve.new.server.rounds.world.program c.serve.ensures.same
    (final g.R.Read g.O.Sink g.T.Sink c.serve.new.reader c.keep.new.out c.keep.new.trace) c.in-Err-keep.fault refl
    (unkept_there c.serve.new.server.rounds.world.program.config c.args.source.now (kept_spot g.O.Sink g.T.Sink c.serve.new.server c.serve.new.out c.serve.new.trace) c.in-Some.name.now (kept_final g.O.Sink g.T.Sink c.keep.new.out c.keep.new.trace) c.in-Ok-Asked.number (g.R.Read.remaining c.serve.new.reader) c.in-Err-keep.fault c.in-Err-keep.ensures.unkept)

pub traces-preserved : goal.traces-preserved
traces-preserved g c =
    let asks = subst (λ (l : List ℕ). AsksFor l c.in-Some.name.now) c.deref.ensures.value c.in-Some.ensures.found in
    let asked = ok_of (Pauses g.R.Read g.O.Sink g.T.Sink c.traces.server c.serve.new.server c.traces.heard c.serve.new.line.items c.traces.reader c.serve.new.reader c.traces.out c.serve.new.out c.traces.trace c.serve.new.trace) c.serve.result (Asked c.in-Ok-Asked.number) (c.in-Ok-Asked.is ∙ ap Ok c.in-Ok-Asked.field-0-is) c.serve.ensures.served in
    record {
      leads = goes_on_here c.args.server.now.rounds.world.program c.traces.server.rounds.world.program c.traces.invariant.same c.args.source.now (spot g.R.Read g.O.Sink g.T.Sink c.args.server.now.rounds.world.world c.args.server.now.count 0 c.args.reader.now c.args.out.now c.args.trace.now)
          (spot g.R.Read g.O.Sink g.T.Sink c.traces.server.rounds.world.world c.traces.server.count c.traces.heard c.traces.reader c.traces.out c.traces.trace) c.traces.invariant.leads
          (spot g.R.Read g.O.Sink g.T.Sink c.serve.new.server.rounds.world.world c.serve.new.server.count c.in-Ok-Asked.number c.serve.new.reader c.serve.new.out c.serve.new.trace) c.serve.new.line.items c.in-Some.name.now asked asks c.serve.ensures.made c.serve.new.server.rounds.world.program c.serve.ensures.same
          (spot g.R.Read g.O.Sink g.T.Sink c.keep.new.server.rounds.world.world c.keep.new.server.count c.in-Ok-Asked.number c.serve.new.reader c.keep.new.out c.keep.new.trace)
          (goes_there c.serve.new.server.rounds.world.program.config c.args.source.now (kept_spot g.O.Sink g.T.Sink c.serve.new.server c.serve.new.out c.serve.new.trace) (kept_spot g.O.Sink g.T.Sink c.keep.new.server c.keep.new.out c.keep.new.trace) c.in-Some.name.now c.in-Ok-Asked.number (g.R.Read.remaining c.serve.new.reader) c.in_default-keep.ensures.goes);
      server = c.keep.ensures.server;
      same = ap (λ (r : Rounds). r.world.program) c.keep.ensures.same ∙ c.serve.ensures.same ∙ c.traces.invariant.same;
      stop = c.keep.ensures.stop ∙ c.serve.ensures.stop ∙ c.traces.invariant.stop;
      room = c.serve.ensures.room;
      few = asked.few;
      silent = λ none. c.keep.ensures.silent (c.serve.ensures.silent (c.traces.invariant.silent none));
    }
