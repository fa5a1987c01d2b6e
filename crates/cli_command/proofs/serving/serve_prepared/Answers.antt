use Rattle.std.proofs.Common.{ℕ, List, refl, sym, ◌∙◌, ap, subst}
use Rattle.cli_host.specs.Messages.{message_of, status_of}
use Rattle.cli_host.specs.Writes.{Writes}
use Rattle.serve_blackbox.specs.Between.{spot, final}
use Rattle.serve_blackbox.specs.Ending.{IsEnded, IsHalted}
use Rattle.cli_command.specs.Servings as s
use Rattle.cli_command.proofs.Telling.{writes}
use Rattle.cli_command.proofs.Tracing.{is_created}
use Rattle.serve_blackbox.proofs.Ending.{consumes_none}
use Rattle.serve_lines.proofs.Serving.{if_ok, if_err}
use Rattle.cli_command.proofs.serving.serve_prepared.Goals as goal

pub returns-in-Ok : goal.returns-in-Ok
returns-in-Ok g c =
    let ok = sym c.is_err.ensures.value ∙ c.if-is_err.false in
    let before = g.T.Sink.contents c.args.trace.now in
    let created = g.T.Sink.contents c.create.new.trace in
    let none = if_ok c.create.result ok c.create.ensures.none in
    let told = subst (Writes (g.E.Sink.contents c.args.err.now) (g.E.Sink.contents c.put_all-told.new.sink) (g.E.Sink.has_failed c.put_all-told.new.sink)) c.as_bytes.ensures.value (writes c.put_all-told.result (g.E.Sink.contents c.args.err.now) (g.E.Sink.contents c.put_all-told.new.sink) (g.E.Sink.has_failed c.put_all-told.new.sink) c.as_bytes.result.now c.put_all-told.ensures.ok c.put_all-told.ensures.failed c.put_all-told.ensures.front) in
    let ends = subst (λ (head : List ℕ). IsEnded c.args.prepared.world.program.config c.args.source.now head (spot g.I.Read g.O.Sink g.T.Sink c.args.prepared.world.world c.args.prepared.head.events 0 c.args.input.now c.args.out.now c.create.new.trace) (final g.I.Read g.O.Sink g.T.Sink c.serve_group.new.reader c.serve_group.new.out c.serve_group.new.trace)) c.as_bytes-text.ensures.value c.in-Ok.ensures.ended in
    s.ended created (g.T.Sink.made c.create.new.trace)
    (is_created c.args.tracing before created (g.T.Sink.contents c.serve_group.new.trace) (g.T.Sink.made c.args.trace.now) (g.T.Sink.made c.create.new.trace) (g.T.Sink.made c.serve_group.new.trace) (λ is. (ap g.T.Sink.contents (none is), ap g.T.Sink.made (none is))) (if_ok c.create.result ok c.create.ensures.made)
    c.serve_group.ensures.silent) ends told refl

pub returns : goal.returns
returns g c =
    let ok = sym c.is_err.ensures.value ∙ c.if-is_err.false in
    let before = g.T.Sink.contents c.args.trace.now in
    let created = g.T.Sink.contents c.create.new.trace in
    let none = if_ok c.create.result ok c.create.ensures.none in
    let told = subst (Writes (g.E.Sink.contents c.args.err.now) (g.E.Sink.contents c.put_all-told.new.sink) (g.E.Sink.has_failed c.put_all-told.new.sink)) c.as_bytes.ensures.value (writes c.put_all-told.result (g.E.Sink.contents c.args.err.now) (g.E.Sink.contents c.put_all-told.new.sink) (g.E.Sink.has_failed c.put_all-told.new.sink) c.as_bytes.result.now c.put_all-told.ensures.ok c.put_all-told.ensures.failed c.put_all-told.ensures.front) in
    let halts = subst (λ (head : List ℕ). IsHalted c.args.prepared.world.program.config c.args.source.now head (spot g.I.Read g.O.Sink g.T.Sink c.args.prepared.world.world c.args.prepared.head.events 0 c.args.input.now c.args.out.now c.create.new.trace) (final g.I.Read g.O.Sink g.T.Sink c.serve_group.new.reader c.serve_group.new.out c.serve_group.new.trace) c.in-Err.halt) c.as_bytes-text.ensures.value c.in-Err.ensures.halted in
    s.halted created (g.T.Sink.made c.create.new.trace)
    (is_created c.args.tracing before created (g.T.Sink.contents c.serve_group.new.trace) (g.T.Sink.made c.args.trace.now) (g.T.Sink.made c.create.new.trace) (g.T.Sink.made c.serve_group.new.trace) (λ is. (ap g.T.Sink.contents (none is), ap g.T.Sink.made (none is))) (if_ok c.create.result ok c.create.ensures.made)
    c.serve_group.ensures.silent) c.in-Err.halt halts
    (record { between = g.E.Sink.contents c.put_all-told.new.sink; failed = g.E.Sink.has_failed c.put_all-told.new.sink; one = told; other = subst (λ f. Writes (g.E.Sink.contents c.put_all-told.new.sink) (g.E.Sink.contents c.end_with-in-Err.new.err) (g.E.Sink.has_failed c.end_with-in-Err.new.err) (message_of f)) c.fault_of_halt.ensures c.end_with-in-Err.ensures.told })
    (c.end_with-in-Err.ensures.ends ∙ ap status_of c.fault_of_halt.ensures)

pub returns-then-is_err : goal.returns-then-is_err
returns-then-is_err g c =
    let err = sym c.is_err.ensures.value ∙ c.if-is_err.true in
    let wanted = if_err c.create.result err c.create.ensures.wanted in
    let told = subst (Writes (g.E.Sink.contents c.args.err.now) (g.E.Sink.contents c.put_all-told.new.sink) (g.E.Sink.has_failed c.put_all-told.new.sink)) c.as_bytes.ensures.value (writes c.put_all-told.result (g.E.Sink.contents c.args.err.now) (g.E.Sink.contents c.put_all-told.new.sink) (g.E.Sink.has_failed c.put_all-told.new.sink) c.as_bytes.result.now c.put_all-told.ensures.ok c.put_all-told.ensures.failed c.put_all-told.ensures.front) in
    s.uncreated wanted.0 wanted.1 (if_err c.create.result err c.create.ensures.failed) (record { untraced = if_err c.create.result err c.create.ensures.unmade; untaken = consumes_none (g.I.Read.remaining c.args.input.now); unanswered = refl })
    (record { between = g.E.Sink.contents c.put_all-told.new.sink; failed = g.E.Sink.has_failed c.put_all-told.new.sink; one = told; other = c.end_with.ensures.told }) c.end_with.ensures.ends
