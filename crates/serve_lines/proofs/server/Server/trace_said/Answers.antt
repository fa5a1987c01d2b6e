use Rattle.std.proofs.Common.{rules, ◌≡◌, true, subst, string_bytes, ◌∙◌}
use Rattle.cli_host.specs.Writes.{AppendsFront}
use Rattle.serve_lines.specs.Serving.{record_text}
use Rattle.serve_lines.proofs.Tracing.{record_is}
use Rattle.serve_lines.proofs.server.Server.trace_said.Goals as goal

pub returns-then-is_err-2-clause-fault : goal.returns-then-is_err-2-clause-fault
returns-then-is_err-2-clause-fault g c =
    let s = c.args.self.now in
    let old = g.T.Sink.contents c.args.trace.now in
    let new = g.T.Sink.contents c.put_all.new.sink in
    let front : AppendsFront old new c.deref.result.now = search rules in
    let text : c.deref.result.now ≡ record_text (string_bytes s.gathers) (string_bytes s.scans) c.args.line.now s.count c.sizes-sizes.result c.args.said.now = search rules in
    let failed : g.T.Sink.has_failed c.put_all.new.sink ≡ true = search rules in
    (failed, subst (AppendsFront old new) (text ∙ record_is s.rounds.world.program.config c.args.line.now (string_bytes s.gathers) (string_bytes s.scans) s.count c.sizes-sizes.result c.args.said.now c.sizes-sizes.ensures c.requires.says c.requires.server.gathers c.requires.server.scans) front)
