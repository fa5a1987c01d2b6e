use Rattle.std.proofs.Common.{ap, ◌∙◌}
use Rattle.load_scope.proofs.Seen.{read_at}
use Rattle.load_types.specs.Writers.{noted, declared_stored}
use Rattle.load_types.proofs.Programs.{nothing, nothing_past, body_noted}
use Rattle.load_types.proofs.writers.note_line.Goals as goal

pub returns-in_default : goal.returns-in_default
returns-in_default c = nothing c.args.names.now c.as_str.result.now c.args.line.now.program.name c.as_str.ensures c.args.number c.args.writers.now c.in_default.ensures

pub returns-in_default-get : goal.returns-in_default-get
returns-in_default-get c = nothing_past c.args.names.now c.as_str.result.now c.args.line.now.program.name c.as_str.ensures c.args.number c.in-Some.at c.args.writers.now c.as_slice.result.now c.in-Some.ensures (c.as_slice.ensures ∙ ap (λ k. k.units) c.config.ensures) c.in_default-get.ensures.lookup.3

pub of-scope-requires : goal.of-scope-requires
of-scope-requires c = read_at c.as_slice.result.now c.args.names.now.units c.in-Some.at c.in-Some-get.unit.now (c.as_slice.ensures ∙ ap (λ k. k.units) c.config.ensures) c.in-Some-get.ensures.lookup.3.0 c.in-Some-get.ensures.lookup.1

pub returns : goal.returns
returns c =
    body_noted c.args.names.now c.as_str.result.now c.args.line.now.program.name c.as_str.ensures c.args.number c.in-Some.at c.args.writers.now c.note_externals.new.writers c.in-Some-get.unit.now c.of-scope.result.unit c.as_slice-2.result.now c.in-Some.ensures
    (read_at c.as_slice.result.now c.args.names.now.units c.in-Some.at c.in-Some-get.unit.now (c.as_slice.ensures ∙ ap (λ k. k.units) c.config.ensures) c.in-Some-get.ensures.lookup.3.0 c.in-Some-get.ensures.lookup.1) c.of-scope.ensures.unit c.as_slice-2.ensures
    (c.in_ok-note_externals.ensures ∙ ap (λ l. noted l c.args.number c.of-scope.result.unit c.args.writers.now (declared_stored c.of-scope.result.unit c.as_slice-2.result.now)) (c.as_slice-lines.ensures ∙ ap (λ k. k.programs) c.config-2.ensures))
