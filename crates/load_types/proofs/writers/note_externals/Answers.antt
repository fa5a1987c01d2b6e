use Rattle.std.proofs.Common.{arith, ap, flat_map, ◌∙◌}
use Rattle.il_syntax.specs.declared.tree.Declaration.{Declaration}
use Rattle.load_scope.proofs.Filled.{take_all}
use Rattle.load_types.specs.Writers.{noted, if_stored, declared_stored}
use Rattle.load_types.proofs.Written.{noted_next}
use Rattle.load_types.proofs.writers.note_externals.Goals as goal

pub loop-declaration-preserved : goal.loop-declaration-preserved
loop-declaration-preserved c =
    noted_next c.args.lines.now c.args.line c.args.scope.now.unit (λ (d : Declaration). flat_map (if_stored c.args.scope.now.unit) d.names) c.args.externals.now c.loop-declaration.declaration-index c.declaration-item.result c.args.writers.now c.loop-declaration.writers c.note_names.new.writers (omega arith) c.declaration-item.is
    (c.in_ok-note_names.ensures ∙ ap (λ l. noted c.args.lines.now c.args.line c.args.scope.now.unit c.loop-declaration.writers (flat_map (if_stored c.args.scope.now.unit) l)) c.as_slice.ensures) c.loop-declaration.invariant

pub returns : goal.returns
returns c = c.loop-declaration.invariant ∙ ap (λ l. noted c.args.lines.now c.args.line c.args.scope.now.unit c.args.writers.now (declared_stored c.args.scope.now.unit l)) (take_all c.args.externals.now c.loop-declaration.declaration-index (omega arith))
