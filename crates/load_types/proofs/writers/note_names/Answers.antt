use Rattle.std.proofs.Common.{arith, ap, flat_map, ◌∙◌}
use Rattle.load_scope.proofs.Filled.{take_all}
use Rattle.load_types.specs.Writers.{noted, if_stored}
use Rattle.load_types.proofs.Written.{noted_next}
use Rattle.load_types.proofs.writers.note_names.Goals as goal

pub loop-named-preserved : goal.loop-named-preserved
loop-named-preserved c =
    noted_next c.args.lines.now c.args.line c.args.scope.now.unit (if_stored c.args.scope.now.unit) c.args.names.now c.loop-named.named-index c.named-item.result c.args.writers.now c.loop-named.writers c.note_stored.new.writers (omega arith) c.named-item.is c.in_ok-note_stored.ensures c.loop-named.invariant

pub returns : goal.returns
returns c = c.loop-named.invariant ∙ ap (λ l. noted c.args.lines.now c.args.line c.args.scope.now.unit c.args.writers.now (flat_map (if_stored c.args.scope.now.unit) l)) (take_all c.args.names.now c.loop-named.named-index (omega arith))
