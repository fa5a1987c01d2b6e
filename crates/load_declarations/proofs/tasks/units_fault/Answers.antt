use Rattle.std.proofs.Common.{◌<◌, ◌∙◌, length, arith, refl, sym}
use Rattle.std.proofs.lemmas.Option.{slice_get_read}
use Rattle.il_statics.specs.Least.{When}
use Rattle.il_statics.proofs.Least.{least_next, least_if}
use Rattle.load_declarations.specs.TaskRules.{IsUnusedOf}
use Rattle.load_declarations.proofs.Lowest.{least_among}
use Rattle.load_declarations.proofs.TaskLaws.{unused_is, is_unused}
use Rattle.load_declarations.proofs.tasks.units_fault.Goals as goal

pub loop-unit-preserved : goal.loop-unit-preserved
loop-unit-preserved c = λ programs all.
    let low : c.loop-unit.unit-index < length c.args.units.now = omega arith in
    let is = c.is_unused.ensures programs all in
    least_next (λ at u. When (IsUnusedOf programs u) 24 u.place) c.args.units.now c.loop-unit.unit-index c.unit-item.result c.loop-unit.found c.fault_if.result c.earlier-found.result (slice_get_read _ _ _ _ refl low c.unit-item.is) c.earlier-found.ensures (c.loop-unit.invariant programs all)
    (least_if c.is_unused.result 24 c.unit-item.result.place c.fault_if.result _ c.fault_if.ensures (λ e. unused_is programs c.unit-item.result (sym is ∙ e)) (λ u. is ∙ is_unused programs c.unit-item.result u))

pub returns : goal.returns
returns c = λ programs all. least_among (λ u. When (IsUnusedOf programs u) 24 u.place) c.args.units.now c.loop-unit.unit-index c.loop-unit.found (omega arith) (c.loop-unit.invariant programs all)
