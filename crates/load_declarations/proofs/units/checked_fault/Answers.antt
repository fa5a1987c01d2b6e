use Rattle.std.proofs.Common.{subst, ap, ◌∙◌}
use Rattle.il_syntax.specs.declared.tree.Step.{Step}
use Rattle.il_statics.specs.Declarations.{name_numbers}
use Rattle.il_statics.specs.Least.{IsLeast, Either}
use Rattle.il_statics.proofs.Least.{least_both}
use Rattle.load_declarations.specs.Places.{At, Among}
use Rattle.load_declarations.specs.Externals.{BreaksExternals}
use Rattle.load_declarations.specs.Taken.{TakenInUnit}
use Rattle.load_declarations.specs.Units.{BreaksResult, BreaksLists}
use Rattle.load_declarations.proofs.units.checked_fault.Goals as goal

pub returns : goal.returns
returns c =
    let here = c.args.here.now in
    let config = c.names-config.ensures in
    let unit = c.tree-unit.ensures in
    let typed = subst (λ d. IsLeast c.types_fault-typed.result (Either (BreaksResult here.unit.kind) (BreaksLists d here.unit))) config (subst (λ u. IsLeast c.types_fault-typed.result (Either (BreaksResult u.kind) (BreaksLists c.names-config.result.now u))) unit c.types_fault-typed.ensures) in
    let external = subst (λ d. IsLeast c.externals_fault-external.result (Among (BreaksExternals d) here.unit.externals)) config (subst (λ l. IsLeast c.externals_fault-external.result (Among (BreaksExternals c.names-config.result.now) l)) (c.as_slice.ensures ∙ ap (λ u. u.externals) unit) c.externals_fault-external.ensures) in
    let taken = subst (λ d. IsLeast c.taken_in_unit-taken.result (TakenInUnit d here.unit)) config (subst (λ u. IsLeast c.taken_in_unit-taken.result (TakenInUnit c.names-config.result.now u)) unit c.taken_in_unit-taken.ensures) in
    let named = subst (λ l. IsLeast c.steps_fault-named.result (Among (λ (s : Step). At (name_numbers here.config here.unit s.instruction) s.place) l)) (c.as_slice-2.ensures ∙ ap (λ u. u.body.steps) unit) c.steps_fault-named.ensures in
    least_both _ _ c.types_fault-typed.result c.earlier-2.result c.earlier-3.result c.earlier-3.ensures typed
    (least_both _ _ c.externals_fault-external.result c.earlier.result c.earlier-2.result c.earlier-2.ensures external
    (least_both _ _ c.taken_in_unit-taken.result c.steps_fault-named.result c.earlier.result c.earlier.ensures taken named))
