use Rattle.std.proofs.Common.{◌<◌, ◌∙◌, length, arith, refl, ap, subst}
use Rattle.std.proofs.lemmas.Option.{slice_get_read}
use Rattle.il_statics.specs.Least.{IsLeast}
use Rattle.il_statics.proofs.Least.{least_next}
use Rattle.load_declarations.specs.Places.{Among}
use Rattle.load_declarations.specs.Units.{UnitBreaks}
use Rattle.load_declarations.proofs.Lowest.{least_among}
use Rattle.load_declarations.proofs.units.units_fault.Goals as goal

pub loop-at-preserved : goal.loop-at-preserved
loop-at-preserved c =
    let units = c.as_slice-units.result.now in
    let low : c.loop-at.at < length units = omega arith in
    least_next (λ at. UnitBreaks c.args.names.now) units c.loop-at.at c.index-units-at.result c.loop-at.found c.in_ok-unit_fault.field-0 c.earlier-found.result (slice_get_read _ _ _ _ refl low c.index-units-at.is) c.earlier-found.ensures c.loop-at.invariant
    (subst (λ d. IsLeast c.in_ok-unit_fault.field-0 (UnitBreaks d c.index-units-at.result)) c.of-here.ensures.config (subst (λ u. IsLeast c.in_ok-unit_fault.field-0 (UnitBreaks c.of-here.result.config u)) c.of-here.ensures.unit c.in_ok-unit_fault.ensures))

pub returns : goal.returns
returns c =
    subst (λ l. IsLeast c.loop-at.found (Among (UnitBreaks c.args.names.now) l)) (c.as_slice-units.ensures ∙ ap (λ k. k.units) c.config.ensures)
    (least_among (UnitBreaks c.args.names.now) c.as_slice-units.result.now c.loop-at.at c.loop-at.found (omega arith) c.loop-at.invariant)
