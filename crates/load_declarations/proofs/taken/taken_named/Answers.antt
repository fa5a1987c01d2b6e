use Rattle.std.proofs.Common.{◌<◌, length, arith, refl, sym, ap, ◌∙◌, ◌||◌}
use Rattle.std.proofs.lemmas.Option.{slice_get_read}
use Rattle.il_statics.proofs.Least.{least_next, least_if}
use Rattle.il_statics.specs.Names.{is_one_of, is_predeclared}
use Rattle.il_statics.specs.Declarations.{names_of_units}
use Rattle.load_declarations.proofs.Lowest.{least_among}
use Rattle.load_declarations.specs.Taken.{TakenName}
use Rattle.load_declarations.proofs.taken.taken_named.Goals as goal

pub loop-name-preserved : goal.loop-name-preserved
loop-name-preserved c =
    let low : c.loop-name.name-index < length c.args.named.now = omega arith in
    let same = c.is_taken-taken.ensures ∙ ap (λ q. is_predeclared c.args.names.now q || is_one_of (names_of_units c.args.names.now) q) c.as_str.ensures in
    least_next (λ at. TakenName c.args.names.now) c.args.named.now c.loop-name.name-index c.name-item.result c.loop-name.found c.fault_if.result c.earlier-found.result (slice_get_read _ _ _ _ refl low c.name-item.is) c.earlier-found.ensures c.loop-name.invariant
    (least_if c.is_taken-taken.result 20 c.name-item.result.place c.fault_if.result _ c.fault_if.ensures (λ e. sym same ∙ e) (λ e. same ∙ e))

pub returns : goal.returns
returns c = least_among (TakenName c.args.names.now) c.args.named.now c.loop-name.name-index c.loop-name.found (omega arith) c.loop-name.invariant
