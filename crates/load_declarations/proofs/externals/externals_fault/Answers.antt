use Rattle.std.proofs.Common.{◌<◌, length, arith, refl}
use Rattle.std.proofs.lemmas.Option.{slice_get_read}
use Rattle.il_statics.proofs.Least.{least_next}
use Rattle.load_declarations.proofs.Lowest.{least_among}
use Rattle.std.proofs.Common.{subst}
use Rattle.il_statics.specs.Least.{IsLeast}
use Rattle.load_declarations.specs.Places.{Among}
use Rattle.load_declarations.specs.Externals.{BreaksExternal, BreaksExternals}
use Rattle.load_declarations.proofs.externals.externals_fault.Goals as goal

pub loop-external-preserved : goal.loop-external-preserved
loop-external-preserved c =
    let low : c.loop-external.external-index < length c.args.externals.now = omega arith in
    least_next (λ at. BreaksExternals c.args.names.now) c.args.externals.now c.loop-external.external-index c.external-item.result c.loop-external.found c.names_fault.result c.earlier-found.result (slice_get_read _ _ _ _ refl low c.external-item.is) c.earlier-found.ensures c.loop-external.invariant
    (subst (λ l. IsLeast c.names_fault.result (Among (BreaksExternal c.args.names.now c.external-item.result) l)) c.as_slice.ensures c.names_fault.ensures)

pub returns : goal.returns
returns c = least_among (BreaksExternals c.args.names.now) c.args.externals.now c.loop-external.external-index c.loop-external.found (omega arith) c.loop-external.invariant
