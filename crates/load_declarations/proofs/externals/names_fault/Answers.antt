use Rattle.std.proofs.Common.{◌<◌, length, arith, refl}
use Rattle.std.proofs.lemmas.Option.{slice_get_read}
use Rattle.il_statics.proofs.Least.{least_next}
use Rattle.load_declarations.proofs.Lowest.{least_among}
use Rattle.load_declarations.specs.Externals.{BreaksExternal}
use Rattle.load_declarations.proofs.externals.names_fault.Goals as goal

pub loop-name-preserved : goal.loop-name-preserved
loop-name-preserved c =
    let low : c.loop-name.name-index < length c.args.named.now = omega arith in
    least_next (λ at. BreaksExternal c.args.names.now c.args.external.now) c.args.named.now c.loop-name.name-index c.name-item.result c.loop-name.found c.external_fault.result c.earlier-found.result (slice_get_read _ _ _ _ refl low c.name-item.is) c.earlier-found.ensures c.loop-name.invariant
    (c.external_fault.ensures)

pub returns : goal.returns
returns c = least_among (BreaksExternal c.args.names.now c.args.external.now) c.args.named.now c.loop-name.name-index c.loop-name.found (omega arith) c.loop-name.invariant
