use Rattle.std.proofs.Common.{◌<◌, length, arith, refl, subst}
use Rattle.il_statics.specs.Least.{IsLeast}
use Rattle.load_declarations.specs.Places.{Among}
use Rattle.std.proofs.lemmas.Option.{slice_get_read}
use Rattle.il_statics.proofs.Least.{least_next}
use Rattle.load_declarations.proofs.Lowest.{least_among}
use Rattle.load_declarations.specs.Taken.{TakenName, TakenNames}
use Rattle.load_declarations.proofs.taken.taken_declared.Goals as goal

pub loop-declaration-preserved : goal.loop-declaration-preserved
loop-declaration-preserved c =
    let low : c.loop-declaration.declaration-index < length c.args.declarations.now = omega arith in
    least_next (λ at. TakenNames c.args.names.now) c.args.declarations.now c.loop-declaration.declaration-index c.declaration-item.result c.loop-declaration.found c.taken_named.result c.earlier-found.result (slice_get_read _ _ _ _ refl low c.declaration-item.is) c.earlier-found.ensures c.loop-declaration.invariant
    (subst (λ l. IsLeast c.taken_named.result (Among (TakenName c.args.names.now) l)) c.as_slice.ensures c.taken_named.ensures)

pub returns : goal.returns
returns c = least_among (TakenNames c.args.names.now) c.args.declarations.now c.loop-declaration.declaration-index c.loop-declaration.found (omega arith) c.loop-declaration.invariant
