use Rattle.std.proofs.Common.{◌<◌, length, arith, refl}
use Rattle.std.proofs.lemmas.Option.{slice_get_read}
use Rattle.il_statics.proofs.Least.{least_next}
use Rattle.load_declarations.specs.Written.{shown, Misdeclared}
use Rattle.load_declarations.proofs.Lowest.{least_among}
use Rattle.load_declarations.proofs.types.declarations_fault.Goals as goal

pub loop-declaration-preserved : goal.loop-declaration-preserved
loop-declaration-preserved c =
    let low : c.loop-declaration.declaration-index < length c.args.declarations.now = omega arith in
    least_next (λ at. Misdeclared c.args.names.now (shown c.args.admitted)) c.args.declarations.now c.loop-declaration.declaration-index c.declaration-item.result c.loop-declaration.found c.declaration_fault.result c.earlier-found.result (slice_get_read _ _ _ _ refl low c.declaration-item.is) c.earlier-found.ensures c.loop-declaration.invariant c.declaration_fault.ensures

pub returns : goal.returns
returns c = least_among (Misdeclared c.args.names.now (shown c.args.admitted)) c.args.declarations.now c.loop-declaration.declaration-index c.loop-declaration.found (omega arith) c.loop-declaration.invariant
