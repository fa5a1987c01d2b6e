use Rattle.std.proofs.Common.{◌<◌, arith}
use Rattle.base_maps.proofs.Small.{fits_more}
use Rattle.base_maps.proofs.numbers.small_number.Goals as goal

pub overflow_mul-number : goal.overflow_mul-number
overflow_mul-number c =
    let fits = fits_more c.loop-byte.byte-index c.loop-byte.number 0 c.loop-byte.invariant.2 (omega arith) (omega (arith, c.loop-byte-test.true, c.loop-byte.invariant.3)) in omega (arith, fits)

pub overflow_add-number : goal.overflow_add-number
overflow_add-number c =
    let byte : c.from.result < 256 = omega (arith, c.from.ensures, c.type_inv.byte-items c.loop-byte.byte-index) in
    let fits = fits_more c.loop-byte.byte-index c.loop-byte.number c.from.result c.loop-byte.invariant.2 byte (omega (arith, c.loop-byte-test.true, c.loop-byte.invariant.3)) in omega (arith, fits)
