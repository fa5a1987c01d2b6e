use Rattle.std.proofs.lemmas.Int.{to_z-of_z}
use Rattle.std.proofs.Common.{rules, ◌≡◌, SFits, w64, pos}
use Rattle.scan_task.proofs.Sizes.{cars_byte, floors_byte, slots_byte}
use Rattle.scan_task.proofs.plans.sizes_of.Goals as goal

pub overflow_cast-result : goal.overflow_cast-result
overflow_cast-result c =
    let b = cars_byte c.args.config.now c.requires in
    let is : c.args.config.now.cars.value ≡ pos b.0 = b.1 in
    let fits : SFits w64 (pos b.0) = let h = b.2 in search rules in
    rw (is, to_z-of_z w64 (pos b.0) fits) (tt, let h = b.2 in search rules)

pub overflow_cast-result-2 : goal.overflow_cast-result-2
overflow_cast-result-2 c =
    let b = floors_byte c.args.config.now c.requires in
    let is : c.args.config.now.floors.value ≡ pos b.0 = b.1 in
    let fits : SFits w64 (pos b.0) = let h = b.2 in search rules in
    rw (is, to_z-of_z w64 (pos b.0) fits) (tt, let h = b.2 in search rules)

pub overflow_cast-result-3 : goal.overflow_cast-result-3
overflow_cast-result-3 c =
    let b = slots_byte c.args.config.now c.requires in
    let is : c.args.config.now.slots.value ≡ pos b.0 = b.1 in
    let fits : SFits w64 (pos b.0) = let h = b.2 in search rules in
    rw (is, to_z-of_z w64 (pos b.0) fits) (tt, let h = b.2 in search rules)
