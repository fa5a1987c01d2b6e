use Rattle.std.proofs.Common.{◌∙◌, ap, nat_eq, rules}
use Rattle.std.specs.HashSet as bag
use Rattle.il_statics.specs.Least.{fault_of}
use Rattle.il_statics.proofs.Least.{least_if}
use Rattle.load_declarations.proofs.CarLaws.{is_missed, missed_is}
use Rattle.load_declarations.proofs.cars.missing_fault.Goals as goal

pub returns : goal.returns
returns c =
    let listed = c.as_slice.ensures ∙ ap (λ k. k.tasks) c.config-config.ensures in
    least_if c.misses_car-missing.result 24 c.args.names.now.end_resource c.fault_if.result _ (c.fault_if.ensures ∙ ap (λ k. fault_of c.misses_car-missing.result 24 k.end_resource) c.config-config.ensures)
    (λ e. is_missed c.args.names.now _ c.as_slice.result.now (bag.contains nat_eq c.in_ok-numbers.numbers) (search rules) listed c.in_ok-numbers.ensures (c.misses_car-missing.ensures.some e))
    (λ m. missed_is c.args.names.now _ c.as_slice.result.now (bag.contains nat_eq c.in_ok-numbers.numbers) c.misses_car-missing.result (search rules) listed c.in_ok-numbers.ensures c.misses_car-missing.ensures.all m)
