use Rattle.std.proofs.Common.{rules, arith, ◌≡◌, ◌≤◌, List, length, sym, ap, ◌∙◌}
use Rattle.std.specs.Prelude.{flat_map}
use Rattle.std.specs.List.{AllByRecursion}
use Rattle.group_spec.specs.Limits.{most_cars}
use Rattle.group_spec.specs.declared.image.CarFields.{CarFields}
use Rattle.trace_text.specs.Text.{car_part, HasPosition}
use Rattle.trace_text.proofs.Bytes.{if_none}
use Rattle.trace_text.proofs.Lines.{cars_once, another_car, no_car_left}
use Rattle.trace_text.proofs.event.cars.Goals as goal

pub returns-in_err-next-clause-none : goal.returns-in_err-next-clause-none
returns-in_err-next-clause-none c =
    let none : (cars : List CarFields) → length cars ≡ c.args.count → c.args.count ≤ most_cars → AllByRecursion HasPosition cars → c.args.parts.now ≡ flat_map car_part cars → ⊥ = λ cars n m h e.
    let more = cars_once c.cars.cars cars c.cars.rest.now c.cars.invariant.positions h c.cars.invariant.ends (sym c.cars.invariant.whole ∙ e) in
    another_car c.cars.cars cars more.0 c.cars.rest.now (omega (arith, n)) h more.1 more.2 c.in_err-next.ensures.none in
    if_none _ _ none

pub returns-then-not-is_empty-clause-none : goal.returns-then-not-is_empty-clause-none
returns-then-not-is_empty-clause-none c = λ cars n m h e.
    let more = cars_once c.cars.cars cars c.cars.rest.now c.cars.invariant.positions h c.cars.invariant.ends (sym c.cars.invariant.whole ∙ e) in
    let nothing : length c.cars.rest.now ≡ 0 = ap length (no_car_left c.cars.cars cars more.0 c.cars.rest.now (omega (arith, n)) more.1 more.2) in
    search (rules, nothing)
