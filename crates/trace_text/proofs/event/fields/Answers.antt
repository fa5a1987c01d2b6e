use Rattle.std.proofs.Common.{arith, ◌≡◌, ◌++◌, sym, ◌∙◌}
use Rattle.std.specs.Prelude.{flat_map}
use Rattle.group_spec.specs.declared.image.Fields.{Fields}
use Rattle.trace_text.specs.Text.{car_part, fire_part, fields_part, AreFields}
use Rattle.trace_text.proofs.Bytes.{if_none}
use Rattle.trace_text.proofs.Lines.{time_once, limit_once, fire_once, fire_ends, cars_end}
use Rattle.trace_text.proofs.event.fields.Goals as goal

pub returns-in_err-run_limit-clause-none : goal.returns-in_err-run_limit-clause-none
returns-in_err-run_limit-clause-none c =
    let none : (fields : Fields) → AreFields c.args.format c.args.count fields → c.args.parts.now ≡ fields_part c.args.format fields → ⊥ = λ fields h e.
    let time = time_once c.args.format fields c.in_ok-time.time c.in_ok-time.rest.now c.args.parts.now (omega (arith, c.in_ok-time.ensures.found.0)) (omega (arith, h.time)) c.in_ok-time.ensures.found.2 c.in_ok-time.ensures.found.1 e in
    c.in_err-run_limit.ensures.none fields.run_limit (fire_part c.args.format fields.fire ++ flat_map car_part fields.cars) h.run_limit (fire_ends c.args.format fields.fire fields.cars) time.1 in
    if_none _ _ none

pub returns-in_err-fire-clause-none : goal.returns-in_err-fire-clause-none
returns-in_err-fire-clause-none c =
    let none : (fields : Fields) → AreFields c.args.format c.args.count fields → c.args.parts.now ≡ fields_part c.args.format fields → ⊥ = λ fields h e.
    let time = time_once c.args.format fields c.in_ok-time.time c.in_ok-time.rest.now c.args.parts.now (omega (arith, c.in_ok-time.ensures.found.0)) (omega (arith, h.time)) c.in_ok-time.ensures.found.2 c.in_ok-time.ensures.found.1 e in
    let limit = limit_once c.args.format fields c.in_ok-run_limit.run_limit c.in_ok-run_limit.rest.now c.in_ok-time.rest.now (omega (arith, c.in_ok-run_limit.ensures.found.0)) (omega (arith, h.run_limit)) c.in_ok-run_limit.ensures.found.2 c.in_ok-run_limit.ensures.found.1 time.1 in
    c.in_err-fire.ensures.none fields.fire (flat_map car_part fields.cars) h.fire (cars_end fields.cars) limit.1 in
    if_none _ _ none

pub returns-in_err-cars-clause-none : goal.returns-in_err-cars-clause-none
returns-in_err-cars-clause-none c =
    let none : (fields : Fields) → AreFields c.args.format c.args.count fields → c.args.parts.now ≡ fields_part c.args.format fields → ⊥ = λ fields h e.
    let time = time_once c.args.format fields c.in_ok-time.time c.in_ok-time.rest.now c.args.parts.now (omega (arith, c.in_ok-time.ensures.found.0)) (omega (arith, h.time)) c.in_ok-time.ensures.found.2 c.in_ok-time.ensures.found.1 e in
    let limit = limit_once c.args.format fields c.in_ok-run_limit.run_limit c.in_ok-run_limit.rest.now c.in_ok-time.rest.now (omega (arith, c.in_ok-run_limit.ensures.found.0)) (omega (arith, h.run_limit)) c.in_ok-run_limit.ensures.found.2 c.in_ok-run_limit.ensures.found.1 time.1 in
    let fire = fire_once c.args.format c.in_ok-fire.fire fields.fire c.in_ok-fire.rest.now (flat_map car_part fields.cars) c.in_ok-fire.ensures.found.0 h.fire (sym c.in_ok-fire.ensures.found.1 ∙ limit.1) in
    c.in_err-cars.ensures.none fields.cars h.count h.group h.positions fire.1 in
    if_none _ _ none
