use Rattle.std.proofs.Common.{◌++◌, sym, ◌∙◌, arith}
use Rattle.trace_text.specs.Text.{car_part}
use Rattle.trace_text.proofs.Bytes.{if_none}
use Rattle.trace_text.proofs.Numbers.{part_once, car_once}
use Rattle.group_state.specs.declared.car.Car.{Car}
use Rattle.group_state.specs.Saying.{SaysCar}
use Rattle.group_state.specs.Text.{outputs_part}
use Rattle.group_state.proofs.Cars.{outputs_end, fields_end, car_parts}
use Rattle.group_state.proofs.car.car_of.Goals as goal

pub returns-in_err-own-clause-none : goal.returns-in_err-own-clause-none
returns-in_err-own-clause-none c =
    let none : (car : Car) → SaysCar c.args.number car c.args.line.now → ⊥ = λ car says.
    c.in_err-own.ensures.none c.args.number (car_part car.fields ++ outputs_part car.outputs) (omega arith) (fields_end car.fields (outputs_part car.outputs)) (car_parts c.args.number c.args.line.now c.in_ok-parts.parts.now car says c.in_ok-parts.ensures.found) in
    if_none _ _ none

pub returns-then-own-number-clause-none : goal.returns-then-own-number-clause-none
returns-then-own-number-clause-none c = λ car says.
    let found = c.in_ok-own.ensures.found in
    let parts = car_parts c.args.number c.args.line.now c.in_ok-parts.parts.now car says c.in_ok-parts.ensures.found in
    let same = (part_once c.in_ok-own.own c.args.number c.in_ok-own.parts.now (car_part car.fields ++ outputs_part car.outputs) (omega (arith, found.0)) (omega arith) found.2 (fields_end car.fields (outputs_part car.outputs)) (sym found.1 ∙ parts)).0 in
    absurd (omega (arith, same))

pub returns-in_err-fields-clause-none : goal.returns-in_err-fields-clause-none
returns-in_err-fields-clause-none c =
    let found = c.in_ok-own.ensures.found in
    let none : (car : Car) → SaysCar c.args.number car c.args.line.now → ⊥ = λ car says.
    let parts = car_parts c.args.number c.args.line.now c.in_ok-parts.parts.now car says c.in_ok-parts.ensures.found in
    let behind = (part_once c.in_ok-own.own c.args.number c.in_ok-own.parts.now (car_part car.fields ++ outputs_part car.outputs) (omega (arith, found.0)) (omega arith) found.2 (fields_end car.fields (outputs_part car.outputs)) (sym found.1 ∙ parts)).1 in
    c.in_err-fields.ensures.none car.fields (outputs_part car.outputs) says.0 (outputs_end car.outputs) behind in
    if_none _ _ none

pub returns-in_err-outputs-clause-none : goal.returns-in_err-outputs-clause-none
returns-in_err-outputs-clause-none c =
    let found = c.in_ok-own.ensures.found in
    let more = c.in_ok-fields.ensures.found in
    let none : (car : Car) → SaysCar c.args.number car c.args.line.now → ⊥ = λ car says.
    let parts = car_parts c.args.number c.args.line.now c.in_ok-parts.parts.now car says c.in_ok-parts.ensures.found in
    let behind = (part_once c.in_ok-own.own c.args.number c.in_ok-own.parts.now (car_part car.fields ++ outputs_part car.outputs) (omega (arith, found.0)) (omega arith) found.2 (fields_end car.fields (outputs_part car.outputs)) (sym found.1 ∙ parts)).1 in
    let last = car_once c.in_ok-fields.fields car.fields c.in_ok-fields.parts.now (outputs_part car.outputs) more.0 says.0 more.2 (outputs_end car.outputs) (sym more.1 ∙ behind) in
    c.in_err-outputs.ensures.none car.outputs last.1 in
    if_none _ _ none
