use Rattle.std.proofs.Common.{◌∙◌, ◌+◌, List, ap, ap₂, map, length, arith}
use Rattle.std.specs.Prelude.{replicate}
use Rattle.group_spec.specs.declared.image.CarFields.{CarFields}
use Rattle.group_spec.specs.declared.image.CarOutputs.{CarOutputs}
use Rattle.group_spec.specs.Snapshot.{number}
use Rattle.scan_image.specs.Image.{filled, position_value, motor_value}
use Rattle.scan_image.proofs.Writing.{same_numbers, same_flags, cars_long, cars_written}
use Rattle.scan_image.proofs.image.write_cars.Goals as goal

pub write_motors-requires-clause-numbers : goal.write_motors-requires-clause-numbers
write_motors-requires-clause-numbers c =
    let room = c.requires.numbers in
    let long = cars_long c.args.image.now c.args.slots in
    let cars = ap length c.as_slice-cars.ensures in
    let outputs = ap length c.as_slice-outputs.ensures in
    let first = same_numbers c.args.rows.now c.write_positions.new.rows c.args.at (map position_value c.as_slice-cars.result.now) c.write_positions.ensures in
    omega (arith, room, long, cars, outputs, first)

pub write_zeros-requires-clause-numbers : goal.write_zeros-requires-clause-numbers
write_zeros-requires-clause-numbers c =
    let room = c.requires.numbers in
    let long = cars_long c.args.image.now c.args.slots in
    let cars = ap length c.as_slice-cars.ensures in
    let outputs = ap length c.as_slice-outputs.ensures in
    let first = same_numbers c.args.rows.now c.write_positions.new.rows c.args.at (map position_value c.as_slice-cars.result.now) c.write_positions.ensures in
    let second = same_numbers c.write_positions.new.rows c.write_motors.new.rows (c.args.at + length c.as_slice-cars.result.now) (map motor_value c.as_slice-outputs.result.now) c.write_motors.ensures in
    omega (arith, room, long, cars, outputs, first, second)

pub write_motors-requires-clause-flags : goal.write_motors-requires-clause-flags
write_motors-requires-clause-flags c =
    let room = c.requires.flags in
    let long = cars_long c.args.image.now c.args.slots in
    let cars = ap length c.as_slice-cars.ensures in
    let outputs = ap length c.as_slice-outputs.ensures in
    let first = same_flags c.args.rows.now c.write_positions.new.rows c.args.at (map position_value c.as_slice-cars.result.now) c.write_positions.ensures in
    omega (arith, room, long, cars, outputs, first)

pub write_zeros-requires-clause-flags : goal.write_zeros-requires-clause-flags
write_zeros-requires-clause-flags c =
    let room = c.requires.flags in
    let long = cars_long c.args.image.now c.args.slots in
    let cars = ap length c.as_slice-cars.ensures in
    let outputs = ap length c.as_slice-outputs.ensures in
    let first = same_flags c.args.rows.now c.write_positions.new.rows c.args.at (map position_value c.as_slice-cars.result.now) c.write_positions.ensures in
    let second = same_flags c.write_positions.new.rows c.write_motors.new.rows (c.args.at + length c.as_slice-cars.result.now) (map motor_value c.as_slice-outputs.result.now) c.write_motors.ensures in
    omega (arith, room, long, cars, outputs, first, second)

pub returns : goal.returns
returns c =
    cars_written c.args.rows.now c.write_positions.new.rows c.write_motors.new.rows c.write_zeros.new.rows c.args.at c.args.image.now c.args.slots
    (c.write_positions.ensures ∙ ap (λ xs. filled c.args.rows.now c.args.at (map position_value xs)) c.as_slice-cars.ensures)
    (c.write_motors.ensures ∙ ap₂ (λ (xs : List CarFields) (ys : List CarOutputs). filled c.write_positions.new.rows (c.args.at + length xs) (map motor_value ys)) c.as_slice-cars.ensures c.as_slice-outputs.ensures)
    (c.write_zeros.ensures ∙ ap₂ (λ (xs : List CarFields) (ys : List CarOutputs). filled c.write_motors.new.rows (c.args.at + (length xs + length ys)) (replicate c.args.slots (number 0))) c.as_slice-cars.ensures c.as_slice-outputs.ensures)
