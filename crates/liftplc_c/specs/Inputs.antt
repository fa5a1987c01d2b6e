-- What C reports of the plant (own rules).
use Rattle.std.specs.Prelude.{ℕ, Bool, ◌&&◌, nat_le, map, take, if◌then◌else◌}
use Rattle.group_spec.specs.declared.image.CarFields.{CarFields}
use Rattle.group_spec.specs.declared.image.Fields.{Fields}
use Rattle.group_spec.specs.declared.image.Sizes.{Sizes}
use Rattle.group_spec.specs.Image.{fields_in_range}
use Rattle.group_spec.specs.Limits.{most_cars}
use Rattle.liftplc_c.specs.declared.fields.CarInput.{CarInput}
use Rattle.liftplc_c.specs.declared.fields.FieldsInput.{FieldsInput}

-- the fields of a car
abbrev pub car_of : CarInput → CarFields
car_of car = record { pos = car.pos; level = car.level; top = car.top; bottom = car.bottom; locked = car.locked; opened = car.opened }

-- the fields of the first cars, so many as are counted
abbrev pub fields_of : FieldsInput → Fields
fields_of fields = record { time = fields.time; run_limit = fields.run_limit; fire = fields.fire; cars = map car_of (take fields.car_count fields.cars) }

-- whether they are those of a group of these sizes: no more cars are counted than a group may have, and all lies in its ranges
abbrev pub are_taken : Sizes → FieldsInput → Bool
are_taken sizes fields = nat_le fields.car_count most_cars && fields_in_range sizes (fields_of fields)

-- the status of a round under these fields
abbrev pub round_status : Sizes → FieldsInput → ℕ
round_status sizes fields = if are_taken sizes fields then 0 else 5
