-- A refresh, car after car: a running car beside those before it that run on (own rules).
use Rattle.std.specs.Prelude.{ℕ, ◌+◌, List}
use Rattle.std.specs.List.{range_with_len}
use Rattle.group_spec.specs.declared.image.CarFields.{CarFields}
use Rattle.group_spec.specs.declared.image.CarOutputs.{CarOutputs}
use Rattle.group_spec.specs.declared.image.Fields.{Fields}
use Rattle.group_spec.specs.Settle.{Settled, settled_running}

-- the first cars, so many
unfoldable pub first_cars : ℕ → List ℕ
first_cars count = range_with_len 1 count

-- so many run on before a car, as though they were the first ones and it the next
abbrev pub settled_beside : Fields → ℕ → CarFields → CarOutputs → Settled
settled_beside all running fields outputs = settled_running all (first_cars running) (running + 1) fields outputs
