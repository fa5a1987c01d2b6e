-- What settling keeps, as statements.
use Rattle.std.specs.Prelude.{◌≡◌, ℕ, ◌≤◌, Bool, List, length}
use Rattle.group_spec.specs.declared.image.Motor.{Motor}
use Rattle.group_spec.specs.declared.image.CarOutputs.{CarOutputs}
use Rattle.group_spec.specs.declared.image.Fields.{Fields}
use Rattle.group_spec.specs.declared.image.Image.{Image}
use Rattle.group_spec.specs.Image.{Obeys}
use Rattle.group_spec.specs.Settle.{with_outputs, settled_car, settled_all}

-- a settled commit of one of the cars leaves an image that obeys if the image obeyed
abbrev pub CommitKeeps : Type 0
CommitKeeps =
    (image : Image) (car : ℕ) (wish : Motor) (open_wish : Bool) → Obeys image → 1 ≤ car → car ≤ length image.fields.cars
    → Obeys (record { fields = image.fields; outputs = with_outputs image.outputs car (settled_car image car wish open_wish).outputs })

-- a settled refresh gives an image that obeys, whatever the outputs were, and as many outputs as cars
abbrev pub RefreshGives : Type 0
RefreshGives =
    (outputs : List CarOutputs) (fields : Fields) → length outputs ≡ length fields.cars
    → Obeys (record { fields = fields; outputs = (settled_all outputs fields).outputs }) × (length (settled_all outputs fields).outputs ≡ length fields.cars)
