-- The declared variables of a task, and the outputs that it writes (own rules).
use Rattle.std.specs.Prelude.{◌≡◌, ℕ, zero, suc, ◌≤◌, Bool, true, false, ◌&&◌, List, [], map, filter, Option, Some, None, ◌≤ℤ◌, pos}
use Rattle.il_syntax.specs.declared.tree.Config.{Config}
use Rattle.il_syntax.specs.declared.tree.Scalar.{Scalar}
use Rattle.il_syntax.specs.declared.tree.Unit.{Unit as ProgramUnit}
use Rattle.il_statics.specs.declared.names.Origin.{Origin}
use Rattle.il_statics.specs.declared.names.Origin.TheVariants.{WrittenImage as AsWrittenImage}
use Rattle.il_statics.specs.declared.names.Role.{Role}
use Rattle.il_statics.specs.declared.names.Role.TheVariants.{Car as CarRole, Group as GroupRole}
use Rattle.il_statics.specs.Names.{ImageName, is_seen_by, image_of}
use Rattle.base_maps.specs.NameMap.{Text}
use Rattle.il_semantics.specs.Ranges.{entity_scalars}
use Rattle.il_semantics.specs.Paths.{longest}
use Rattle.group_spec.specs.Image.{sizes_of}
use Rattle.group_spec.specs.Snapshot.{program_of}

-- the task of a number is one of the group's, and this is its program (2.7.2)
pub record IsTaskOf (c : Config) (t : ℕ) (u : ProgramUnit) : Type 0 where
  pub within : t ≤ (sizes_of c).cars
  pub program : program_of c t ≡ Some u

-- the greatest cost of a control path of a task's program; 0 where there is no such task (own rule)
abbrev pub budget_by : Config → Option ProgramUnit → ℕ
budget_by c None = 0
budget_by c (Some u) = longest c u

-- the budget of a task (own rule)
abbrev pub budget_of : Config → ℕ → ℕ
budget_of c t = budget_by c (program_of c t)

-- OUTPUTS

-- whether a name of the image is written (own rule)
abbrev pub is_written : Origin → Bool
is_written AsWrittenImage = true
is_written origin = false

-- the role of a task (own rule)
abbrev pub role_of : ℕ → Role
role_of zero = GroupRole
role_of (suc k) = CarRole

-- the names of the image that a task writes: ASSIGN, or MOTOR, OPEN and SERVE (own rule)
abbrev pub written_images : Config → ℕ → List ImageName
written_images c t = filter (λ i. is_written i.variable.origin && is_seen_by (Some (role_of t)) i.audience) (image_of c.cars.value c.floors.value c.slots.value)

-- their paths, each with its type (own rule)
abbrev pub output_scalars : Config → ℕ → List (Text × Scalar)
output_scalars c t = entity_scalars (λ _ _. []) [] (map (λ i. record { name = i.variable.name; form = i.variable.form; initial = None }) (written_images c t))

-- there is a car, a floor and a slot (23)
pub record IsSized (c : Config) : Type 0 where
  pub floors : pos 1 ≤ℤ c.floors.value
  pub slots : pos 1 ≤ℤ c.slots.value
  pub cars : pos 1 ≤ℤ c.cars.value
