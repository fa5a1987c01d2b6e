-- What a scan keeps, as a list of paths with their types (own rule).
use Rattle.std.specs.Prelude.{◌≡◌, List, [], ◌++◌, map, filter, None, Contains}
use Rattle.il_syntax.specs.declared.tree.Config.{Config}
use Rattle.il_syntax.specs.declared.tree.Scalar.{Scalar}
use Rattle.il_syntax.specs.declared.tree.Unit.{Unit as ProgramUnit}
use Rattle.il_statics.specs.Names.{ImageName, image_of, sees}
use Rattle.il_semantics.specs.declared.value.Value.{Value}
use Rattle.base_maps.specs.NameMap.{Text, from_entries}
use Rattle.il_semantics.specs.State.{Values}
use Rattle.il_semantics.specs.Meaning.{Entity}
use Rattle.il_semantics.specs.Ranges.{entity_scalars, HaveValues, HoldGlobals, HoldsTask, external_scalars, global_scalars, task_scalars}
use Rattle.il_semantics.specs.Scan.{begins, opening_variables, opening_globals}
use Rattle.il_semantics_laws.specs.Agreement.{IsKept, Holds}

-- the variable of an image name (own rule)
abbrev pub image_entity : ImageName → Entity
image_entity i = record { name = i.variable.name; form = i.variable.form; initial = None }

-- the variables of the image that a program sees (own rule)
abbrev pub seen_entities : Config → ProgramUnit → List Entity
seen_entities c p = map image_entity (filter (λ i. sees c p i) (image_of c.cars.value c.floors.value c.slots.value))

-- their paths, each with its type; the image has no instances (own rule)
abbrev pub seen_scalars : Config → ProgramUnit → List (Text × Scalar)
seen_scalars c p = entity_scalars (λ _ _. []) [] (seen_entities c p)

-- the paths of what a scan is given: the globals that its program lists, and the image that it sees (2.4.3, own rule)
abbrev pub given_scalars : Config → ProgramUnit → List (Text × Scalar)
given_scalars c p = external_scalars c p ++ seen_scalars c p

-- the paths of all that a scan keeps: the task's variables, and what it is given (2.4.3, 2.7.2)
abbrev pub kept_scalars : Config → ProgramUnit → List (Text × Scalar)
kept_scalars c p = task_scalars c p ++ given_scalars c p

-- no path of a list has two types (20)
abbrev pub HaveOneType : List (Text × Scalar) → Type 0
HaveOneType ps = (x y : Text × Scalar) → Contains ps x → Contains ps y → x.0 ≡ y.0 → x.1 ≡ y.1

-- A scan keeps what is in the list, and nothing else (own rule).
pub record KeepsListed (c : Config) (p : ProgramUnit) : Type 0 where
  pub listed : (q : Text) (s : Scalar) → IsKept c p q s → Contains (kept_scalars c p) (q, s)
  pub kept : (x : Text × Scalar) → Contains (kept_scalars c p) x → IsKept c p x.0 x.1
  pub once : HaveOneType (kept_scalars c p)

-- A scan starts with values of the declared sets, where the task's variables have such values, and so has what it is given (own rule).
abbrev pub StartsInSets : Config → ProgramUnit → Type 0
StartsInSets c p =
    (variables : Values) (given : List (Text × Value)) → HoldsTask c p variables → HaveValues (from_entries given) (given_scalars c p) → Holds c p (begins p variables given).values

-- The globals, and the task's variables, open with values of their declared sets (2.4.3.2, 2.7.1).
pub record OpensInSets (c : Config) (p : ProgramUnit) : Type 0 where
  pub globals : HoldGlobals c (opening_globals c)
  pub variables : HoldsTask c p (opening_variables c p)

-- An external is a global of the same type, and no path of a global has two types (2.4.3; 20, 21, 25).
pub record SharesGlobals (c : Config) (p : ProgramUnit) : Type 0 where
  pub externals : (x : Text × Scalar) → Contains (external_scalars c p) x → Contains (global_scalars c) x
  pub once : HaveOneType (global_scalars c)
