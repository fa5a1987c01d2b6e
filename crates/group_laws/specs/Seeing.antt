-- What a scan sees of the image, by its declared types (own rules).
use Rattle.std.specs.Prelude.{ℕ, ◌≤◌, List, [], map, filter, Some}
use Rattle.il_syntax.specs.declared.tree.Config.{Config}
use Rattle.il_syntax.specs.declared.tree.Scalar.{Scalar}
use Rattle.il_statics.specs.Names.{ImageName, is_seen_by, image_of}
use Rattle.base_maps.specs.NameMap.{Text, from_entries}
use Rattle.il_semantics.specs.Ranges.{entity_scalars, HaveValues}
use Rattle.il_semantics_laws.specs.Listed.{HaveOneType, image_entity}
use Rattle.group_spec.specs.Image.{sizes_of}
use Rattle.group_spec.specs.Snapshot.{image_entries}
use Rattle.group_spec.specs.World.{Group, InRanges}
use Rattle.group_laws.specs.Tasks.{IsSized, role_of}

-- the names of the image that a task sees, read and written (own rule)
abbrev pub seen_images : Config → ℕ → List ImageName
seen_images c t = filter (λ i. is_seen_by (Some (role_of t)) i.audience) (image_of c.cars.value c.floors.value c.slots.value)

-- their paths, each with its type (own rule)
abbrev pub image_scalars : Config → ℕ → List (Text × Scalar)
image_scalars c t = entity_scalars (λ _ _. []) [] (map image_entity (seen_images c t))

-- of a group in its ranges, a scan sees values of the declared sets (own rule)
abbrev pub ImageIsSeen : Type 0
ImageIsSeen =
    (c : Config) (t : ℕ) (g : Group) → IsSized c → t ≤ (sizes_of c).cars → InRanges c g → HaveOneType (image_scalars c t)
    → HaveValues (from_entries (image_entries (sizes_of c) t g.image g.calls.slots)) (image_scalars c t)
