-- Where the names of a unit lead, by its declarations (own rules).
use Rattle.std.specs.Prelude.{◌≡◌, ℕ, zero, suc, ◌+◌, ◌<◌, Bool, true, false, if◌then◌else◌, List, [], ◌∷◌, ◌++◌, length, filter, not, Option, Some, None, max, min}
use Rattle.il_syntax.specs.declared.tree.Form.{Form}
use Rattle.il_syntax.specs.declared.tree.Form.TheVariants.{Scalar as ScalarForm, Array as ArrayForm, Block as BlockForm}
use Rattle.il_syntax.specs.declared.tree.Unit.{Unit as ProgramUnit}
use Rattle.il_syntax.specs.declared.tree.Config.{Config}
use Rattle.il_statics.specs.declared.names.Audience.{Audience}
use Rattle.il_statics.specs.declared.names.Audience.TheVariants.{Everybody, CarPrograms, GroupPrograms}
use Rattle.il_statics.specs.Names.{ImageName, image_of, image_name, sees, unit_named}
use Rattle.base_maps.specs.NameMap.{Text}
use Rattle.il_semantics.specs.Meaning.{Entity, width, entities, own_entities, result_entities, block_entities}
use Rattle.il_semantics.specs.Scan.{used_names, found_units}
use Rattle.load_slots.specs.declared.flat.Cell.{Cell}
use Rattle.load_slots.specs.Cells.{entity_cells, offset_in, form_in}
use Rattle.load_slots.specs.Flattened.{Names, block_of}

-- how many slots a form takes; `inner` gives those of an instance
abbrev pub form_width : (Text → ℕ) → Form → ℕ
form_width inner (ScalarForm s) = 1
form_width inner (ArrayForm bounds element) = width bounds
form_width inner (BlockForm block) = inner block

-- how many slots some declarations take
abbrev pub entities_width : (Text → ℕ) → List Entity → ℕ
entities_width inner [] = 0
entities_width inner (e ∷ es) = form_width inner e.form + entities_width inner es

-- how many slots an instance takes, with those of the instances in it, so many deep
abbrev pub block_width : ℕ → Config → Text → ℕ
block_width zero c block = 0
block_width (suc n) c block = entities_width (block_width n c) (block_entities c block)

-- a number of slots as it is counted: the greatest that can be, where a unit that no task uses has more
abbrev pub capped : ℕ → ℕ
capped n = min n 9223372036854775808

-- the names of a unit, by what is declared in each
abbrev pub names_by : Config → (Text → ℕ) → (Text → List Entity) → (Text → ℕ) → Text → Names
names_by c wide declared number unit = record {
  offset = λ name. capped (offset_in (form_width wide) (declared unit) name);
  word = λ instance word. capped (offset_in (form_width wide) (declared unit) instance + offset_in (form_width wide) (block_entities c (block_of (form_in (declared unit) instance))) word);
  input = λ function word. capped (offset_in (form_width wide) (declared function) word);
  unit = number;
}

-- the image names that a unit sees
abbrev pub seen_among : Config → ProgramUnit → List ImageName → List Entity
seen_among c u [] = []
seen_among c u (i ∷ is) = if sees c u i then record { name = i.variable.name; form = i.variable.form; initial = None } ∷ seen_among c u is else seen_among c u is

-- whether an image name is there for every program
abbrev pub is_common : ImageName → Bool
is_common i = for_all i.audience
  where
    for_all : Audience → Bool
    for_all Everybody = true
    for_all CarPrograms = false
    for_all GroupPrograms = false

-- what every program sees of the image, and then what those of its role do
abbrev pub seen_image : Config → ProgramUnit → List Entity
seen_image c u =
    seen_among c u (filter is_common (image_of c.cars.value c.floors.value c.slots.value)) ++ seen_among c u (filter (λ i. not (is_common i)) (image_of c.cars.value c.floors.value c.slots.value))

-- all that names of a unit can mean: its variables, as a function its result, its externals, and the image names that it sees
abbrev pub unit_entities : Config → ProgramUnit → List Entity
unit_entities c u = own_entities u ++ (result_entities u.kind u.name.name ++ (entities u.externals ++ seen_image c u))

-- the same by the unit's name
abbrev pub entities_if : Config → Option ProgramUnit → List Entity
entities_if c None = []
entities_if c (Some u) = unit_entities c u

abbrev pub declared_in : Config → Text → List Entity
declared_in c name = entities_if c (unit_named c name)

-- so deep may instances are in one another: 16 own blocks, and a standard one
abbrev pub deepest : ℕ
deepest = 17

-- the slots of instances, and how many these are, to whatever depth
pub record IsLayout (c : Config) (inner : Text → Text → List Cell) (wide : Text → ℕ) : Type 0 where
  pub unfolds : (path block : Text) → inner path block ≡ entity_cells inner path (block_entities c block)
  pub sizes : (path block : Text) → length (inner path block) ≡ wide block

-- a number for each block of the entities that lies below a bound
abbrev pub IsFormBelow : (Text → ℕ) → ℕ → Form → Type 0
IsFormBelow height bound (BlockForm block) = height block < bound
IsFormBelow height bound _ = Unit {0}

abbrev pub AreBelow : (Text → ℕ) → ℕ → List Entity → Type 0
AreBelow height bound [] = Unit {0}
AreBelow height bound (e ∷ es) = IsFormBelow height bound e.form × AreBelow height bound es

-- a block is higher than each of which it has an instance
pub record IsHeight (c : Config) (height : Text → ℕ) : Type 0 where
  pub counted : (block : Text) → 0 < height block
  pub falls : (block : Text) → AreBelow height (height block) (block_entities c block)

-- the image names that a unit sees are declared so
abbrev pub IsImage : Config → ProgramUnit → List Entity → Type 0
IsImage c u es = (name : Text) (i : ImageName) → image_name c name ≡ Some i → sees c u i ≡ true → form_in es name ≡ Some i.variable.form

-- HEIGHTS

-- the height of a form, by those of the blocks that count
abbrev pub form_height : (Text → Bool) → (Text → ℕ) → Form → ℕ
form_height counts inner (BlockForm block) = if counts block then inner block else 0
form_height counts inner _ = 0

-- the height of the highest entity
abbrev pub highest : (Text → Bool) → (Text → ℕ) → List Entity → ℕ
highest counts inner [] = 0
highest counts inner (e ∷ es) = max (form_height counts inner e.form) (highest counts inner es)

-- how long the chains of instances from a unit are, itself counted, up to a limit; `declared` gives what is declared in each
abbrev pub height_to : (Text → Bool) → (Text → List Entity) → ℕ → Text → ℕ
height_to counts declared zero name = 0
height_to counts declared (suc n) name = suc (highest counts (height_to counts declared n) (declared name))

-- every block counts
abbrev pub any_block : Text → Bool
any_block block = true

-- CHAINS OF USES

-- the units that the unit of a name uses (2.5)
abbrev pub used_if : Config → Option ProgramUnit → List ProgramUnit
used_if c None = []
used_if c (Some u) = found_units c (used_names u)

-- the greatest number of some units
abbrev pub tallest : (Text → ℕ) → List ProgramUnit → ℕ
tallest inner [] = 0
tallest inner (v ∷ vs) = max (inner v.name.name) (tallest inner vs)

-- how long the chains of uses from a unit are, itself counted, up to a limit
abbrev pub use_height : Config → ℕ → Text → ℕ
use_height c zero name = 0
use_height c (suc n) name = suc (tallest (use_height c n) (used_if c (unit_named c name)))
