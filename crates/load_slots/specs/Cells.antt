-- The slots of a task, in the order of the definition's own list of variables with their initial values (own rule).
use Rattle.std.specs.Prelude.{◌≡◌, ℕ, zero, suc, ◌+◌, List, [], ◌∷◌, ◌++◌, slice_get, Option, Some, None, ℤ, pos, neg_ℤ, ◌+ℤ◌, ◌≤ℤ◌, ◌^◌, bytes_eq, if◌then◌else◌}
use Rattle.il_syntax.specs.declared.tree.Scalar.{Scalar}
use Rattle.il_syntax.specs.declared.tree.Form.{Form}
use Rattle.il_syntax.specs.declared.tree.Form.TheVariants.{Scalar as ScalarForm, Array as ArrayForm, Block as BlockForm}
use Rattle.il_syntax.specs.declared.tree.Config.{Config}
use Rattle.base_maps.specs.NameMap.{Text}
use Rattle.il_semantics.specs.Meaning.{Entity, under, element_path, width, block_entities}
use Rattle.load_slots.specs.declared.flat.Cell.{Cell}
use Rattle.load_slots.specs.Layout.{cell}

-- the elements of an array
abbrev pub element_cells : ℕ → Text → ℤ → Scalar → List Cell
element_cells zero path z s = []
element_cells (suc k) path z s = cell (element_path path z) s ∷ element_cells k path (z +ℤ pos 1) s

-- the slots of a form at a path; `inner` gives those of an instance
abbrev pub cells_at : (Text → Text → List Cell) → Text → Form → List Cell
cells_at inner path (ScalarForm s) = cell path s ∷ []
cells_at inner path (ArrayForm bounds element) = element_cells (width bounds) path bounds.lower element
cells_at inner path (BlockForm block) = inner path block

-- the slots of some declarations
abbrev pub entity_cells : (Text → Text → List Cell) → Text → List Entity → List Cell
entity_cells inner path [] = []
entity_cells inner path (e ∷ es) = cells_at inner (under path e.name) e.form ++ entity_cells inner path es

-- the slots of an instance, with those of the instances in it, so many deep
abbrev pub instance_cells : ℕ → Config → Text → Text → List Cell
instance_cells zero c path block = []
instance_cells (suc n) c path block = entity_cells (instance_cells n c) path (block_entities c block)

-- how many slots come before a name, where a form takes so many
abbrev pub offset_in : (Form → ℕ) → List Entity → Text → ℕ
offset_in wide [] name = 0
offset_in wide (e ∷ es) name = if bytes_eq e.name name then 0 else wide e.form + offset_in wide es name

-- the form of the first entity of a name
abbrev pub form_in : List Entity → Text → Option Form
form_in [] name = None
form_in (e ∷ es) name = if bytes_eq e.name name then Some e.form else form_in es name

-- the cells are among others from a place on
abbrev pub Stands : List Cell → ℕ → List Cell → Type 0
Stands cells base xs = (k : ℕ) (x : Cell) → slice_get xs k ≡ Some x → slice_get cells (base + k) ≡ Some x

-- NAMES

-- a name without `.` and `[`
abbrev pub IsPlain : Text → Type 0
IsPlain [] = Unit {0}
IsPlain (b ∷ bs) = (b ≡ 46 → ⊥) × (b ≡ 91 → ⊥) × IsPlain bs

-- no entity has the name
abbrev pub HasNone : List Entity → Text → Type 0
HasNone [] name = Unit {0}
HasNone (e ∷ es) name = (e.name ≡ name → ⊥) × HasNone es name

-- so many numbers from one on, of a size that the arrays of the profile keep to by far
pub record IsShort (from : ℤ) (count : ℕ) : Type 0 where
  pub least : neg_ℤ (pos (2 ^ 62)) ≤ℤ from
  pub most : (from +ℤ pos count) ≤ℤ pos (2 ^ 62)

-- the indices of a form
abbrev pub HasShort : Form → Type 0
HasShort (ArrayForm bounds element) = IsShort bounds.lower (width bounds)
HasShort _ = Unit {0}

-- names without `.` and `[`, none of them empty, none of them twice
abbrev pub AreNamed : List Entity → Type 0
AreNamed [] = Unit {0}
AreNamed (e ∷ es) = IsPlain e.name × (e.name ≡ [] → ⊥) × HasNone es e.name × HasShort e.form × AreNamed es
