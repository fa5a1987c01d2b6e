-- The parts of laying out the slots of a task (own rules).
use Rattle.std.specs.Prelude.{ℕ, zero, suc, ℤ, pos, ◌+ℤ◌, Bool, true, false, ◌&&◌, List, [], ◌∷◌, ◌++◌, map, length, Option, Some, None, codes}
use Rattle.il_syntax.specs.declared.tree.Scalar.{Scalar as ScalarType}
use Rattle.il_syntax.specs.declared.tree.Literal.{Literal}
use Rattle.il_syntax.specs.declared.tree.Unit.{Unit as ProgramUnit}
use Rattle.il_syntax.specs.declared.tree.Config.{Config}
use Rattle.il_statics.specs.Names.{is_function}
use Rattle.base_maps.specs.NameMap.{Text}
use Rattle.il_semantics.specs.declared.value.Value.{Value}
use Rattle.il_semantics.specs.Meaning.{Entity, entities, own_entities, under, element_path, initial_value, width}
use Rattle.load_scope.specs.declared.entry.VariableType.{VariableType}
use Rattle.load_scope.specs.declared.entry.VariableType.TheVariants.{Scalar, Array, Instance}
use Rattle.load_scope.specs.declared.entry.BlockType.{BlockType}
use Rattle.load_order.specs.Related.{tabulate}
use Rattle.load_slots.specs.declared.flat.Cell.{Cell}
use Rattle.load_code.specs.declared.framing.Frames.{Frames}
use Rattle.load_code.specs.declared.laying.Opening.{Opening}
use Rattle.load_slots.specs.declared.variables.Variable.{Variable}
use Rattle.load_slots.specs.Flattened.{function_entities, place_or_zero}
use Rattle.load_slots.specs.Layout.{Rows, rows, cell, number_part, flag_part}
use Rattle.load_slots.specs.Making.{shown, block_lists, block_variables}
use Rattle.load_slots.specs.Places.{capped, seen_image}
use Rattle.load_slots.specs.Paths.{slot_at}
use Rattle.load_slots.specs.Program.{is_used}
use Rattle.load_code.specs.Tasks.{TaskLayout}

-- OPENINGS

-- a slot with the value with which it begins
abbrev pub opening : Text → ScalarType → Value → Opening
opening path scalar value = record { path = path; scalar = scalar; value = value }

-- its cell, and its value with its path
abbrev pub cell_of : Opening → Cell
cell_of o = cell o.path o.scalar

abbrev pub value_of : Opening → Text × Value
value_of o = (o.path, o.value)

-- an element of an array, so far from the first
abbrev pub element_opening : Text → ℤ → ScalarType → ℕ → Opening
element_opening path lower s k = opening (element_path path (lower +ℤ pos k)) s (initial_value s None)

-- those of a variable at a path; `inner` gives those of an instance
abbrev pub variable_openings : (Text → Option BlockType → List Opening) → Text → Option Literal → VariableType → List Opening
variable_openings inner path initial (Scalar s) = opening path s (initial_value s initial) ∷ []
variable_openings inner path initial (Array bounds element) = tabulate (capped (width bounds)) (element_opening path bounds.lower element)
variable_openings inner path initial (Instance b) = inner path b

-- those of some variables
abbrev pub list_openings : (Text → Option BlockType → List Opening) → Text → List Variable → List Opening
list_openings inner path [] = []
list_openings inner path (v ∷ vs) = variable_openings inner (under path v.name) v.initial v.declared ++ list_openings inner path vs

-- those of an instance, so many deep
abbrev pub block_openings : ℕ → List (List Variable) → Text → Option BlockType → List Opening
block_openings zero lists path b = []
block_openings (suc n) lists path b = list_openings (block_openings n lists) path (block_variables lists b)

-- those of declarations, with those of instances so many deep
abbrev pub openings_to : ℕ → Config → Text → List Entity → List Opening
openings_to n c path es = list_openings (block_openings n (block_lists c)) path (map (shown c) es)

abbrev pub openings_of : Config → Text → List Entity → List Opening
openings_of c path es = openings_to 16 c path es

-- ROWS

-- the first rows with one value more
abbrev pub with_value : Rows → Value → Rows
with_value r v = rows (r.numbers ++ number_part v ∷ []) (r.flags ++ flag_part v ∷ [])

-- and with those of some slots
abbrev pub with_values : Rows → List Opening → Rows
with_values r [] = r
with_values r (o ∷ os) = with_values (with_value r o.value) os

-- FRAMES

-- whether a unit has a frame in the task of a program: it is a function that the program uses
abbrev pub has_frame : Config → ProgramUnit → ProgramUnit → Bool
has_frame c p v = is_function v && is_used c p v

-- one unit more, which has a frame or not
abbrev pub with_frame : Config → Frames → ProgramUnit → Bool → Frames
with_frame c f u true = record { openings = f.openings ++ openings_of c u.name.name (function_entities u); bases = f.bases ++ Some (length f.openings) ∷ [] }
with_frame c f u false = record { openings = f.openings; bases = f.bases ++ None ∷ [] }

abbrev pub with_frames : Config → Frames → List ProgramUnit → List Bool → Frames
with_frames c f [] bs = f
with_frames c f (u ∷ us) [] = f
with_frames c f (u ∷ us) (b ∷ bs) = with_frames c (with_frame c f u b) us bs

abbrev pub no_frames : Frames
no_frames = record { openings = []; bases = [] }

-- a base, where there is none the end
abbrev pub base_or : ℕ → Option ℕ → ℕ
base_or end None = end
base_or end (Some base) = base

-- TASKS

-- a task with the slots that stay, and those of what a scan is given
abbrev pub laid_task : List Opening → List Opening → List ℕ → TaskLayout
laid_task own seen bases = record {
  cells = map cell_of own ++ map cell_of seen;
  own = length own;
  bases = bases;
  clock = place_or_zero (slot_at (map cell_of own ++ map cell_of seen) (codes "NOW"));
  first = with_values (rows [] []) own;
}

-- the task of a program, after the frames of the functions that it uses
abbrev pub task_by : Config → ProgramUnit → Frames → TaskLayout
task_by c p f = laid_task (f.openings ++ openings_of c [] (own_entities p)) (openings_to 17 c [] (entities p.externals ++ seen_image c p)) (map (base_or (length f.openings)) f.bases)

-- and where these units have frames
abbrev pub program_task : Config → ProgramUnit → List Bool → TaskLayout
program_task c p framed = task_by c p (with_frames c no_frames c.units framed)
