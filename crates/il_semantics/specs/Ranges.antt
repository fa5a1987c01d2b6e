-- The declared types of variables, by their paths (IEC 61131-3:2003, 2.3.3.1 and 2.4.3).
use Rattle.std.specs.Prelude.{◌≡◌, ℕ, zero, suc, List, [], ◌∷◌, ◌++◌, map, Some, ℤ, pos, ◌+ℤ◌, Contains}
use Rattle.il_syntax.specs.declared.tree.Scalar.{Scalar}
use Rattle.il_syntax.specs.declared.tree.Form.{Form}
use Rattle.il_syntax.specs.declared.tree.Form.TheVariants.{Scalar as ScalarForm, Array as ArrayForm, Block as BlockForm}
use Rattle.il_syntax.specs.declared.tree.Config.{Config}
use Rattle.il_syntax.specs.declared.tree.Unit.{Unit as ProgramUnit}
use Rattle.il_syntax.specs.declared.tree.UnitKind.{UnitKind}
use Rattle.il_syntax.specs.declared.tree.UnitKind.TheVariants.{Function, FunctionBlock, Program}
use Rattle.il_semantics.specs.declared.value.Value.{Value}
use Rattle.base_maps.specs.NameMap.{Text, get}
use Rattle.il_semantics.specs.Values.{IsOf}
use Rattle.il_semantics.specs.State.{Values}
use Rattle.il_semantics.specs.Meaning.{under, element_path, Entity, entities, own_entities, result_entities, block_entities, width, depth}
use Rattle.il_semantics.specs.Scan.{used_units}

-- the elements of an array, each with its type (2.4.1.2)
abbrev pub element_scalars : ℕ → Text → ℤ → Scalar → List (Text × Scalar)
element_scalars zero path z s = []
element_scalars (suc n) path z s = (element_path path z, s) ∷ element_scalars n path (z +ℤ pos 1) s

-- the paths of a variable, each with its type; `inner` gives those of an instance of a block (2.4.3)
abbrev pub scalars_at : (Text → Text → List (Text × Scalar)) → Text → Form → List (Text × Scalar)
scalars_at inner path (ScalarForm s) = (path, s) ∷ []
scalars_at inner path (ArrayForm bounds element) = element_scalars (width bounds) path bounds.lower element
scalars_at inner path (BlockForm block) = inner path block

-- the paths of some variables, each with its type (2.4.3)
abbrev pub entity_scalars : (Text → Text → List (Text × Scalar)) → Text → List Entity → List (Text × Scalar)
entity_scalars inner path [] = []
entity_scalars inner path (e ∷ es) = scalars_at inner (under path e.name) e.form ++ entity_scalars inner path es

-- the paths of an instance, each with its type, so many instances deep (2.5.2.1)
abbrev pub instance_scalars : ℕ → Config → Text → Text → List (Text × Scalar)
instance_scalars zero c path block = []
instance_scalars (suc n) c path block = entity_scalars (instance_scalars n c) path (block_entities c block)

-- there is a value of the type at the path (2.3.3.1)
abbrev pub HasValue : Values → Text × Scalar → Type 0
HasValue values p = (v : Value) × (get values p.0 ≡ Some v) × IsOf p.1 v

-- each path has a value of its type (2.3.3.1)
abbrev pub HaveValues : Values → List (Text × Scalar) → Type 0
HaveValues values [] = Unit {0}
HaveValues values (p ∷ ps) = HasValue values p × HaveValues values ps

-- the paths of the globals, each with its type (2.7.1)
abbrev pub global_scalars : Config → List (Text × Scalar)
global_scalars c = entity_scalars (instance_scalars zero c) [] (entities c.globals)

-- the paths of the globals that a program lists as external, each with its type (2.4.3)
abbrev pub external_scalars : Config → ProgramUnit → List (Text × Scalar)
external_scalars c u = entity_scalars (instance_scalars zero c) [] (entities u.externals)

-- the paths of a program's variables, each with its type (2.4.3)
abbrev pub own_scalars : Config → ProgramUnit → List (Text × Scalar)
own_scalars c u = entity_scalars (instance_scalars depth c) [] (own_entities u)

-- the paths of a function's variables, each with its type; a unit of another kind keeps none under its name (2.5.1)
abbrev pub function_scalars_by : Config → ProgramUnit → UnitKind → List (Text × Scalar)
function_scalars_by c u (Function scalar place) = entity_scalars (instance_scalars zero c) u.name.name (own_entities u ++ result_entities u.kind u.name.name)
function_scalars_by c u FunctionBlock = []
function_scalars_by c u Program = []

-- the paths of the variables of the functions among some units, each with its type (2.5.1)
abbrev pub function_scalars : Config → List ProgramUnit → List (Text × Scalar)
function_scalars c [] = []
function_scalars c (u ∷ us) = function_scalars_by c u u.kind ++ function_scalars c us

-- the paths of a task's variables, each with its type: its program's, and those of every function that it uses (2.7.2)
abbrev pub task_scalars : Config → ProgramUnit → List (Text × Scalar)
task_scalars c u = own_scalars c u ++ function_scalars c (used_units depth c u)

-- every global has a value of its declared set (2.7.1)
abbrev pub HoldGlobals : Config → Values → Type 0
HoldGlobals c values = HaveValues values (global_scalars c)

-- every variable of a program has a value of its declared set (2.4.3)
abbrev pub HoldVariables : Config → ProgramUnit → Values → Type 0
HoldVariables c u values = HaveValues values (own_scalars c u)

-- each variable of a program's task has a value of its declared set, and there is no other variable (2.4.3, 2.7.2)
pub record HoldsTask (c : Config) (u : ProgramUnit) (values : Values) : Type 0 where
  pub each : HaveValues values (task_scalars c u)
  pub only : (q : Text) (v : Value) → get values q ≡ Some v → Contains (map (λ p. p.0) (task_scalars c u)) q
