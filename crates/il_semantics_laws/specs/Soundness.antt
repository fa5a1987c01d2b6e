-- That an annotated program never traps, never sticks, and ends within its budget, and the premises of it (own rule).
use Rattle.std.specs.Prelude.{◌≡◌, ◌≢◌, ℕ, ◌<◌, ◌≤◌, List, length, Some, Contains, codes}
use Rattle.il_syntax.specs.declared.tree.Elementary.TheVariants.{Time}
use Rattle.il_syntax.specs.declared.tree.Scalar.{Scalar}
use Rattle.il_syntax.specs.declared.tree.Form.{Form}
use Rattle.il_syntax.specs.declared.tree.Form.TheVariants.{Scalar as ScalarForm, Block as BlockForm}
use Rattle.il_syntax.specs.declared.tree.Condition.{Condition}
use Rattle.il_syntax.specs.declared.tree.Named.{Named}
use Rattle.il_syntax.specs.declared.tree.Instruction.TheVariants.{Jump}
use Rattle.il_syntax.specs.declared.tree.Unit.{Unit as ProgramUnit}
use Rattle.il_syntax.specs.declared.tree.Config.{Config}
use Rattle.il_syntax.specs.ElementaryTypes.{plain}
use Rattle.il_statics.specs.Names.{BlockVariables, block_variables, named_forms, unit_named, function_named, function_block_named, form_named}
use Rattle.il_statics.specs.Types.{label_place}
use Rattle.il_statics.specs.Written.{IsWord}
use Rattle.base_maps.specs.NameMap.{Text}
use Rattle.il_semantics.specs.Values.{IsOf}
use Rattle.il_semantics.specs.Meaning.{fresh_values}
use Rattle.il_semantics.specs.declared.value.Value.{Value}
use Rattle.il_semantics.specs.State.{Values, State}
use Rattle.il_semantics.specs.Step.{Outcome, Next, Trapped, Stuck, instruction_at, step}
use Rattle.il_semantics.specs.Scan.{Reaches, HasEnded, begins}
use Rattle.il_semantics.specs.Paths.{longest}
use Rattle.il_semantics_laws.specs.Agreement.{CallsBy, HasUse, HasVariable, IsStack, Sees, IsKept, Holds, Agrees, left}

-- PREMISES

-- each name that means a variable in the body of a unit is a word (2.1.2)
abbrev pub HasWords : Config → ProgramUnit → Type 0
HasWords c u = (name : Text) (form : Form) → form_named c u name ≡ Some form → IsWord name

-- so is each in the body of each unit of the configuration (2.1.2)
abbrev pub HasWordNames : Config → Type 0
HasWordNames c = (u : ProgramUnit) → Contains c.units u → HasWords c u

-- each variable of a block is a word, and has one type (2.1.2, 20)
pub record HasBlockWords (c : Config) : Type 0 where
  pub words : (block word : Text) (form : Form) → HasVariable c block word form → IsWord word
  pub once : (block word : Text) (form other : Form) → HasVariable c block word form → HasVariable c block word other → form ≡ other

-- a unit uses what an instruction of it calls (2.5)
abbrev pub CallsAreUses : Config → Type 0
CallsAreUses c = (u v : ProgramUnit) (place : ℕ) → Contains c.units u → CallsBy c u v (instruction_at u.body place) → HasUse c u v

-- every jump goes forward (35)
abbrev pub JumpsForward : Config → Type 0
JumpsForward c = (u : ProgramUnit) (at to : ℕ) (condition : Condition) (label : Named) → Contains c.units u → instruction_at u.body at ≡ Jump condition label → label_place u.body label.name ≡ Some to → at < to

-- no unit is used through more than 15 others (36, 46)
abbrev pub IsShallow : Config → ProgramUnit → Type 0
IsShallow c p = (v : ProgramUnit) (us : List ProgramUnit) → IsStack c p v us → length us < 16

-- an instance is one of a block (21)
abbrev pub HasBlocks : Config → Type 0
HasBlocks c = (u : ProgramUnit) (name block : Text) → Contains c.units u → form_named c u name ≡ Some (BlockForm block) → (b : BlockVariables) × (block_variables c block ≡ Some b)

-- what the body of an own block sees are its variables: it has no externals, and no image name (the grammar)
abbrev pub BlocksSeeTheirOwn : Config → Type 0
BlocksSeeTheirOwn c = (block : Text) (v : ProgramUnit) (name : Text) (form : Form) → function_block_named c block ≡ Some v → form_named c v name ≡ Some form → HasVariable c block name form

-- no unit is used through one of its name (20, 36)
abbrev pub IsAcyclic : Config → ProgramUnit → Type 0
IsAcyclic c p = (v w : ProgramUnit) (us : List ProgramUnit) → IsStack c p v us → Contains us w → w.name.name ≢ v.name.name

-- no instance has a function's name (20)
abbrev pub InstancesAreNoFunctions : Config → Type 0
InstancesAreNoFunctions c = (u f : ProgramUnit) (name block function : Text) → Contains c.units u → form_named c u name ≡ Some (BlockForm block) → function_named c function ≡ Some f → name ≢ f.name.name

-- a function's body sees its inputs by their names, which are distinct (20)
abbrev pub InputsAreSeen : Config → Type 0
InputsAreSeen c = (f : ProgramUnit) (function : Text) (e : Text × Form) → function_named c function ≡ Some f → Contains (named_forms f.inputs) e → form_named c f e.0 ≡ Some e.1

-- a function's variables begin with values of their declared sets (22, 23, 25)
abbrev pub BeginsFresh : Config → Type 0
BeginsFresh c = (f : ProgramUnit) (function : Text) (e : Text × Value) → function_named c function ≡ Some f → Contains (fresh_values c f) e → (s : Scalar) × Sees c f f.name.name e.0 s × IsOf s e.1

-- What is asked of a configuration, beside annotations of its units (own rule).
pub record IsInOrder (c : Config) (p : ProgramUnit) : Type 0 where
  pub named : unit_named c p.name.name ≡ Some p
  pub words : HasWordNames c
  pub block_words : HasBlockWords c
  pub forward : JumpsForward c
  pub uses : CallsAreUses c
  pub shallow : IsShallow c p
  pub blocks : HasBlocks c
  pub own : BlocksSeeTheirOwn c
  pub acyclic : IsAcyclic c p
  pub instances : InstancesAreNoFunctions c
  pub inputs : InputsAreSeen c
  pub fresh : BeginsFresh c
  -- the time of the snapshot is a program's as TIME: no variable hides it (20)
  pub time : form_named c p (codes "NOW") ≡ Some (ScalarForm (plain Time))

-- no two variables are kept at one path with two types; the premises above give it (20)
abbrev pub HasPathsOnce : Config → ProgramUnit → Type 0
HasPathsOnce c p = (q : Text) (s t : Scalar) → IsKept c p q s → IsKept c p q t → s ≡ t

-- SOUNDNESS

-- a step leads to a state that agrees, with fewer steps left than before (own rule)
abbrev pub StepsWell : Config → ProgramUnit → ℕ → Outcome → Type 0
StepsWell c p before (Next t) = Agrees c p t × (left c t.frames < before)
StepsWell c p before (Trapped trap) = ⊥
StepsWell c p before Stuck = ⊥

-- a state that agrees and has not ended has a next state, which agrees, with fewer steps left (own rule)
abbrev pub StepIsSound : Config → ProgramUnit → Type 0
StepIsSound c p = (s : State) → Agrees c p s → ¬ HasEnded s → StepsWell c p (left c s.frames) (step c s)

-- a scan's start agrees, with the program's greatest cost left, where the task's variables and what is given of image and globals lie in their declared sets (own rule)
pub record StartsWell (c : Config) (p : ProgramUnit) (variables : Values) (given : List (Text × Value)) : Type 0 where
  pub agrees : Agrees c p (begins p variables given)
  pub budget : left c (begins p variables given).frames ≡ longest c p

-- a state that was reached from a start: what it has cost and what is left is within the budget, it has ended or goes on, and the variables have values of their declared sets (own rule)
pub record RunsWell (c : Config) (p : ProgramUnit) (n : ℕ) (t : State) : Type 0 where
  pub holds : Holds c p t.values
  pub within : n ≤ longest c p
  pub ends : n ≡ longest c p → HasEnded t
  pub goes_on : ¬ HasEnded t → (next : State) × (step c t ≡ Next next)

-- every state of every scan is so that starts with values of the declared sets (own rule)
abbrev pub ScansWell : Config → ProgramUnit → Type 0
ScansWell c p = (variables : Values) (given : List (Text × Value)) → Holds c p (begins p variables given).values →
    (n : ℕ) (t : State) → Reaches c n (begins p variables given) t → RunsWell c p n t
