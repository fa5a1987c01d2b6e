-- The places of a tree, in the order of the text.
use Rattle.std.specs.Prelude.{◌≡◌, ℕ, ◌≤◌, List, [], ◌∷◌, ◌++◌, flat_map, Option, Some, None, Contains, All, AllPairs}
use Rattle.il_syntax.specs.declared.tree.Place.{Place}
use Rattle.il_syntax.specs.declared.tree.Named.{Named}
use Rattle.il_syntax.specs.declared.tree.Initial.{Initial}
use Rattle.il_syntax.specs.declared.tree.Declaration.{Declaration}
use Rattle.il_syntax.specs.declared.tree.Operand.{Operand}
use Rattle.il_syntax.specs.declared.tree.Argument.{Argument}
use Rattle.il_syntax.specs.declared.tree.Argument.TheVariants.{Input, Output}
use Rattle.il_syntax.specs.declared.tree.Instruction.{Instruction}
use Rattle.il_syntax.specs.declared.tree.Instruction.TheVariants.{Load, Store, Not, Operate, Defer, Evaluate, Jump, Return, Call, Invoke}
use Rattle.il_syntax.specs.declared.tree.Step.{Step}
use Rattle.il_syntax.specs.declared.tree.Body.{Body}
use Rattle.il_syntax.specs.declared.tree.UnitKind.{UnitKind}
use Rattle.il_syntax.specs.declared.tree.UnitKind.TheVariants.{Function, FunctionBlock, Program}
use Rattle.il_syntax.specs.declared.tree.Unit.{Unit as ProgramUnit}
use Rattle.il_syntax.specs.declared.tree.Task.{Task}
use Rattle.il_syntax.specs.declared.tree.ProgramLine.{ProgramLine}
use Rattle.il_syntax.specs.declared.tree.Config.{Config}
use Rattle.il_syntax.specs.Text.{line_at}
use Rattle.il_statics.specs.Faults.{IsFirst}

-- the place of a name, as a list
abbrev pub name_places : Named → List Place
name_places n = n.place ∷ []

-- the place of an operand, as a list
abbrev pub operand_places : Operand → List Place
operand_places o = o.place ∷ []

-- the place of an initial value, if there is one
abbrev pub initial_places : Option Initial → List Place
initial_places None = []
initial_places (Some i) = i.place ∷ []

-- its names, its type and its initial value
abbrev pub declaration_places : Declaration → List Place
declaration_places d = flat_map name_places d.names ++ d.declared.place ∷ initial_places d.initial

-- an argument's word, and its operand or target
abbrev pub argument_places : Argument → List Place
argument_places (Input input operand) = input.place ∷ operand.place ∷ []
argument_places (Output output target) = output.place ∷ target.place ∷ []

-- the operand of a short form, if there is one
abbrev pub first_places : Option Operand → List Place
first_places None = []
first_places (Some operand) = operand_places operand

-- what follows the operator; a function's name is the operator itself
abbrev pub instruction_places : Instruction → List Place
instruction_places (Load negated operand) = operand_places operand
instruction_places (Store store target) = operand_places target
instruction_places Not = []
instruction_places (Operate operator operand) = operand_places operand
instruction_places (Defer operator first) = first_places first
instruction_places Evaluate = []
instruction_places (Jump condition label) = name_places label
instruction_places (Return condition) = []
instruction_places (Call condition instance arguments) = instance.place ∷ flat_map argument_places arguments
instruction_places (Invoke function operands) = function.place ∷ flat_map operand_places operands

-- its labels, its operator and what follows that
abbrev pub step_places : Step → List Place
step_places s = flat_map name_places s.labels ++ s.place ∷ instruction_places s.instruction

-- its instructions, the labels of its end, and the word that ends it
abbrev pub body_places : Body → List Place
body_places b = flat_map step_places b.steps ++ (flat_map name_places b.last_labels ++ b.end ∷ [])

-- where a function's result is written
abbrev pub result_places : UnitKind → List Place
result_places (Function scalar place) = place ∷ []
result_places FunctionBlock = []
result_places Program = []

-- its lists of variables and its body
abbrev pub inner_places : ProgramUnit → List Place
inner_places u =
    flat_map declaration_places u.inputs
    ++ (flat_map declaration_places u.outputs ++ (flat_map declaration_places u.variables ++ (flat_map declaration_places u.externals ++ body_places u.body)))

-- its word, its name, its result, and what is within
abbrev pub unit_places : ProgramUnit → List Place
unit_places u = u.place ∷ u.name.place ∷ (result_places u.kind ++ inner_places u)

-- the word of the globals, if there is one
abbrev pub globals_places : Option Place → List Place
globals_places None = []
globals_places (Some place) = place ∷ []

-- a TASK line and its task's name
abbrev pub task_places : Task → List Place
task_places t = t.place ∷ t.name.place ∷ []

-- a PROGRAM line and its names
abbrev pub line_places : ProgramLine → List Place
line_places l = l.place ∷ l.name.place ∷ l.task.place ∷ l.program.place ∷ []

-- the globals and the resource
abbrev pub resource_places : Config → List Place
resource_places c =
    globals_places c.globals_place ++ (flat_map declaration_places c.globals ++ (flat_map task_places c.tasks ++ (flat_map line_places c.programs ++ c.end_resource ∷ [])))

-- the places of a tree, in the order of the text
abbrev pub places : Config → List Place
places c = flat_map unit_places c.units ++ c.cars.place ∷ c.floors.place ∷ c.slots.place ∷ resource_places c

-- a place's line is that of its byte in the text
abbrev pub HasItsLine : List ℕ → Place → Type 0
HasItsLine text place = place.line ≡ line_at text place.offset

-- each place has its line, and none comes before one that comes earlier in the tree
pub record AreInText (text : List ℕ) (ps : List Place) : Type 0 where
  pub lines : All (HasItsLine text) ps
  pub order : AllPairs (λ (p q : Place). p.offset ≤ q.offset) ps

-- faults that are broken at places of the tree alone
abbrev pub BreaksAtPlaces : Config → (ℕ → Place → Type 0) → Type 0
BreaksAtPlaces config rule = (number : ℕ) (place : Place) → rule number place → Contains (places config) place

-- two faults that are both first have one number, and is on one line
abbrev pub IsFirstAtOneLine : (ℕ → Place → Type 0) → Type 0
IsFirstAtOneLine rule =
    (number other_number : ℕ) (place other_place : Place) → IsFirst rule number place → IsFirst rule other_number other_place → (number ≡ other_number) × (place.line ≡ other_place.line)
