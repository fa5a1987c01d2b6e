-- What is reported of the targets of an instruction: of 38 the tasks that store into each, otherwise why it may not be stored into (own rules).
use Rattle.std.specs.Prelude.{ℕ, ◌==◌, if◌then◌else◌, List, [], flat_map}
use Rattle.il_syntax.specs.declared.tree.Config.{Config}
use Rattle.il_syntax.specs.declared.tree.Unit.{Unit as ProgramUnit}
use Rattle.il_syntax.specs.declared.tree.Reference.{Reference}
use Rattle.il_syntax.specs.declared.tree.Reference.TheVariants.{Literal as OfLiteral, Variable as OfVariable, Element as OfElement, Member as OfMember}
use Rattle.il_syntax.specs.declared.tree.Argument.{Argument}
use Rattle.il_syntax.specs.declared.tree.Argument.TheVariants.{Input, Output}
use Rattle.il_syntax.specs.declared.tree.Instruction.{Instruction}
use Rattle.il_syntax.specs.declared.tree.Instruction.TheVariants.{Load, Store as StoreInto, Not, Operate, Defer, Evaluate, Jump, Return, Call, Invoke}
use Rattle.il_statics.specs.Names.{Spelling}
use Rattle.reasons_names.specs.NamesStores.{literal_line, variable_text, member_text}
use Rattle.reasons_names.specs.NamesTasks.{stored_text}

-- a name that is stored into
abbrev pub name_text : Config → ProgramUnit → ℕ → Spelling → List ℕ
name_text config unit number name = if number == 38 then stored_text config unit name else variable_text config unit name

-- a target that is no variable's; of 38 there is none
abbrev pub unless_38 : ℕ → List ℕ → List ℕ
unless_38 number text = if number == 38 then [] else text

-- the target of a store (3.2.2)
abbrev pub target_text : Config → ProgramUnit → ℕ → Reference → List ℕ
target_text config unit number (OfLiteral literal) = unless_38 number literal_line
target_text config unit number (OfVariable name) = name_text config unit number name
target_text config unit number (OfElement name index) = name_text config unit number name
target_text config unit number (OfMember name word) = unless_38 number (member_text config unit name word)

-- the target of an output (3.2.3)
abbrev pub argument_text : Config → ProgramUnit → ℕ → Argument → List ℕ
argument_text config unit number (Input word operand) = []
argument_text config unit number (Output word target) = name_text config unit number target.name

-- 33, 38: the targets of an instruction
abbrev pub targets_text : Config → ProgramUnit → ℕ → Instruction → List ℕ
targets_text config unit number (Load negated operand) = []
targets_text config unit number (StoreInto store target) = target_text config unit number target.reference
targets_text config unit number Not = []
targets_text config unit number (Operate operator operand) = []
targets_text config unit number (Defer operator first) = []
targets_text config unit number Evaluate = []
targets_text config unit number (Jump condition label) = []
targets_text config unit number (Return condition) = []
targets_text config unit number (Call condition instance arguments) = flat_map (argument_text config unit number) arguments
targets_text config unit number (Invoke function operands) = []
