-- What is reported of names that are no variable of the kind that their place asks for (own rules).
use Rattle.std.specs.Prelude.{ℕ, ◌==◌, Bool, if◌then◌else◌, List, [], ◌++◌, flat_map, Option, Some, None, codes}
use Rattle.std.specs.List.{list_any}
use Rattle.il_syntax.specs.declared.tree.Argument.{Argument}
use Rattle.il_syntax.specs.declared.tree.Argument.TheVariants.{Input, Output}
use Rattle.il_syntax.specs.declared.tree.Config.{Config}
use Rattle.il_syntax.specs.declared.tree.Index.{Index}
use Rattle.il_syntax.specs.declared.tree.Index.TheVariants.{Number as NumberIndex, Variable as VariableIndex}
use Rattle.il_syntax.specs.declared.tree.Instruction.{Instruction}
use Rattle.il_syntax.specs.declared.tree.Instruction.TheVariants.{Load, Store as StoreInto, Operate, Defer, Call, Invoke}
use Rattle.il_syntax.specs.declared.tree.Operand.{Operand}
use Rattle.il_syntax.specs.declared.tree.Reference.{Reference}
use Rattle.il_syntax.specs.declared.tree.Reference.TheVariants.{Literal as OfLiteral, Variable as OfVariable, Element as OfElement, Member as OfMember}
use Rattle.il_syntax.specs.declared.tree.Unit.{Unit as ProgramUnit}
use Rattle.il_statics.specs.Names.{Spelling, meaning}
use Rattle.il_statics.specs.Declarations.{scalar_numbers, array_numbers, called_numbers}

-- whether 25 is among these numbers
abbrev pub is_other_kind : List ℕ → Bool
is_other_kind numbers = list_any (λ n. n == 25) numbers

-- `V is an array`, where a scalar variable is wanted (2.4.3)
abbrev pub array_line : Config → ProgramUnit → Spelling → List ℕ
array_line c unit name = if is_other_kind (scalar_numbers (meaning c unit name)) then name ++ codes " is an array\n" else []

-- `V is no array`, before an index (2.4.1.2)
abbrev pub no_array_line : Config → ProgramUnit → Spelling → List ℕ
no_array_line c unit name = if is_other_kind (array_numbers (meaning c unit name)) then name ++ codes " is no array\n" else []

-- `V is no instance of a function block`, after CAL (3.2.3)
abbrev pub no_instance_line : Config → ProgramUnit → Spelling → List ℕ
no_instance_line c unit name = if is_other_kind (called_numbers (meaning c unit name)) then name ++ codes " is no instance of a function block\n" else []

-- of an index
abbrev pub index_kind : Config → ProgramUnit → Index → List ℕ
index_kind c unit (NumberIndex n) = []
index_kind c unit (VariableIndex name) = array_line c unit name

-- of an operand
abbrev pub reference_kind : Config → ProgramUnit → Reference → List ℕ
reference_kind c unit (OfLiteral literal) = []
reference_kind c unit (OfVariable name) = array_line c unit name
reference_kind c unit (OfElement name index) = no_array_line c unit name ++ index_kind c unit index
reference_kind c unit (OfMember name word) = []

-- of the operand of a short form, if there is one
abbrev pub first_kind : Config → ProgramUnit → Option Operand → List ℕ
first_kind c unit None = []
first_kind c unit (Some operand) = reference_kind c unit operand.reference

-- of operands, in the written order
abbrev pub operand_kinds : Config → ProgramUnit → List Operand → List ℕ
operand_kinds c unit operands = flat_map (λ (o : Operand). reference_kind c unit o.reference) operands

-- of an argument of a CAL
abbrev pub argument_kind : Config → ProgramUnit → Argument → List ℕ
argument_kind c unit (Input word operand) = reference_kind c unit operand.reference
argument_kind c unit (Output word target) = array_line c unit target.name

-- of arguments, in the written order
abbrev pub argument_kinds : Config → ProgramUnit → List Argument → List ℕ
argument_kinds c unit arguments = flat_map (argument_kind c unit) arguments

-- of an instruction
abbrev pub kind_lines : Config → ProgramUnit → Instruction → List ℕ
kind_lines c unit (Load negated operand) = reference_kind c unit operand.reference
kind_lines c unit (StoreInto store target) = reference_kind c unit target.reference
kind_lines c unit (Operate operator operand) = reference_kind c unit operand.reference
kind_lines c unit (Defer operator first) = first_kind c unit first
kind_lines c unit (Call condition instance arguments) = no_instance_line c unit instance.name ++ argument_kinds c unit arguments
kind_lines c unit (Invoke function operands) = operand_kinds c unit operands
kind_lines c unit _ = []
