-- What is reported of types (own rules).
use Rattle.std.specs.Prelude.{◌≡◌, ℕ, ◌==◌, Bool, ◌||◌, List, [], ◌∷◌, ◌++◌, flat_map, Option, Some, None, codes}
use Rattle.il_syntax.specs.declared.tree.Argument.{Argument}
use Rattle.il_syntax.specs.declared.tree.Argument.TheVariants.{Input, Output}
use Rattle.il_syntax.specs.declared.tree.Arithmetic.{Arithmetic}
use Rattle.il_syntax.specs.declared.tree.Arithmetic.TheVariants.{Add, Sub, Mul, Div, Mod}
use Rattle.il_syntax.specs.declared.tree.Comparison.{Comparison}
use Rattle.il_syntax.specs.declared.tree.Comparison.TheVariants.{Greater, GreaterOrEqual, Equal, NotEqual, LessOrEqual, Less}
use Rattle.il_syntax.specs.declared.tree.Condition.{Condition}
use Rattle.il_syntax.specs.declared.tree.Condition.TheVariants.{Always, WhenTrue, WhenFalse}
use Rattle.il_syntax.specs.declared.tree.Config.{Config}
use Rattle.il_syntax.specs.declared.tree.Declaration.{Declaration}
use Rattle.il_syntax.specs.declared.tree.Elementary.{Elementary}
use Rattle.il_syntax.specs.declared.tree.Elementary.TheVariants.{Bool as Boolean}
use Rattle.il_syntax.specs.declared.tree.Form.{Form}
use Rattle.il_syntax.specs.declared.tree.Index.{Index}
use Rattle.il_syntax.specs.declared.tree.Index.TheVariants.{Number as NumberIndex, Variable as VariableIndex}
use Rattle.il_syntax.specs.declared.tree.Instruction.{Instruction}
use Rattle.il_syntax.specs.declared.tree.Instruction.TheVariants.{Load, Store as StoreInto, Not, Operate, Defer, Jump, Return, Call, Invoke}
use Rattle.il_syntax.specs.declared.tree.Named.{Named}
use Rattle.il_syntax.specs.declared.tree.Operand.{Operand}
use Rattle.il_syntax.specs.declared.tree.Operator.{Operator}
use Rattle.il_syntax.specs.declared.tree.Operator.TheVariants.{Logic as LogicOperator, Arithmetic as ArithmeticOperator, Comparison as ComparisonOperator}
use Rattle.il_syntax.specs.declared.tree.Reference.{Reference}
use Rattle.il_syntax.specs.declared.tree.Reference.TheVariants.{Literal as OfLiteral, Variable as OfVariable, Element as OfElement, Member as OfMember}
use Rattle.il_syntax.specs.declared.tree.Store.{Store}
use Rattle.il_syntax.specs.declared.tree.Store.TheVariants.{Plain, Negated, Set, Reset}
use Rattle.il_syntax.specs.declared.tree.Unit.{Unit as ProgramUnit}
use Rattle.il_statics.specs.declared.names.StandardFunction.{StandardFunction}
use Rattle.il_statics.specs.declared.names.StandardFunction.TheVariants.{Selected, Converted}
use Rattle.il_statics.specs.Names.{Spelling, standard_function, function_named, named_forms}
use Rattle.il_statics.specs.Types.{scalar_type, name_type, reference_type, Deferred, typing_numbers}
use Rattle.reasons_types.specs.TypeWords.{type_word, type_line, literal_line}
use Rattle.reasons_types.specs.RangeWords.{index_text}

-- OPERANDS

-- `V is INT`, of a scalar variable
abbrev pub name_line : Config → ProgramUnit → Spelling → List ℕ
name_line c unit name = type_line name (name_type c unit name)

-- `I is INT`, of the variable of an index
abbrev pub index_line : Config → ProgramUnit → Index → List ℕ
index_line c unit (NumberIndex n) = []
index_line c unit (VariableIndex name) = name_line c unit name

-- `V[I] is INT`
abbrev pub element_line : Config → ProgramUnit → Spelling → Index → List ℕ
element_line c unit name index = type_line (name ++ (codes "[" ++ (index_text index ++ codes "]"))) (reference_type c unit (OfElement name index))

-- `T.ET is TIME`
abbrev pub member_line : Config → ProgramUnit → Spelling → Spelling → List ℕ
member_line c unit name word = type_line (name ++ (codes "." ++ word)) (reference_type c unit (OfMember name word))

-- an operand with its type, and the variable of its index with its own
abbrev pub reference_lines : Config → ProgramUnit → Reference → List ℕ
reference_lines c unit (OfLiteral literal) = literal_line literal
reference_lines c unit (OfVariable name) = name_line c unit name
reference_lines c unit (OfElement name index) = element_line c unit name index ++ index_line c unit index
reference_lines c unit (OfMember name word) = member_line c unit name word

-- the operand of a short form, if there is one
abbrev pub first_lines : Config → ProgramUnit → Option Operand → List ℕ
first_lines c unit None = []
first_lines c unit (Some operand) = reference_lines c unit operand.reference

-- operands, in the written order
abbrev pub operands_lines : Config → ProgramUnit → List Operand → List ℕ
operands_lines c unit operands = flat_map (λ (o : Operand). reference_lines c unit o.reference) operands

-- an argument of a CAL: the input or output of the instance, and its operand
abbrev pub argument_lines : Config → ProgramUnit → Spelling → Argument → List ℕ
argument_lines c unit instance (Input word operand) = member_line c unit instance word.name ++ reference_lines c unit operand.reference
argument_lines c unit instance (Output word target) = member_line c unit instance word.name ++ name_line c unit target.name

-- arguments, in the written order
abbrev pub arguments_lines : Config → ProgramUnit → Spelling → List Argument → List ℕ
arguments_lines c unit instance arguments = flat_map (argument_lines c unit instance) arguments

-- the operands of an instruction, each with its type
abbrev pub operand_lines : Config → ProgramUnit → Instruction → List ℕ
operand_lines c unit (Load negated operand) = reference_lines c unit operand.reference
operand_lines c unit (StoreInto store target) = reference_lines c unit target.reference
operand_lines c unit (Operate operator operand) = reference_lines c unit operand.reference
operand_lines c unit (Defer operator first) = first_lines c unit first
operand_lines c unit (Call condition instance arguments) = arguments_lines c unit instance.name arguments
operand_lines c unit (Invoke function operands) = operands_lines c unit operands
operand_lines c unit _ = []

-- WHAT IS WANTED

-- the one type of a current result that a condition takes (3.2.2)
abbrev pub tested_type : Condition → Option Elementary
tested_type Always = None
tested_type WhenTrue = Some Boolean
tested_type WhenFalse = Some Boolean

-- that of a store: the target's, and BOOL for STN, S and R (3.2.2)
abbrev pub stored_type : Store → Option Elementary → Option Elementary
stored_type Plain target = target
stored_type Negated target = Some Boolean
stored_type Set target = Some Boolean
stored_type Reset target = Some Boolean

-- that of an operator: BOOL for a logical one (3.2.2)
abbrev pub operated_type : Operator → Option Elementary
operated_type (LogicOperator logic negated) = Some Boolean
operated_type _ = None

-- that of a standard function: BOOL for SEL, X for X_TO_Y (2.5.1.5)
abbrev pub standard_type : StandardFunction → Option Elementary
standard_type Selected = Some Boolean
standard_type (Converted from to) = Some from
standard_type _ = None

-- that of the first of some inputs
abbrev pub first_type : List (Spelling × Form) → Option Elementary
first_type [] = None
first_type (input ∷ inputs) = scalar_type input.1

-- that of a function: of an own one its first input's (2.5.1)
abbrev pub function_type : Option StandardFunction → Option ProgramUnit → Option Elementary
function_type (Some function) own = standard_type function
function_type None (Some own) = first_type (named_forms own.inputs)
function_type None None = None

-- that of an instruction (3.2.2, 3.2.3)
abbrev pub wanted_type : Config → ProgramUnit → Instruction → Option Elementary
wanted_type c unit (StoreInto store target) = stored_type store (reference_type c unit target.reference)
wanted_type c unit Not = Some Boolean
wanted_type c unit (Operate operator operand) = operated_type operator
wanted_type c unit (Jump condition label) = tested_type condition
wanted_type c unit (Return condition) = tested_type condition
wanted_type c unit (Call condition instance arguments) = tested_type condition
wanted_type c unit (Invoke function operands) = function_type (standard_function function.name) (function_named c function.name)
wanted_type c unit _ = None

-- with a current result of another type the instruction breaks a rule (3.2.2, 3.2.3)
abbrev pub IsWanted : Config → ProgramUnit → Instruction → Elementary → Type 0
IsWanted c unit instruction wanted = (found : Elementary) (deferred : Option Deferred) → typing_numbers c unit instruction (Some found) deferred ≡ [] → found ≡ wanted

-- `the result must be INT`, where one type is wanted
abbrev pub wanted_line : Option Elementary → List ℕ
wanted_line None = []
wanted_line (Some wanted) = codes "the result must be " ++ (type_word wanted ++ codes "\n")

-- WHAT AN OPERATOR TAKES

-- of arithmetic (3.2.2; TIME has no products, own rule)
abbrev pub arithmetic_line : Arithmetic → List ℕ
arithmetic_line Add = codes "ADD and SUB take two whole numbers of one type, or two TIME\n"
arithmetic_line Sub = codes "ADD and SUB take two whole numbers of one type, or two TIME\n"
arithmetic_line Mul = codes "MUL, DIV and MOD take two whole numbers of one type\n"
arithmetic_line Div = codes "MUL, DIV and MOD take two whole numbers of one type\n"
arithmetic_line Mod = codes "MUL, DIV and MOD take two whole numbers of one type\n"

-- of a comparison (3.2.2)
abbrev pub comparison_line : Comparison → List ℕ
comparison_line Greater = codes "GT, GE, LE and LT take two whole numbers of one type, or two TIME\n"
comparison_line GreaterOrEqual = codes "GT, GE, LE and LT take two whole numbers of one type, or two TIME\n"
comparison_line Equal = codes "EQ and NE take two of one type\n"
comparison_line NotEqual = codes "EQ and NE take two of one type\n"
comparison_line LessOrEqual = codes "GT, GE, LE and LT take two whole numbers of one type, or two TIME\n"
comparison_line Less = codes "GT, GE, LE and LT take two whole numbers of one type, or two TIME\n"

abbrev pub operator_line : Operator → List ℕ
operator_line (LogicOperator logic negated) = codes "AND, OR and XOR take two BOOL\n"
operator_line (ArithmeticOperator arithmetic) = arithmetic_line arithmetic
operator_line (ComparisonOperator comparison) = comparison_line comparison

-- the types that an instruction's operator takes, if it has one
abbrev pub taken_line : Instruction → List ℕ
taken_line (Operate operator operand) = operator_line operator
taken_line (Defer operator first) = operator_line operator
taken_line _ = []

-- THE INPUTS OF OWN FUNCTIONS

-- `B of F is BOOL`, of an input with this type
abbrev pub input_line : Spelling → Option Elementary → Named → List ℕ
input_line function found n = type_line (n.name ++ (codes " of " ++ function)) found

-- the inputs of a declaration
abbrev pub declared_lines : Spelling → Declaration → List ℕ
declared_lines function d = flat_map (input_line function (scalar_type d.declared.form)) d.names

-- the inputs of an own function (2.5.1)
abbrev pub inputs_lines : Spelling → Option ProgramUnit → List ℕ
inputs_lines function None = []
inputs_lines function (Some own) = flat_map (declared_lines function) own.inputs

-- those of the function that an instruction calls
abbrev pub called_lines : Config → Instruction → List ℕ
called_lines c (Invoke function operands) = inputs_lines function.name (function_named c function.name)
called_lines c _ = []

-- INSTRUCTIONS

-- whether the types of operands give the reason: 30, 31 and 32
abbrev pub is_type_number : ℕ → Bool
is_type_number number = number == 30 || number == 31 || number == 32

-- the type that the current result must have, what the operator takes, the types of an own function's inputs, and those of the operands
abbrev pub type_lines : Config → ProgramUnit → Instruction → List ℕ
type_lines c unit instruction = wanted_line (wanted_type c unit instruction) ++ (taken_line instruction ++ (called_lines c instruction ++ operand_lines c unit instruction))
