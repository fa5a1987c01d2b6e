-- The type of the current result, and what breaks the rules of instructions.
use Rattle.std.specs.Prelude.{is_none, ◌≡◌, ◌≢◌, ℕ, zero, suc, ◌+◌, ◌<◌, ◌≤◌, Bool, true, false, ◌&&◌, not, if◌then◌else◌, IsTrue, nat_eq, List, [], ◌∷◌, ◌++◌, map, take, length, Option, Some, None, option_map, option_and_then, Contains, flat_map, slice_get}
use Rattle.il_syntax.specs.declared.tree.Config.{Config}
use Rattle.il_syntax.specs.declared.tree.Unit.{Unit as ProgramUnit}
use Rattle.il_syntax.specs.declared.tree.UnitKind.{UnitKind}
use Rattle.il_syntax.specs.declared.tree.UnitKind.TheVariants.{Function, FunctionBlock, Program}
use Rattle.il_syntax.specs.declared.tree.Body.{Body}
use Rattle.il_syntax.specs.declared.tree.Step.{Step}
use Rattle.il_syntax.specs.declared.tree.ProgramLine.{ProgramLine}
use Rattle.il_syntax.specs.declared.tree.Named.{Named}
use Rattle.il_syntax.specs.declared.tree.Place.{Place}
use Rattle.il_syntax.specs.declared.tree.Form.{Form}
use Rattle.il_syntax.specs.declared.tree.Form.TheVariants.{Scalar as OfScalar, Array as OfArray, Block as OfBlock}
use Rattle.il_syntax.specs.declared.tree.Elementary.{Elementary}
use Rattle.il_syntax.specs.declared.tree.Elementary.TheVariants.{Bool as Boolean, Int, Dint, Time}
use Rattle.il_syntax.specs.declared.tree.Literal.{Literal}
use Rattle.il_syntax.specs.declared.tree.Literal.TheVariants.{Truth, Bare, Whole, Time as Duration}
use Rattle.il_syntax.specs.declared.tree.Index.TheVariants.{Number as NumberIndex, Variable as VariableIndex}
use Rattle.il_syntax.specs.declared.tree.Reference.{Reference}
use Rattle.il_syntax.specs.declared.tree.Reference.TheVariants.{Literal as OfLiteral, Variable as OfVariable, Element as OfElement, Member as OfMember}
use Rattle.il_syntax.specs.declared.tree.Operand.{Operand}
use Rattle.il_syntax.specs.declared.tree.Arithmetic.{Arithmetic}
use Rattle.il_syntax.specs.declared.tree.Arithmetic.TheVariants.{Add, Sub, Mul, Div, Mod}
use Rattle.il_syntax.specs.declared.tree.Comparison.{Comparison}
use Rattle.il_syntax.specs.declared.tree.Comparison.TheVariants.{Greater, GreaterOrEqual, Equal, NotEqual, LessOrEqual, Less}
use Rattle.il_syntax.specs.declared.tree.Operator.{Operator}
use Rattle.il_syntax.specs.declared.tree.Operator.TheVariants.{Logic as LogicOperator, Arithmetic as ArithmeticOperator, Comparison as ComparisonOperator}
use Rattle.il_syntax.specs.declared.tree.Store.{Store}
use Rattle.il_syntax.specs.declared.tree.Store.TheVariants.{Plain, Negated, Set, Reset}
use Rattle.il_syntax.specs.declared.tree.Condition.{Condition}
use Rattle.il_syntax.specs.declared.tree.Condition.TheVariants.{Always, WhenTrue, WhenFalse}
use Rattle.il_syntax.specs.declared.tree.Argument.{Argument}
use Rattle.il_syntax.specs.declared.tree.Argument.TheVariants.{Input, Output}
use Rattle.il_syntax.specs.declared.tree.Instruction.{Instruction}
use Rattle.il_syntax.specs.declared.tree.Instruction.TheVariants.{Load, Store as StoreInto, Not, Operate, Defer, Evaluate, Jump, Return, Call, Invoke}
use Rattle.il_statics.specs.declared.names.StandardFunction.{StandardFunction}
use Rattle.il_statics.specs.declared.names.StandardFunction.TheVariants.{Absolute, Minimum, Maximum, Limited, Selected, Converted}
use Rattle.il_statics.specs.declared.names.Origin.{Origin}
use Rattle.il_statics.specs.declared.names.Origin.TheVariants.{Input as AsInput, Output as AsOutput, Local as AsVariable, External as AsExternal, FunctionResult as AsResult, ReadImage as AsReadImage, WrittenImage as AsWrittenImage}
use Rattle.il_statics.specs.Names.{Spelling, or_else, is_one_of, entry_of, standard_function, further_arguments, BlockVariables, block_variables, Variable, named_forms, own_variable, function_named, program_named, variable_named}
use Rattle.il_syntax.specs.ElementaryTypes.{is_same_type, is_whole}
use Rattle.il_statics.specs.Declarations.{has_value, unless}

-- TYPES OF OPERANDS

-- 30 where the kinds differ, 31 where two types of one kind do; whole numbers are the one kind with several types (own rule)
abbrev pub difference_numbers : Elementary → Elementary → List ℕ
difference_numbers found wanted = if is_same_type found wanted then [] else (if is_whole found && is_whole wanted then 31 ∷ [] else 30 ∷ [])

-- the same, where there is a type
abbrev pub any_difference_numbers : Option Elementary → Elementary → List ℕ
any_difference_numbers None wanted = []
any_difference_numbers (Some found) wanted = difference_numbers found wanted

-- the type of a scalar; a subrange has the type of its base (2.3.3.1, own rule)
abbrev pub scalar_type : Form → Option Elementary
scalar_type (OfScalar scalar) = Some scalar.elementary
scalar_type (OfArray bounds element) = None
scalar_type (OfBlock name) = None

-- the type of an array's elements (2.4.1.2)
abbrev pub element_type : Form → Option Elementary
element_type (OfScalar scalar) = None
element_type (OfArray bounds element) = Some element.elementary
element_type (OfBlock name) = None

-- the block of an instance (2.5.2.1)
abbrev pub block_of : Config → Form → Option BlockVariables
block_of config (OfScalar scalar) = None
block_of config (OfArray bounds element) = None
block_of config (OfBlock name) = block_variables config name

-- the type of the scalar variable of a name
abbrev pub name_type : Config → ProgramUnit → Spelling → Option Elementary
name_type config unit name = option_and_then (λ v. scalar_type v.form) (variable_named config unit name)

-- the block of the instance of a name
abbrev pub instance_block : Config → ProgramUnit → Spelling → Option BlockVariables
instance_block config unit name = option_and_then (λ v. block_of config v.form) (variable_named config unit name)

-- the form of a word after an instance
abbrev pub member_form : Spelling → BlockVariables → Option Form
member_form word block = or_else (entry_of block.outputs word) (entry_of block.inputs word)

-- the type of what an operand names; a literal names nothing (3.2.1)
unfoldable pub reference_type : Config → ProgramUnit → Reference → Option Elementary
reference_type config unit (OfLiteral literal) = None
reference_type config unit (OfVariable name) = name_type config unit name
reference_type config unit (OfElement name index) = option_and_then (λ v. element_type v.form) (variable_named config unit name)
reference_type config unit (OfMember name word) = option_and_then scalar_type (option_and_then (member_form word) (instance_block config unit name))

-- a literal's type where none is wanted: a bare number is INT where it fits, otherwise DINT where it fits (own rule)
abbrev pub literal_type : Literal → Option Elementary
literal_type (Truth b) = Some Boolean
literal_type (Bare n) = if has_value Int n then Some Int else (if has_value Dint n then Some Dint else None)
literal_type (Whole elementary n) = Some elementary
literal_type (Duration n) = Some Time

-- the type that LD leaves, a short form, and each input of SEL (3.2.2)
abbrev pub loaded_type : Config → ProgramUnit → Reference → Option Elementary
loaded_type config unit (OfLiteral literal) = literal_type literal
loaded_type config unit (OfVariable name) = reference_type config unit (OfVariable name)
loaded_type config unit (OfElement name index) = reference_type config unit (OfElement name index)
loaded_type config unit (OfMember name word) = reference_type config unit (OfMember name word)

-- an index variable has an integer type (own rule)
abbrev pub index_type_numbers : Option Elementary → List ℕ
index_type_numbers None = []
index_type_numbers (Some found) = unless (is_whole found) 30

-- what an operand's index breaks
abbrev pub index_numbers : Config → ProgramUnit → Reference → List ℕ
index_numbers config unit (OfLiteral literal) = []
index_numbers config unit (OfVariable name) = []
index_numbers config unit (OfElement name (NumberIndex n)) = []
index_numbers config unit (OfElement name (VariableIndex i)) = index_type_numbers (name_type config unit i)
index_numbers config unit (OfMember name word) = []

-- a bare literal where a type is wanted has that type, if it is a whole one with its value (own rule)
abbrev pub bare_numbers : Elementary → List ℕ → List ℕ
bare_numbers wanted misfit = if is_whole wanted then misfit else 30 ∷ []

-- a literal where a type is wanted
abbrev pub literal_numbers : Literal → Elementary → List ℕ
literal_numbers (Truth b) wanted = difference_numbers Boolean wanted
literal_numbers (Bare n) wanted = bare_numbers wanted (unless (has_value wanted n) 31)
literal_numbers (Whole elementary n) wanted = difference_numbers elementary wanted
literal_numbers (Duration n) wanted = difference_numbers Time wanted

-- an operand where a type is wanted (3.2.2)
abbrev pub wanted_numbers : Config → ProgramUnit → Reference → Elementary → List ℕ
wanted_numbers config unit (OfLiteral literal) wanted = literal_numbers literal wanted
wanted_numbers config unit (OfVariable name) wanted = any_difference_numbers (reference_type config unit (OfVariable name)) wanted
wanted_numbers config unit (OfElement name index) wanted =
    index_numbers config unit (OfElement name index) ++ any_difference_numbers (reference_type config unit (OfElement name index)) wanted
wanted_numbers config unit (OfMember name word) wanted = any_difference_numbers (reference_type config unit (OfMember name word)) wanted

-- an operand where a type is wanted, or where none is known
abbrev pub maybe_wanted_numbers : Config → ProgramUnit → Reference → Option Elementary → List ℕ
maybe_wanted_numbers config unit reference None = index_numbers config unit reference
maybe_wanted_numbers config unit reference (Some wanted) = wanted_numbers config unit reference wanted

-- a bare literal that is loaded has a type: it fits INT or DINT (own rule)
abbrev pub unfit_numbers : Option Elementary → List ℕ
unfit_numbers None = 31 ∷ []
unfit_numbers (Some found) = []

-- a literal that is loaded
abbrev pub loaded_literal_numbers : Reference → List ℕ
loaded_literal_numbers (OfLiteral literal) = unfit_numbers (literal_type literal)
loaded_literal_numbers (OfVariable name) = []
loaded_literal_numbers (OfElement name index) = []
loaded_literal_numbers (OfMember name word) = []

-- an operand that is loaded, whatever its type
abbrev pub loaded_numbers : Config → ProgramUnit → Reference → List ℕ
loaded_numbers config unit reference = index_numbers config unit reference ++ loaded_literal_numbers reference

-- THE CURRENT RESULT

-- a current result is there (3.2.2)
abbrev pub presence_numbers : Option Elementary → List ℕ
presence_numbers None = 32 ∷ []
presence_numbers (Some found) = []

-- a current result is there, of this type
abbrev pub result_numbers : Option Elementary → Elementary → List ℕ
result_numbers None wanted = 32 ∷ []
result_numbers (Some found) wanted = difference_numbers found wanted

-- whether an arithmetic operator takes a type (3.2.2; TIME has no products, own rule)
abbrev pub arithmetic_takes : Arithmetic → Elementary → Bool
arithmetic_takes Add found = not (is_same_type found Boolean)
arithmetic_takes Sub found = not (is_same_type found Boolean)
arithmetic_takes Mul found = is_whole found
arithmetic_takes Div found = is_whole found
arithmetic_takes Mod found = is_whole found

-- whether a comparison takes a type (3.2.2)
abbrev pub comparison_takes : Comparison → Elementary → Bool
comparison_takes Greater found = not (is_same_type found Boolean)
comparison_takes GreaterOrEqual found = not (is_same_type found Boolean)
comparison_takes Equal found = true
comparison_takes NotEqual found = true
comparison_takes LessOrEqual found = not (is_same_type found Boolean)
comparison_takes Less found = not (is_same_type found Boolean)

-- whether an operator takes a current result of a type (3.2.2)
abbrev pub takes : Operator → Elementary → Bool
takes (LogicOperator logic negated) found = is_same_type found Boolean
takes (ArithmeticOperator arithmetic) found = arithmetic_takes arithmetic found
takes (ComparisonOperator comparison) found = comparison_takes comparison found

-- a current result is there, of a type that the operator takes
abbrev pub taken_numbers : Operator → Option Elementary → List ℕ
taken_numbers operator None = 32 ∷ []
taken_numbers operator (Some found) = unless (takes operator found) 30

-- the type where an operator takes it
abbrev pub taken_type : Operator → Option Elementary → Option Elementary
taken_type operator None = None
taken_type operator (Some found) = if takes operator found then Some found else None

-- the type that an operator wants of its operand: that of the current result, and BOOL of a logical one (3.2.2)
abbrev pub operand_type : Operator → Option Elementary → Option Elementary
operand_type (LogicOperator logic negated) before = Some Boolean
operand_type (ArithmeticOperator arithmetic) before = taken_type (ArithmeticOperator arithmetic) before
operand_type (ComparisonOperator comparison) before = taken_type (ComparisonOperator comparison) before

-- the type that an operator leaves, on operands of this type (3.2.2)
abbrev pub left_type : Operator → Option Elementary → Option Elementary
left_type (LogicOperator logic negated) before = Some Boolean
left_type (ArithmeticOperator arithmetic) before = before
left_type (ComparisonOperator comparison) before = Some Boolean

-- FUNCTIONS

-- whether a standard function of one type takes it: ABS integer types, the others TIME too (2.5.1.5)
abbrev pub function_takes : StandardFunction → Elementary → Bool
function_takes Absolute found = is_whole found
function_takes Minimum found = not (is_same_type found Boolean)
function_takes Maximum found = not (is_same_type found Boolean)
function_takes Limited found = not (is_same_type found Boolean)
function_takes Selected found = true
function_takes (Converted from to) found = true

-- a standard function of one type: its further arguments have the type of the current result (2.5.1.5)
abbrev pub uniform_numbers : Config → ProgramUnit → StandardFunction → List Operand → Option Elementary → List ℕ
uniform_numbers config unit function operands None = []
uniform_numbers config unit function operands (Some found) =
    if function_takes function found then flat_map (λ o. wanted_numbers config unit o.reference found) (take (further_arguments function) operands) else 30 ∷ []

-- a type that is that of another, where both are there
abbrev pub agreement_numbers : Option Elementary → Option Elementary → List ℕ
agreement_numbers None found = []
agreement_numbers (Some wanted) found = any_difference_numbers found wanted

-- what an input of SEL is checked as: a bare literal that fits no type as DINT, so that its kind is known (own rule)
abbrev pub selected_input_type : Config → ProgramUnit → Reference → Option Elementary
selected_input_type config unit (OfLiteral (Bare n)) = or_else (literal_type (Bare n)) (Some Dint)
selected_input_type config unit reference = loaded_type config unit reference

-- what two inputs of SEL break: they have one type, a bare literal that of LD (2.5.1.5, own rule)
abbrev pub pair_numbers : Config → ProgramUnit → Reference → Reference → List ℕ
pair_numbers config unit a b =
    loaded_numbers config unit a ++ loaded_numbers config unit b ++ agreement_numbers (selected_input_type config unit a) (selected_input_type config unit b)

-- what all inputs of SEL break
abbrev pub selected_numbers : Config → ProgramUnit → List Operand → List ℕ
selected_numbers config unit [] = []
selected_numbers config unit (a ∷ []) = loaded_numbers config unit a.reference
selected_numbers config unit (a ∷ b ∷ rest) =
    pair_numbers config unit a.reference b.reference

-- what a standard function's arguments break but for their number and a missing result (2.5.1.5)
abbrev pub standard_numbers : Config → ProgramUnit → StandardFunction → List Operand → Option Elementary → List ℕ
standard_numbers config unit Absolute operands before = uniform_numbers config unit Absolute operands before
standard_numbers config unit Minimum operands before = uniform_numbers config unit Minimum operands before
standard_numbers config unit Maximum operands before = uniform_numbers config unit Maximum operands before
standard_numbers config unit Limited operands before = uniform_numbers config unit Limited operands before
standard_numbers config unit Selected operands before = any_difference_numbers before Boolean ++ selected_numbers config unit operands
standard_numbers config unit (Converted from to) operands before = any_difference_numbers before from

-- each argument has its input's type (2.5.1.1)
abbrev pub input_numbers : Config → ProgramUnit → List (Spelling × Form) → List Operand → List ℕ
input_numbers config unit [] operands = []
input_numbers config unit (input ∷ inputs) [] = []
input_numbers config unit (input ∷ inputs) (o ∷ operands) = maybe_wanted_numbers config unit o.reference (scalar_type input.1) ++ input_numbers config unit inputs operands

-- every input of an own function is given, the first by the current result (2.5.1.1, 3.2.3; own rule)
abbrev pub own_function_numbers : Config → ProgramUnit → List (Spelling × Form) → List Operand → Option Elementary → List ℕ
own_function_numbers config unit [] operands before = 37 ∷ []
own_function_numbers config unit (first ∷ others) operands before =
    agreement_numbers (scalar_type first.1) before ++ unless (nat_eq (length operands) (length others)) 37 ++ input_numbers config unit others operands

-- what a function's arguments break but for a missing result; an unknown function is no matter of types
abbrev pub function_numbers : Config → ProgramUnit → Option StandardFunction → Option ProgramUnit → List Operand → Option Elementary → List ℕ
function_numbers config unit (Some function) own operands before =
    unless (nat_eq (length operands) (further_arguments function)) 37 ++ standard_numbers config unit function operands before
function_numbers config unit None (Some own) operands before = own_function_numbers config unit (named_forms own.inputs) operands before
function_numbers config unit None None operands before = []

-- the type of SEL's first input, which it leaves
abbrev pub selected_type : Config → ProgramUnit → List Operand → Option Elementary
selected_type config unit [] = None
selected_type config unit (a ∷ rest) = loaded_type config unit a.reference

-- the type that a standard function leaves (2.5.1.5)
abbrev pub standard_type : Config → ProgramUnit → StandardFunction → List Operand → Option Elementary → Option Elementary
standard_type config unit Absolute operands before = before
standard_type config unit Minimum operands before = before
standard_type config unit Maximum operands before = before
standard_type config unit Limited operands before = before
standard_type config unit Selected operands before = selected_type config unit operands
standard_type config unit (Converted from to) operands before = Some to

-- the type of a function's result (2.5.1.3)
abbrev pub unit_type : UnitKind → Option Elementary
unit_type (Function scalar place) = Some scalar.elementary
unit_type FunctionBlock = None
unit_type Program = None

-- the type that a function leaves
abbrev pub function_type : Config → ProgramUnit → Option StandardFunction → Option ProgramUnit → List Operand → Option Elementary → Option Elementary
function_type config unit (Some function) own operands before = standard_type config unit function operands before
function_type config unit None (Some own) operands before = unit_type own.kind
function_type config unit None None operands before = None

-- STORES AND CALLS

-- whether a body may write a variable: no input of its own, no image name that is only read (2.4.3, own rule)
abbrev pub origin_is_written : Origin → Bool
origin_is_written AsInput = false
origin_is_written AsOutput = true
origin_is_written AsVariable = true
origin_is_written AsExternal = true
origin_is_written AsResult = true
origin_is_written AsReadImage = false
origin_is_written AsWrittenImage = true

-- a variable that is stored into may be written
abbrev pub written_variable_numbers : Option Variable → List ℕ
written_variable_numbers None = []
written_variable_numbers (Some v) = unless (origin_is_written v.origin) 33

-- no output of an instance is written from outside (2.5.2.1)
abbrev pub written_member_numbers : Spelling → Option BlockVariables → List ℕ
written_member_numbers word None = []
written_member_numbers word (Some block) = unless (is_none (entry_of block.outputs word)) 33

-- what a place of a store breaks, whatever its type (3.2.2)
abbrev pub written_numbers : Config → ProgramUnit → Reference → List ℕ
written_numbers config unit (OfLiteral literal) = 33 ∷ []
written_numbers config unit (OfVariable name) = written_variable_numbers (variable_named config unit name)
written_numbers config unit (OfElement name index) = written_variable_numbers (variable_named config unit name)
written_numbers config unit (OfMember name word) = written_member_numbers word (instance_block config unit name)

-- STN, S and R take a BOOL into a BOOL (3.2.2)
abbrev pub boolean_store_numbers : Config → ProgramUnit → Reference → Option Elementary → List ℕ
boolean_store_numbers config unit target before = result_numbers before Boolean ++ any_difference_numbers (reference_type config unit target) Boolean

-- ST takes a result into a place of its type (3.2.2)
abbrev pub plain_store_numbers : Config → ProgramUnit → Reference → Option Elementary → List ℕ
plain_store_numbers config unit target None = 32 ∷ []
plain_store_numbers config unit target (Some found) = any_difference_numbers (reference_type config unit target) found

-- what the types of a store break
abbrev pub store_type_numbers : Config → ProgramUnit → Store → Reference → Option Elementary → List ℕ
store_type_numbers config unit Plain target before = plain_store_numbers config unit target before
store_type_numbers config unit Negated target before = boolean_store_numbers config unit target before
store_type_numbers config unit Set target before = boolean_store_numbers config unit target before
store_type_numbers config unit Reset target before = boolean_store_numbers config unit target before

-- what a store breaks: its place, and the types
abbrev pub store_numbers : Config → ProgramUnit → Store → Reference → Option Elementary → List ℕ
store_numbers config unit store target before =
    index_numbers config unit target ++ written_numbers config unit target ++ store_type_numbers config unit store target before

-- the word that an argument gives
abbrev pub argument_word : Argument → Spelling
argument_word (Input word operand) = word.name
argument_word (Output word target) = word.name

-- an input by its word: the block has it, and the operand is of its type (3.2.3)
abbrev pub given_input_numbers : Config → ProgramUnit → Option Form → Reference → List ℕ
given_input_numbers config unit None reference = 37 ∷ index_numbers config unit reference
given_input_numbers config unit (Some form) reference = maybe_wanted_numbers config unit reference (scalar_type form)

-- an output by its word: the block has it, and the target is of its type (3.2.3)
abbrev pub given_output_numbers : Config → ProgramUnit → Option Form → Spelling → List ℕ
given_output_numbers config unit None target = 37 ∷ []
given_output_numbers config unit (Some form) target = agreement_numbers (scalar_type form) (name_type config unit target)

-- what one argument of a CAL breaks (3.2.3)
abbrev pub argument_numbers : Config → ProgramUnit → BlockVariables → Argument → List ℕ
argument_numbers config unit block (Input word operand) = given_input_numbers config unit (entry_of block.inputs word.name) operand.reference
argument_numbers config unit block (Output word target) =
    written_variable_numbers (variable_named config unit target.name) ++ given_output_numbers config unit (entry_of block.outputs word.name) target.name

-- what the arguments of a CAL break after those that gave these words; none is given twice (3.2.3, own rule)
abbrev pub arguments_numbers : Config → ProgramUnit → BlockVariables → List Spelling → List Argument → List ℕ
arguments_numbers config unit block given [] = []
arguments_numbers config unit block given (a ∷ arguments) =
    unless (not (is_one_of given (argument_word a))) 37 ++ argument_numbers config unit block a ++ arguments_numbers config unit block (argument_word a ∷ given) arguments

-- what a CAL's arguments break; a CAL of no instance is no matter of types
abbrev pub call_numbers : Config → ProgramUnit → Option BlockVariables → List Argument → List ℕ
call_numbers config unit None arguments = []
call_numbers config unit (Some block) arguments = arguments_numbers config unit block [] arguments

-- a condition takes a BOOL (3.2.2)
abbrev pub condition_numbers : Condition → Option Elementary → List ℕ
condition_numbers Always before = []
condition_numbers WhenTrue before = result_numbers before Boolean
condition_numbers WhenFalse before = result_numbers before Boolean

-- ONE INSTRUCTION

-- an operator that waits for its `)`, with the type of the result that it set aside (3.2.2)
abbrev pub Deferred : Type 0
Deferred = Operator × Option Elementary

-- the inner result as the operand of a deferred operator (3.2.2)
abbrev pub inner_numbers : Option Elementary → Option Elementary → List ℕ
inner_numbers wanted None = 32 ∷ []
inner_numbers None (Some inner) = []
inner_numbers (Some wanted) (Some inner) = difference_numbers inner wanted

-- a `)` is its deferred operator with the inner result as operand (3.2.2)
abbrev pub evaluated_numbers : Option Deferred → Option Elementary → List ℕ
evaluated_numbers None inner = 32 ∷ []
evaluated_numbers (Some deferred) inner = taken_numbers deferred.0 deferred.1 ++ inner_numbers (operand_type deferred.0 deferred.1) inner

-- the operand of a short form is loaded (3.2.2)
abbrev pub short_form_numbers : Config → ProgramUnit → Option Operand → List ℕ
short_form_numbers config unit None = []
short_form_numbers config unit (Some operand) = loaded_numbers config unit operand.reference

-- LD takes any operand, LDN a BOOL (3.2.2)
abbrev pub load_numbers : Config → ProgramUnit → Bool → Reference → List ℕ
load_numbers config unit false reference = loaded_numbers config unit reference
load_numbers config unit true reference = wanted_numbers config unit reference Boolean

-- what the call of a function breaks: there is a result, indices have their type, and the arguments those of the inputs
abbrev pub invoke_numbers : Config → ProgramUnit → Spelling → List Operand → Option Elementary → List ℕ
invoke_numbers config unit name operands before =
    presence_numbers before
    ++ flat_map (λ o. index_numbers config unit o.reference) operands
    ++ function_numbers config unit (standard_function name) (function_named config name) operands before

-- what an instruction breaks of 30 to 33 and 37, with the type of the current result before it, and at a `)` what waits for it (3.2.2, 3.2.3)
unfoldable pub typing_numbers : Config → ProgramUnit → Instruction → Option Elementary → Option Deferred → List ℕ
typing_numbers config unit (Load negated operand) before deferred = load_numbers config unit negated operand.reference
typing_numbers config unit (StoreInto store target) before deferred = store_numbers config unit store target.reference before
typing_numbers config unit Not before deferred = result_numbers before Boolean
typing_numbers config unit (Operate operator operand) before deferred =
    taken_numbers operator before ++ maybe_wanted_numbers config unit operand.reference (operand_type operator before)
typing_numbers config unit (Defer operator first) before deferred = presence_numbers before ++ short_form_numbers config unit first
typing_numbers config unit Evaluate before deferred = evaluated_numbers deferred before
typing_numbers config unit (Jump condition label) before deferred = condition_numbers condition before
typing_numbers config unit (Return condition) before deferred = condition_numbers condition before
typing_numbers config unit (Call condition instance arguments) before deferred =
    condition_numbers condition before ++ call_numbers config unit (instance_block config unit instance.name) arguments
typing_numbers config unit (Invoke function operands) before deferred = invoke_numbers config unit function.name operands before

-- what a short form loads; without it the inner part begins with no result (3.2.2)
abbrev pub short_form_type : Config → ProgramUnit → Option Operand → Option Elementary
short_form_type config unit None = None
short_form_type config unit (Some operand) = loaded_type config unit operand.reference

-- what a jump or return leaves: none where it always acts (own rule), otherwise the BOOL that it tests (3.2.2)
abbrev pub kept_type : Condition → Option Elementary
kept_type Always = None
kept_type WhenTrue = Some Boolean
kept_type WhenFalse = Some Boolean

-- what a store leaves: ST the result as it was, STN, S and R the BOOL that they store or test (3.2.2)
abbrev pub stored_type : Store → Option Elementary → Option Elementary
stored_type Plain before = before
stored_type Negated before = Some Boolean
stored_type Set before = Some Boolean
stored_type Reset before = Some Boolean

-- what a `)` leaves: the type that its operator leaves on operands of the inner result's type (3.2.2)
abbrev pub evaluated_type : Option Operator → Option Elementary → Option Elementary
evaluated_type None inner = None
evaluated_type (Some operator) inner = left_type operator inner

-- what LD and LDN leave
abbrev pub load_type : Config → ProgramUnit → Bool → Reference → Option Elementary
load_type config unit false reference = loaded_type config unit reference
load_type config unit true reference = Some Boolean

-- the type of the current result after an instruction; at a `)` with the operator that waits for it (3.2.2, 3.2.3)
unfoldable pub type_after : Config → ProgramUnit → Option Operator → Instruction → Option Elementary → Option Elementary
type_after config unit deferred (Load negated operand) before = load_type config unit negated operand.reference
type_after config unit deferred (StoreInto store target) before = stored_type store before
type_after config unit deferred Not before = Some Boolean
type_after config unit deferred (Operate operator operand) before = left_type operator before
type_after config unit deferred (Defer operator first) before = short_form_type config unit first
type_after config unit deferred Evaluate before = evaluated_type deferred before
type_after config unit deferred (Jump condition label) before = kept_type condition
type_after config unit deferred (Return condition) before = kept_type condition
type_after config unit deferred (Call condition instance arguments) before = None
type_after config unit deferred (Invoke function operands) before =
    function_type config unit (standard_function function.name) (function_named config function.name) operands before

-- PARENTHESES

-- an operator that waits for its `)`, with the place of its `OP(`
abbrev pub Opened : Type 0
Opened = ℕ × Operator

-- all but the first
abbrev pub rest_of : List Opened → List Opened
rest_of [] = []
rest_of (o ∷ opened) = opened

-- what is open after an instruction at a place, the innermost first (3.2.2)
abbrev pub opened_after : List Opened → ℕ → Instruction → List Opened
opened_after opened at (Load negated operand) = opened
opened_after opened at (StoreInto store target) = opened
opened_after opened at Not = opened
opened_after opened at (Operate operator operand) = opened
opened_after opened at (Defer operator first) = (at, operator) ∷ opened
opened_after opened at Evaluate = rest_of opened
opened_after opened at (Jump condition label) = opened
opened_after opened at (Return condition) = opened
opened_after opened at (Call condition instance arguments) = opened
opened_after opened at (Invoke function operands) = opened

-- what is open after so many of the instructions that are from a place on
abbrev pub opened_behind : List Opened → ℕ → List Step → ℕ → List Opened
opened_behind opened at [] count = opened
opened_behind opened at (s ∷ steps) zero = opened
opened_behind opened at (s ∷ steps) (suc count) = opened_behind (opened_after opened at s.instruction) (at + 1) steps count

-- the innermost
abbrev pub innermost : List Opened → Option Opened
innermost [] = None
innermost (o ∷ opened) = Some o

-- the `OP(` that is open at a place, so that of a `)` there (3.2.2)
unfoldable pub opener : Body → ℕ → Option Opened
opener body at = innermost (opened_behind [] 0 body.steps at)

-- CONTROL PATHS

-- the place that a label names, counted from one on: that of the first instruction with it, or of the implicit RET (3.2.1)
abbrev pub label_from : ℕ → List Step → List Spelling → Spelling → Option ℕ
label_from at [] last name = if is_one_of last name then Some at else None
label_from at (s ∷ steps) last name = if is_one_of (map (λ l. l.name) s.labels) name then Some at else label_from (at + 1) steps last name

-- the place that a label names (3.2.1)
unfoldable pub label_place : Body → Spelling → Option ℕ
label_place body name = label_from 0 body.steps (map (λ l. l.name) body.last_labels) name

-- whether a condition can fail (3.2.2)
abbrev pub is_conditional : Condition → Bool
is_conditional Always = false
is_conditional WhenTrue = true
is_conditional WhenFalse = true

-- whether the next place can follow: not after JMP and RET (3.2.2)
abbrev pub goes_on : Instruction → Bool
goes_on (Load negated operand) = true
goes_on (StoreInto store target) = true
goes_on Not = true
goes_on (Operate operator operand) = true
goes_on (Defer operator first) = true
goes_on Evaluate = true
goes_on (Jump condition label) = is_conditional condition
goes_on (Return condition) = is_conditional condition
goes_on (Call condition instance arguments) = true
goes_on (Invoke function operands) = true

-- an instruction is at a place of a body
abbrev pub StandsAt : Body → ℕ → Step → Type 0
StandsAt body at step = slice_get body.steps at ≡ Some step

-- a jump is at a place of a body
pub record JumpsAt (body : Body) (at : ℕ) (step : Step) (label : Named) : Type 0 where
  pub stands : StandsAt body at step
  pub condition : Condition
  pub jumps : step.instruction ≡ Jump condition label

-- one place can follow another, whatever the values: the next, or the known label of a jump that goes forward (3.2.2)
pub data Follows (body : Body) (from to : ℕ) : Type 0 where
  onward : (step : Step) → StandsAt body from step → IsTrue (goes_on step.instruction) → to ≡ from + 1 → Follows body from to
  jumped : (step : Step) (label : Named) → JumpsAt body from step label → label_place body label.name ≡ Some to → from < to → Follows body from to

-- a control path: from a place on these places follow one another, up to a place (3.2.2)
abbrev pub Leads : Body → ℕ → List ℕ → ℕ → Type 0
Leads body from [] to = from ≡ to
Leads body from (next ∷ path) to = Follows body from next × Leads body next path to

-- some control path leads from the entry to a place
abbrev pub IsReached : Body → ℕ → Type 0
IsReached body at = (path : List ℕ) × Leads body 0 path at

-- the type of the current result after the instruction at a place, if one is there
abbrev pub type_behind : Config → ProgramUnit → ℕ → Option Elementary → Option Elementary
type_behind config unit at before = option_and_then (λ s. type_after config unit (option_map (λ o. o.1) (opener unit.body at)) s.instruction before) (slice_get unit.body.steps at)

-- the type that a control path gives: that at its last place, from that before its first (3.2.2)
abbrev pub type_along : Config → ProgramUnit → ℕ → List ℕ → Option Elementary → Option Elementary
type_along config unit from [] before = before
type_along config unit from (next ∷ path) before = type_along config unit next path (type_behind config unit from before)

-- all control paths to a place, of which there is one, give this type; a body begins with none (own rule)
pub record AllGive (config : Config) (unit : ProgramUnit) (at : ℕ) (given : Elementary) : Type 0 where
  pub reached : IsReached unit.body at
  pub each : (path : List ℕ) → Leads unit.body 0 path at → type_along config unit 0 path None ≡ Some given

-- the type of the current result at a place: the one that all control paths to it give, and none without one (own rule)
abbrev pub IsResultAt : Config → ProgramUnit → ℕ → Option Elementary → Type 0
IsResultAt config unit at (Some given) = AllGive config unit at given
IsResultAt config unit at None = (given : Elementary) → ¬ AllGive config unit at given

-- what waits for the `)` at a place: the innermost open operator, and the type of the result at its `OP(` (3.2.2)
abbrev pub IsDeferredAt : Config → ProgramUnit → Option Opened → Option Deferred → Type 0
IsDeferredAt config unit None deferred = deferred ≡ None
IsDeferredAt config unit (Some opened) deferred = (aside : Option Elementary) × IsResultAt config unit opened.0 aside × (deferred ≡ Some (opened.1, aside))

-- THE RULES

-- an instruction with its unit and its place in the body
pub record IsStep (config : Config) (unit : ProgramUnit) (at : ℕ) (step : Step) : Type 0 where
  pub written : Contains config.units unit
  pub stands : StandsAt unit.body at step

-- 30 to 33 and 37: an instruction's types, targets and arguments, at its operator (3.2.2, 3.2.3)
pub record IsTypingBroken (config : Config) (number : ℕ) (place : Place) : Type 0 where
  pub unit : ProgramUnit
  pub at : ℕ
  pub step : Step
  pub before : Option Elementary
  pub deferred : Option Deferred
  pub is_step : IsStep config unit at step
  pub result : IsResultAt config unit at before
  pub waits : IsDeferredAt config unit (opener unit.body at) deferred
  pub broken : Contains (typing_numbers config unit step.instruction before deferred) number
  pub is_place : place ≡ step.place

-- a jump of a configuration
pub record IsJump (config : Config) (unit : ProgramUnit) (at : ℕ) (step : Step) (label : Named) : Type 0 where
  pub written : Contains config.units unit
  pub jumps : JumpsAt unit.body at step label

-- 34: a jump to a label that its body lacks (3.2.2)
pub data HasUnknownLabel (config : Config) (place : Place) : Type 0 where
  unknown_label : (unit : ProgramUnit) (at : ℕ) (step : Step) (label : Named) → IsJump config unit at step label → label_place unit.body label.name ≡ None → place ≡ step.place → HasUnknownLabel config place

-- 35: a jump that does not go forward (own rule)
pub data JumpsBackward (config : Config) (place : Place) : Type 0 where
  backward : (unit : ProgramUnit) (at to : ℕ) (step : Step) (label : Named) → IsJump config unit at step label → label_place unit.body label.name ≡ Some to → to ≤ at → place ≡ step.place → JumpsBackward config place

-- 39: an instruction that no control path reaches (own rule)
pub data IsUnreached (config : Config) (place : Place) : Type 0 where
  unreached : (unit : ProgramUnit) (at : ℕ) (step : Step) → IsStep config unit at step → ¬ IsReached unit.body at → place ≡ step.place → IsUnreached config place

-- the name of the variable that an operand names, itself or an element of it
abbrev pub named_variable : Reference → List Spelling
named_variable (OfLiteral literal) = []
named_variable (OfVariable name) = name ∷ []
named_variable (OfElement name index) = name ∷ []
named_variable (OfMember name word) = []

-- the names that arguments write: the targets of outputs (3.2.3)
abbrev pub argument_targets : Argument → List Spelling
argument_targets (Input word operand) = []
argument_targets (Output word target) = target.name ∷ []

-- the variables that an instruction stores into, by name: by ST, STN, S, R or an output's target (3.2.2, 3.2.3)
abbrev pub stored_names : Instruction → List Spelling
stored_names (Load negated operand) = []
stored_names (StoreInto store target) = named_variable target.reference
stored_names Not = []
stored_names (Operate operator operand) = []
stored_names (Defer operator first) = []
stored_names Evaluate = []
stored_names (Jump condition label) = []
stored_names (Return condition) = []
stored_names (Call condition instance arguments) = flat_map argument_targets arguments
stored_names (Invoke function operands) = []

-- whether a name is an external of a unit (2.4.3)
abbrev pub IsExternalOf : ProgramUnit → Spelling → Type 0
IsExternalOf unit name = option_map (λ v. v.origin) (own_variable unit name) ≡ Some AsExternal

-- a unit stores into a global at a place, reached or not
pub record StoresAt (unit : ProgramUnit) (name : Spelling) (place : Place) : Type 0 where
  pub external : IsExternalOf unit name
  pub step : Step
  pub written : Contains unit.body.steps step
  pub stores : Contains (stored_names step.instruction) name
  pub is_place : place ≡ step.place

-- a task writes a global: its program stores into it (2.7.2)
pub record TaskWrites (config : Config) (task name : Spelling) : Type 0 where
  pub line : ProgramLine
  pub unit : ProgramUnit
  pub place : Place
  pub listed : Contains config.programs line
  pub of_task : line.task.name ≡ task
  pub of_program : program_named config line.program.name ≡ Some unit
  pub stores : StoresAt unit name place

-- no unit stores into a global before a place
abbrev pub IsFirstStore : Config → Spelling → Place → Type 0
IsFirstStore config name place = (unit : ProgramUnit) (other : Place) → Contains config.units unit → StoresAt unit name other → place.offset ≤ other.offset

-- 38: two tasks write one global, at the first store into it in the text (own rule)
pub data HasTwoWriters (config : Config) (place : Place) : Type 0 where
  two_writers : (name first second : Spelling) (unit : ProgramUnit) → Contains config.units unit → StoresAt unit name place → IsFirstStore config name place → TaskWrites config first name → TaskWrites config second name → first ≢ second → HasTwoWriters config place
