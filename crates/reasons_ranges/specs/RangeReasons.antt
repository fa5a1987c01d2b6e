-- What is reported of faults of ranges (own rules).
use Rattle.std.specs.Prelude.{◌≡◌, ◌≢◌, ℕ, ℤ, pos, negsuc, int_le, Bool, true, false, ◌&&◌, if◌then◌else◌, nat_eq, List, [], ◌∷◌, ◌++◌, flat_map, Option, Some, None, option_and_then, codes}
use Rattle.il_syntax.specs.declared.tree.Argument.{Argument}
use Rattle.il_syntax.specs.declared.tree.Argument.TheVariants.{Input, Output}
use Rattle.il_syntax.specs.declared.tree.Arithmetic.{Arithmetic}
use Rattle.il_syntax.specs.declared.tree.Arithmetic.TheVariants.{Add, Sub, Mul, Div, Mod}
use Rattle.il_syntax.specs.declared.tree.Config.{Config}
use Rattle.il_syntax.specs.declared.tree.Elementary.{Elementary}
use Rattle.il_syntax.specs.declared.tree.Form.{Form}
use Rattle.il_syntax.specs.declared.tree.Form.TheVariants.{Array as OfArray}
use Rattle.il_syntax.specs.declared.tree.Index.{Index}
use Rattle.il_syntax.specs.declared.tree.Index.TheVariants.{Number, Variable as ByVariable}
use Rattle.il_syntax.specs.declared.tree.Instruction.{Instruction}
use Rattle.il_syntax.specs.declared.tree.Instruction.TheVariants.{Load, Store, Operate, Defer, Evaluate, Call, Invoke}
use Rattle.il_syntax.specs.declared.tree.Literal.{Literal}
use Rattle.il_syntax.specs.declared.tree.Literal.TheVariants.{Truth, Bare, Whole, Time}
use Rattle.il_syntax.specs.declared.tree.Operand.{Operand}
use Rattle.il_syntax.specs.declared.tree.Operator.{Operator}
use Rattle.il_syntax.specs.declared.tree.Operator.TheVariants.{Arithmetic as OfArithmetic}
use Rattle.il_syntax.specs.declared.tree.Place.{Place}
use Rattle.il_syntax.specs.declared.tree.Reference.{Reference}
use Rattle.il_syntax.specs.declared.tree.Reference.TheVariants.{Literal as OfLiteral, Variable as OfVariable, Element as OfElement, Member as OfMember}
use Rattle.il_syntax.specs.declared.tree.Scalar.{Scalar}
use Rattle.il_syntax.specs.declared.tree.Step.{Step}
use Rattle.il_syntax.specs.declared.tree.Subrange.{Subrange}
use Rattle.il_syntax.specs.declared.tree.Unit.{Unit as ProgramUnit}
use Rattle.il_syntax.specs.ElementaryTypes.{limits, plain}
use Rattle.ranges_interval.specs.declared.Interval.{Interval}
use Rattle.ranges_interval.specs.Interval.{interval_abs}
use Rattle.base_maps.specs.NameMap.{get}
use Rattle.il_statics.specs.declared.names.StandardFunction.{StandardFunction}
use Rattle.il_statics.specs.declared.names.StandardFunction.TheVariants.{Absolute, Converted}
use Rattle.il_statics.specs.Names.{Spelling, entry_of, form_named, function_named, standard_function}
use Rattle.il_statics.specs.Types.{instance_block, member_form}
use Rattle.il_statics.specs.Declarations.{declared_limits}
use Rattle.il_statics.specs.Least.{NumberedFault}
use Rattle.il_semantics.specs.declared.known.Known.{Known}
use Rattle.il_semantics.specs.declared.known.Known.TheVariants.{Flag, Ranged}
use Rattle.il_semantics.specs.declared.known.KnownDeferred.{KnownDeferred}
use Rattle.il_semantics.specs.Annotation.{Knowledge, only, range}
use Rattle.ranges_laws.specs.Found.{combined}
use Rattle.load_scope.specs.Units.{InUnit, scalar_of, input_scalars}
use Rattle.ranges_pass.specs.declared.fault.RangeFault.{RangeFault}
use Rattle.ranges_pass.specs.declared.fault.RangeFault.TheVariants.{Overflow, ZeroDivisor, Index as OutOfArray, Subrange as OutOfRange, Argument as OutOfInput}
use Rattle.ranges_pass.specs.Kinds.{is_division}
use Rattle.ranges_pass.specs.RangeFaults.{range_fault_number}
use Rattle.ranges_pass.specs.Shown.{AreKnownTo, steps_text}
use Rattle.load_text.specs.Loading.{IsSpelled, IsUnbroken}
use Rattle.reasons_types.specs.RangeWords.{ends_text, limits_text, scalar_text, index_name, reference_text, declared_line, declared_text, where_text}

-- WHAT OPERANDS ARE

-- the type of an array's elements
abbrev pub element_of : Option Form → Option Scalar
element_of (Some (OfArray bounds element)) = Some element
element_of _ = None

-- the bounds of an array
abbrev pub bounds_of : Option Form → Option Subrange
bounds_of (Some (OfArray bounds element)) = Some bounds
bounds_of _ = None

-- the scalar type of what an operand names
abbrev pub scalar_named : InUnit → Reference → Option Scalar
scalar_named u (OfLiteral l) = None
scalar_named u (OfVariable name) = scalar_of (form_named u.config u.unit name)
scalar_named u (OfElement name index) = element_of (form_named u.config u.unit name)
scalar_named u (OfMember name word) = scalar_of (option_and_then (member_form word) (instance_block u.config u.unit name))

-- the range of a literal
abbrev pub literal_range : Literal → Option Interval
literal_range (Truth b) = None
literal_range (Bare z) = Some (only z)
literal_range (Whole e z) = Some (only z)
literal_range (Time z) = Some (only z)

-- the range of an operand, as far as it is known: of a variable what is known of it, of an element and a member the declared range
abbrev pub range_at : InUnit → Knowledge → Reference → Option Interval
range_at u k (OfLiteral l) = literal_range l
range_at u k (OfVariable name) = get k.variables name
range_at u k (OfElement name index) = option_and_then range (scalar_named u (OfElement name index))
range_at u k (OfMember name word) = option_and_then range (scalar_named u (OfMember name word))

-- whether a range lies within limits
abbrev pub lies_within : Interval → Subrange → Bool
lies_within i s = int_le s.lower i.lo && int_le i.hi s.upper

-- the same of limits that may not be there
abbrev pub lies_in : Interval → Option Subrange → Bool
lies_in i None = true
lies_in i (Some s) = lies_within i s

-- 43: STORES

-- ` into V : INT (0..9), declared in line 3`
abbrev pub into_text : ProgramUnit → Reference → Scalar → List ℕ
into_text u to s = codes " into " ++ (reference_text to ++ (codes " : " ++ (scalar_text s ++ (where_text u to ++ codes "\n"))))

-- `stores 0..10 into V : INT (0..9), declared in line 3`
abbrev pub stored_text : ProgramUnit → Interval → Reference → Scalar → List ℕ
stored_text u i to s = codes "stores " ++ (ends_text i ++ into_text u to s)

-- the same, where the target has a scalar type
abbrev pub target_text : ProgramUnit → Interval → Reference → Option Scalar → List ℕ
target_text u i to None = []
target_text u i to (Some s) = stored_text u i to s

-- the same, where the current result has a range
abbrev pub result_text : InUnit → Reference → Option Known → List ℕ
result_text u to (Some (Ranged e i)) = target_text u.unit i to (scalar_named u to)
result_text u to (Some Flag) = []
result_text u to None = []

-- of a store
abbrev pub store_text : InUnit → Knowledge → Instruction → List ℕ
store_text u k (Store kind to) = result_text u to.reference k.result
store_text u k _ = []

-- 42: INDEXES

-- the range of an index
abbrev pub index_range : Knowledge → Index → Option Interval
index_range k (Number z) = Some (only z)
index_range k (ByVariable name) = get k.variables name

-- `, and A has 1..8, declared in line 4`
abbrev pub array_has_text : ProgramUnit → Spelling → Subrange → List ℕ
array_has_text u name s = codes ", and " ++ (name ++ (codes " has " ++ (limits_text s ++ (declared_text (declared_line u name) ++ codes "\n"))))

-- `the index I is 0..9, and A has 1..8, declared in line 4`
abbrev pub outside_text : ProgramUnit → Spelling → Index → Interval → Subrange → List ℕ
outside_text u name index i s = codes "the index" ++ (index_name index ++ (codes " is " ++ (ends_text i ++ array_has_text u name s)))

-- the same, where the index may lie outside of the array
abbrev pub unless_within : ProgramUnit → Spelling → Index → Interval → Subrange → List ℕ
unless_within u name index i s = if lies_within i s then [] else outside_text u name index i s

-- the same, where the name is that of an array
abbrev pub array_text : ProgramUnit → Spelling → Index → Interval → Option Subrange → List ℕ
array_text u name index i None = []
array_text u name index i (Some s) = unless_within u name index i s

-- the same, where the index has a range
abbrev pub element_text : InUnit → Spelling → Index → Option Interval → List ℕ
element_text u name index None = []
element_text u name index (Some i) = array_text u.unit name index i (bounds_of (form_named u.config u.unit name))

-- of an operand
abbrev pub operand_index_text : InUnit → Knowledge → Reference → List ℕ
operand_index_text u k (OfElement name index) = element_text u name index (index_range k index)
operand_index_text u k (OfLiteral l) = []
operand_index_text u k (OfVariable name) = []
operand_index_text u k (OfMember name word) = []

-- of an operand that may not be there
abbrev pub first_index_text : InUnit → Knowledge → Option Operand → List ℕ
first_index_text u k None = []
first_index_text u k (Some o) = operand_index_text u k o.reference

-- of an argument
abbrev pub argument_index_text : InUnit → Knowledge → Argument → List ℕ
argument_index_text u k (Input word o) = operand_index_text u k o.reference
argument_index_text u k (Output word to) = []

-- of operands and of arguments, in the written order
abbrev pub operands_index_text : InUnit → Knowledge → List Operand → List ℕ
operands_index_text u k operands = flat_map (λ (o : Operand). operand_index_text u k o.reference) operands

abbrev pub arguments_index_text : InUnit → Knowledge → List Argument → List ℕ
arguments_index_text u k arguments = flat_map (argument_index_text u k) arguments

-- of an instruction
abbrev pub indexes_text : InUnit → Knowledge → Instruction → List ℕ
indexes_text u k (Load negated o) = operand_index_text u k o.reference
indexes_text u k (Store kind to) = operand_index_text u k to.reference
indexes_text u k (Operate operator o) = operand_index_text u k o.reference
indexes_text u k (Defer operator first) = first_index_text u k first
indexes_text u k (Call condition instance arguments) = arguments_index_text u k arguments
indexes_text u k (Invoke function operands) = operands_index_text u k operands
indexes_text u k _ = []

-- 41: DIVISORS

-- ` D`, the name of an operand that has one
abbrev pub operand_name : Reference → List ℕ
operand_name (OfLiteral l) = []
operand_name (OfVariable name) = codes " " ++ reference_text (OfVariable name)
operand_name (OfElement name index) = codes " " ++ reference_text (OfElement name index)
operand_name (OfMember name word) = codes " " ++ reference_text (OfMember name word)

-- `the divisor D is 0..5`
abbrev pub divided_text : Reference → Option Interval → List ℕ
divided_text r None = []
divided_text r (Some i) = codes "the divisor" ++ (operand_name r ++ (codes " is " ++ (ends_text i ++ codes "\n")))

-- the same of an operator that divides
abbrev pub divided_by : Operator → Reference → Option Interval → List ℕ
divided_by operator r i = if is_division operator then divided_text r i else []

-- of what `)` divides by, the current result
abbrev pub inner_text : Option Known → List ℕ
inner_text (Some (Ranged e i)) = codes "the divisor in the parentheses is " ++ (ends_text i ++ codes "\n")
inner_text (Some Flag) = []
inner_text None = []

-- of an instruction
abbrev pub divisor_text : InUnit → Knowledge → Instruction → List ℕ
divisor_text u k (Operate operator o) = divided_by operator o.reference (range_at u k o.reference)
divisor_text u k Evaluate = inner_text k.result
divisor_text u k _ = []

-- 40: RESULTS

-- the sign of an operation
abbrev pub sign_text : Arithmetic → List ℕ
sign_text Add = codes " + "
sign_text Sub = codes " - "
sign_text Mul = codes " * "
sign_text Div = codes " / "
sign_text Mod = codes " MOD "

-- whether a range can be an operand: it has a number, and its ends are a DINT or a UDINT
abbrev pub is_end : ℤ → Bool
is_end z = int_le (negsuc 2147483647) z && int_le z (pos 4294967295)

abbrev pub is_operand : Interval → Bool
is_operand i = is_end i.lo && (is_end i.hi && int_le i.lo i.hi)

-- what an operation gives for all values of two ranges that can be operands; nothing where a divisor may be 0
abbrev pub given_from : Arithmetic → Interval → Interval → Option Interval
given_from kind i j = if is_operand i && is_operand j then combined kind i j else None

-- ` gives 0..300, outside SINT (-128..127)`
abbrev pub left_text : Elementary → Interval → List ℕ
left_text e r = codes " gives " ++ (ends_text r ++ (codes ", outside " ++ (scalar_text (plain e) ++ codes "\n")))

-- `0..200 + 0..100 gives 0..300, outside SINT (-128..127)`
abbrev pub operated_text : Elementary → Arithmetic → Interval → Interval → Interval → List ℕ
operated_text e kind i j r = ends_text i ++ (sign_text kind ++ (ends_text j ++ left_text e r))

-- the same, where the range is not of the type
abbrev pub operated_unless : Elementary → Arithmetic → Interval → Interval → Interval → List ℕ
operated_unless e kind i j r = if lies_in r (limits e) then [] else operated_text e kind i j r

-- the same, where there is a range
abbrev pub operated_by : Elementary → Arithmetic → Interval → Interval → Option Interval → List ℕ
operated_by e kind i j None = []
operated_by e kind i j (Some r) = operated_unless e kind i j r

-- the same, where the right side has a range
abbrev pub right_text : Elementary → Arithmetic → Interval → Option Interval → List ℕ
right_text e kind i None = []
right_text e kind i (Some j) = operated_by e kind i j (given_from kind i j)

-- the same, where the left side has a range
abbrev pub sides_text : Arithmetic → Option Known → Option Interval → List ℕ
sides_text kind (Some (Ranged e i)) j = right_text e kind i j
sides_text kind (Some Flag) j = []
sides_text kind None j = []

-- of an operator
abbrev pub operator_text : InUnit → Knowledge → Operator → Reference → List ℕ
operator_text u k (OfArithmetic kind) r = sides_text kind k.result (range_at u k r)
operator_text u k _ r = []

-- `0..300 is outside SINT (-128..127)`, where it is
abbrev pub converted_text : Elementary → Interval → List ℕ
converted_text to i = ends_text i ++ (codes " is outside " ++ (scalar_text (plain to) ++ codes "\n"))

abbrev pub converted_unless : Elementary → Interval → List ℕ
converted_unless to i = if lies_in i (limits to) then [] else converted_text to i

-- `ABS of -128..5 gives 0..128, outside SINT (-128..127)`, where it is
abbrev pub absolute_text : Elementary → Interval → List ℕ
absolute_text e i = codes "ABS of " ++ (ends_text i ++ left_text e (interval_abs i))

abbrev pub absolute_unless : Elementary → Interval → List ℕ
absolute_unless e i = if lies_in (interval_abs i) (limits e) then [] else absolute_text e i

abbrev pub absolute_of : Elementary → Interval → List ℕ
absolute_of e i = if is_operand i then absolute_unless e i else []

-- of a standard function on the current result; the others give no more than they take
abbrev pub function_text : StandardFunction → Elementary → Interval → List ℕ
function_text (Converted from to) e i = converted_unless to i
function_text Absolute e i = absolute_of e i
function_text _ e i = []

-- the same, where there is one
abbrev pub standard_text : Option StandardFunction → Elementary → Interval → List ℕ
standard_text None e i = []
standard_text (Some f) e i = function_text f e i

-- the same, where the current result has a range
abbrev pub invoked_text : Option StandardFunction → Option Known → List ℕ
invoked_text f (Some (Ranged e i)) = standard_text f e i
invoked_text f (Some Flag) = []
invoked_text f None = []

-- the range of what is known of a value, if it has one
abbrev pub known_range : Option Known → Option Interval
known_range (Some (Ranged e i)) = Some i
known_range (Some Flag) = None
known_range None = None

-- of an operator that waits for its `)`, with what is known of the result that was set aside and of the current one (3.2.2)
abbrev pub aside_text : Operator → Known → Option Known → List ℕ
aside_text (OfArithmetic kind) left right = sides_text kind (Some left) (known_range right)
aside_text _ left right = []

-- of a `)`
abbrev pub evaluated_text : List KnownDeferred → Option Known → List ℕ
evaluated_text [] right = []
evaluated_text (d ∷ deferred) right = aside_text d.operator d.left right

-- of an instruction
abbrev pub overflow_text : InUnit → Knowledge → Instruction → List ℕ
overflow_text u k (Operate operator o) = operator_text u k operator o.reference
overflow_text u k Evaluate = evaluated_text k.deferred k.result
overflow_text u k (Invoke function operands) = invoked_text (standard_function function.name) k.result
overflow_text u k _ = []

-- 44: ARGUMENTS

-- `input PV of C takes `
abbrev pub of_text : List ℕ → Spelling → Spelling → List ℕ → List ℕ
of_text kind word instance verb = kind ++ (word ++ (codes " of " ++ (instance ++ verb)))

-- `, and the value N is 0..300`
abbrev pub value_text : Reference → Interval → List ℕ
value_text r i = codes ", and the value" ++ (operand_name r ++ (codes " is " ++ (ends_text i ++ codes "\n")))

-- `input PV of C takes INT (0..100), and the value N is 0..300`
abbrev pub input_text : Spelling → Spelling → Scalar → Reference → Interval → List ℕ
input_text instance word s r i = of_text (codes "input ") word instance (codes " takes ") ++ (scalar_text s ++ value_text r i)

-- the same, where the range may leave the input's
abbrev pub input_unless : Spelling → Spelling → Scalar → Reference → Interval → List ℕ
input_unless instance word s r i = if lies_in i (declared_limits s) then [] else input_text instance word s r i

-- the same, where both have a range
abbrev pub input_by : Spelling → Spelling → Reference → Option Scalar → Option Interval → List ℕ
input_by instance word r None i = []
input_by instance word r (Some s) None = []
input_by instance word r (Some s) (Some i) = input_unless instance word s r i

-- `, and the target is V : INT (0..9), declared in line 3`
abbrev pub aim_text : ProgramUnit → Spelling → Scalar → List ℕ
aim_text u target t = codes ", and the target is " ++ (target ++ (codes " : " ++ (scalar_text t ++ (declared_text (declared_line u target) ++ codes "\n"))))

-- `output CV of C is INT (-32768..32767), and the target is V : INT (0..9), declared in line 3`
abbrev pub output_text : ProgramUnit → Spelling → Spelling → Scalar → Spelling → Scalar → List ℕ
output_text u instance word s target t = of_text (codes "output ") word instance (codes " is ") ++ (scalar_text s ++ aim_text u target t)

-- whether the limits of one type lie within those of another
abbrev pub limits_in : Option Subrange → Option Subrange → Bool
limits_in None t = true
limits_in (Some s) None = true
limits_in (Some s) (Some t) = int_le t.lower s.lower && int_le s.upper t.upper

-- the same, where the output may leave the target's range
abbrev pub output_unless : ProgramUnit → Spelling → Spelling → Scalar → Spelling → Scalar → List ℕ
output_unless u instance word s target t = if limits_in (declared_limits s) (declared_limits t) then [] else output_text u instance word s target t

-- the same, where both have a scalar type
abbrev pub output_by : ProgramUnit → Spelling → Spelling → Option Scalar → Spelling → Option Scalar → List ℕ
output_by u instance word None target t = []
output_by u instance word (Some s) target None = []
output_by u instance word (Some s) target (Some t) = output_unless u instance word s target t

-- of an argument of an instance
abbrev pub argument_text : InUnit → Knowledge → Spelling → Argument → List ℕ
argument_text u k instance (Input word o) =
    input_by instance word.name o.reference (scalar_of (option_and_then (λ b. entry_of b.inputs word.name) (instance_block u.config u.unit instance))) (range_at u k o.reference)
argument_text u k instance (Output word to) =
    output_by u.unit instance word.name (scalar_of (option_and_then (λ b. entry_of b.outputs word.name) (instance_block u.config u.unit instance))) to.name (scalar_of (form_named u.config u.unit to.name))

-- `the first input of F takes INT (0..9), and the result is 0..300`, where the current result may leave it
abbrev pub first_text : Spelling → Scalar → Interval → List ℕ
first_text name s i = codes "the first input of " ++ (name ++ (codes " takes " ++ (scalar_text s ++ (codes ", and the result is " ++ (ends_text i ++ codes "\n")))))

abbrev pub first_unless : Spelling → Scalar → Interval → List ℕ
first_unless name s i = if lies_in i (declared_limits s) then [] else first_text name s i

abbrev pub first_by : Spelling → Option Scalar → Option Known → List ℕ
first_by name None r = []
first_by name (Some s) None = []
first_by name (Some s) (Some Flag) = []
first_by name (Some s) (Some (Ranged e i)) = first_unless name s i

-- `an input of F takes INT (0..9), and the value N is 0..300`, where an operand may leave it
abbrev pub further_text : Spelling → Scalar → Reference → Interval → List ℕ
further_text name s r i = codes "an input of " ++ (name ++ (codes " takes " ++ (scalar_text s ++ value_text r i)))

abbrev pub further_unless : Spelling → Scalar → Reference → Interval → List ℕ
further_unless name s r i = if lies_in i (declared_limits s) then [] else further_text name s r i

abbrev pub further_by : Spelling → Option Scalar → Reference → Option Interval → List ℕ
further_by name None r i = []
further_by name (Some s) r None = []
further_by name (Some s) r (Some i) = further_unless name s r i

-- of the operands of an own function, by the types of its inputs after the first
abbrev pub operands_told : InUnit → Knowledge → Spelling → List (Option Scalar) → List Operand → List ℕ
operands_told u k name [] operands = []
operands_told u k name (s ∷ scalars) [] = []
operands_told u k name (s ∷ scalars) (o ∷ operands) = further_by name s o.reference (range_at u k o.reference) ++ operands_told u k name scalars operands

-- of its current result and its operands, by the types of its inputs
abbrev pub inputs_told : InUnit → Knowledge → Spelling → List Operand → List (Option Scalar) → List ℕ
inputs_told u k name operands [] = []
inputs_told u k name operands (s ∷ scalars) = first_by name s k.result ++ operands_told u k name scalars operands

-- of an own function
abbrev pub function_told : InUnit → Knowledge → Spelling → List Operand → Option ProgramUnit → List ℕ
function_told u k name operands None = []
function_told u k name operands (Some f) = inputs_told u k name operands (input_scalars f)

-- of a call of an instance or of a function
abbrev pub arguments_text : InUnit → Knowledge → Instruction → List ℕ
arguments_text u k (Call condition instance arguments) = flat_map (argument_text u k instance.name) arguments
arguments_text u k (Invoke function operands) = function_told u k function.name operands (function_named u.config function.name)
arguments_text u k _ = []

-- AT A PLACE

-- what is reported of an instruction that has this fault, by what is known before it
abbrev pub fault_text : InUnit → RangeFault → Knowledge → Instruction → List ℕ
fault_text u Overflow k i = overflow_text u k i
fault_text u ZeroDivisor k i = divisor_text u k i
fault_text u OutOfArray k i = indexes_text u k i
fault_text u OutOfRange k i = store_text u k i
fault_text u OutOfInput k i = arguments_text u k i

-- of an instruction of a unit: where it is reached and is at this offset
abbrev pub told_step : InUnit → RangeFault → ℕ → Step → Option Knowledge → List ℕ
told_step u fault offset s None = []
told_step u fault offset s (Some k) = if nat_eq s.place.offset offset then fault_text u fault k s.instruction else []

-- whether a fault has this number, and is at this offset
abbrev pub is_fault_at : ℕ → ℕ → Option NumberedFault → Bool
is_fault_at number offset None = false
is_fault_at number offset (Some f) = nat_eq f.number number && nat_eq f.place.offset offset

-- What is reported of a unit: by what is known in it, of the instruction at the place, where that is the first without ranges and this its fault.
pub record IsUnitTold (c : Config) (u : ProgramUnit) (fault : RangeFault) (place : Place) (lines : List ℕ) : Type 0 where
  pub known : List (Option Knowledge)
  pub found : Option NumberedFault
  pub are : AreKnownTo c u known found
  pub is : lines ≡ (if is_fault_at (range_fault_number fault) place.offset found then steps_text (told_step (record { config = c; unit = u }) fault place.offset) u.body.steps known else [])

-- of units, one after the other
abbrev pub AreUnitsTold : Config → RangeFault → Place → List ProgramUnit → List ℕ → Type 0
AreUnitsTold c fault place [] lines = lines ≡ []
AreUnitsTold c fault place (u ∷ units) lines = (one rest : List ℕ) × IsUnitTold c u fault place one × AreUnitsTold c fault place units rest × (lines ≡ one ++ rest)

-- What is reported of a text that was refused with a number at a place: where the number is that of a fault of ranges, and the text spells a
-- configuration of which no rule of declarations, types and order is broken, what is reported of its units.
pub data AreToldOfRanges (text : List ℕ) (number : ℕ) (place : Place) (lines : List ℕ) : Type 0 where
  other : ((fault : RangeFault) → range_fault_number fault ≢ number) → lines ≡ [] → AreToldOfRanges text number place lines
  broken : ((c : Config) → IsSpelled text c → IsUnbroken c → ⊥) → lines ≡ [] → AreToldOfRanges text number place lines
  units : (fault : RangeFault) (c : Config) → range_fault_number fault ≡ number → IsSpelled text c → IsUnbroken c → AreUnitsTold c fault place c.units lines → AreToldOfRanges text number place lines
