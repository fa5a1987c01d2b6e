-- What names resolve to, by the tables of the code (own rules).
use Rattle.std.specs.Prelude.{ℕ, ◌+◌, ◌≤◌, ◌^◌, length, List, [], ◌∷◌, ◌++◌, map, drop, reverse, suc, slice_get, Option, Some, None, option_map, option_and_then, ℤ}
use Rattle.il_syntax.specs.declared.tree.Literal.{Literal}
use Rattle.il_syntax.specs.declared.tree.Index.{Index}
use Rattle.il_syntax.specs.declared.tree.Index.TheVariants.{Number, Variable as ByVariable}
use Rattle.il_syntax.specs.declared.tree.Reference.{Reference}
use Rattle.il_syntax.specs.declared.tree.Reference.TheVariants.{Literal as LiteralReference, Variable as VariableReference, Element, Member}
use Rattle.load_slots.specs.declared.variables.Variable.{Variable}
use Rattle.il_syntax.specs.declared.tree.Named.{Named}
use Rattle.il_syntax.specs.declared.tree.Operand.{Operand as Written}
use Rattle.il_syntax.specs.declared.tree.Unit.{Unit as ProgramUnit}
use Rattle.il_syntax.specs.declared.tree.Config.{Config}
use Rattle.il_statics.specs.Names.{or_else, entry_of, form_named, standard_function, function_named}
use Rattle.il_statics.specs.Declarations.{is_within}
use Rattle.base_maps.specs.NameMap.{Text, get}
use Rattle.il_semantics.specs.Meaning.{width, natural, Constant, entities, initial_value}
use Rattle.il_statics.specs.declared.names.StandardFunction.{StandardFunction}
use Rattle.il_statics.specs.declared.names.StandardFunction.TheVariants.{Absolute, Minimum, Maximum, Limited, Selected, Converted}
use Rattle.load_slots.specs.Cells.{IsShort}
use Rattle.load_scope.specs.declared.entry.BlockType.{BlockType}
use Rattle.load_scope.specs.declared.entry.VariableType.{VariableType}
use Rattle.load_scope.specs.declared.entry.VariableType.TheVariants.{Scalar, Array, Instance}
use Rattle.load_scope.specs.Views.{type_of, variables_of_block}
use Rattle.load_slots.specs.declared.flat.Operand.{Operand}
use Rattle.load_slots.specs.declared.flat.Operand.TheVariants.{Constant as Fixed, At, Element as IndexedBy, Outside}
use Rattle.load_slots.specs.declared.flat.FunctionCode.{FunctionCode}
use Rattle.il_semantics.specs.Step.{content}
use Rattle.load_code.specs.declared.operands.Known.{Known}
use Rattle.load_code.specs.declared.operands.Resolved.{Resolved}
use Rattle.load_code.specs.declared.operands.Resolved.TheVariants.{Literal as OfLiteral, Place}
use Rattle.load_slots.specs.declared.flat.Slot.{Slot}
use Rattle.load_slots.specs.declared.flat.Slot.TheVariants.{Flag}
use Rattle.load_slots.specs.declared.flat.Assignment.{Assignment}
use Rattle.load_slots.specs.declared.flat.Copied.{Copied}
use Rattle.load_slots.specs.declared.flat.Flat.{Flat}
use Rattle.load_slots.specs.declared.flat.Flat.TheVariants.{Not as FlatNot, Call as FlatCall, CallStandard, Apply, Invoke as FlatInvoke}
use Rattle.il_syntax.specs.declared.tree.Condition.{Condition}
use Rattle.il_syntax.specs.declared.tree.Argument.{Argument}
use Rattle.il_syntax.specs.declared.tree.Argument.TheVariants.{Input, Output}
use Rattle.load_scope.specs.declared.entry.BlockType.TheVariants.{Standard, Own}
use Rattle.load_slots.specs.Flattened.{slot_of, index_in, numbered, typed, untyped, slot_in, function_entities, calls_form, invokes}
use Rattle.load_slots.specs.Places.{capped}
use Rattle.load_slots.specs.Making.{shown, all_offsets, standard_offset}
use Rattle.load_slots.specs.Program.{program_names}

-- a type with an offset, where both are there
abbrev pub known_by : Option VariableType → Option ℕ → Option Known
known_by (Some t) (Some k) = Some (record { declared = t; offset = k })
known_by _ _ = None

-- the variable that a name means in a unit
abbrev pub known : Config → ProgramUnit → Text → Option Known
known c u name = option_map (λ f. record { declared = type_of c f; offset = (program_names c u.name.name).offset name }) (form_named c u name)

-- the words of blocks
abbrev pub word_offset : Config → BlockType → Text → Option ℕ
word_offset c (Own k) word = option_and_then (λ t. get t word) (slice_get (all_offsets c) k)
word_offset c (Standard b) word = standard_offset b word

abbrev pub input_known : Config → BlockType → Text → Option Known
input_known c b word = known_by (option_map (type_of c) (option_and_then (λ v. entry_of v.inputs word) (variables_of_block c b))) (word_offset c b word)

abbrev pub output_known : Config → BlockType → Text → Option Known
output_known c b word = known_by (option_map (type_of c) (option_and_then (λ v. entry_of v.outputs word) (variables_of_block c b))) (word_offset c b word)

-- OPERANDS

abbrev pub scalar_operand : VariableType → ℕ → Operand
scalar_operand (Scalar s) offset = At (slot_of s offset)
scalar_operand _ offset = Outside

abbrev pub direct_operand : Option Known → Operand
direct_operand None = Outside
direct_operand (Some k) = scalar_operand k.declared k.offset

abbrev pub numbered_by : VariableType → ℕ → ℤ → Operand
numbered_by (Array bounds element) offset z = numbered (is_within bounds z) (slot_of element (offset + index_in bounds z))
numbered_by _ offset z = Outside

abbrev pub numbered_operand : Option Known → ℤ → Operand
numbered_operand None z = Outside
numbered_operand (Some k) z = numbered_by k.declared k.offset z

abbrev pub index_by : VariableType → ℕ → VariableType → ℕ → Operand
index_by (Array bounds element) offset (Scalar s) index = IndexedBy (slot_of element offset) bounds index
index_by _ offset _ index = Outside

abbrev pub indexed_operand : Option Known → Option Known → Operand
indexed_operand (Some k) (Some i) = index_by k.declared k.offset i.declared i.offset
indexed_operand _ _ = Outside

abbrev pub inside_by : ℕ → Option Known → Operand
inside_by offset None = Outside
inside_by offset (Some w) = scalar_operand w.declared (capped (offset + w.offset))

abbrev pub member_by : Config → VariableType → ℕ → Text → Operand
member_by c (Instance (Some b)) offset word = inside_by offset (or_else (output_known c b word) (input_known c b word))
member_by c _ offset word = Outside

abbrev pub member_operand : Config → Option Known → Text → Operand
member_operand c None word = Outside
member_operand c (Some k) word = member_by c k.declared k.offset word

-- an element by its index
abbrev pub element_operand : (Text → Option Known) → Text → Index → Operand
element_operand names name (Number z) = numbered_operand (names name) z
element_operand names name (ByVariable v) = indexed_operand (names name) (names v)

-- what an operand resolves to
abbrev pub resolve : Config → ProgramUnit → Reference → Resolved
resolve c u (LiteralReference l) = OfLiteral l
resolve c u (VariableReference name) = Place (direct_operand (known c u name))
resolve c u (Element name index) = Place (element_operand (known c u) name index)
resolve c u (Member instance word) = Place (member_operand c (known c u instance) word)

-- with its literals as they are in flat code
abbrev pub by_resolved : (Literal → Operand) → Resolved → Operand
by_resolved literal (OfLiteral l) = literal l
by_resolved literal (Place o) = o

-- the indices of an array, if it is one, are of a size
abbrev pub IsShortType : VariableType → Type 0
IsShortType (Array bounds element) = IsShort bounds.lower (width bounds)
IsShortType _ = Unit {0}

-- what is known of a variable can be counted
abbrev pub IsSmall : Option Known → Type 0
IsSmall None = Unit {0}
IsSmall (Some k) = (k.offset ≤ 2 ^ 63) × IsShortType k.declared

-- CALLS

-- a literal for a variable that is known
abbrev pub literal_by : VariableType → Literal → Operand
literal_by (Scalar s) l = typed s.elementary l
literal_by _ l = Outside

abbrev pub literal_known : Option Known → Literal → Operand
literal_known None l = Outside
literal_known (Some k) l = literal_by k.declared l

-- the slot of a word, if it is a scalar
abbrev pub slot_by_type : VariableType → ℕ → Slot
slot_by_type (Scalar s) k = slot_of s k
slot_by_type _ k = Flag 0

abbrev pub slot_known : ℕ → Option Known → Slot
slot_known base None = Flag 0
slot_known base (Some w) = slot_by_type w.declared (capped (base + w.offset))

-- an input of a call of an instance at an offset, and an output
abbrev pub assigned_at : Config → ProgramUnit → BlockType → ℕ → Named → Written → Assignment
assigned_at c u b base word operand = record { to = slot_known base (input_known c b word.name); from = by_resolved (literal_known (input_known c b word.name)) (resolve c u operand.reference) }

abbrev pub copied_at : Config → ProgramUnit → BlockType → ℕ → Named → Named → Copied
copied_at c u b base word to = record { from = slot_known base (output_known c b word.name); to = slot_in (direct_operand (known c u to.name)) }

-- one argument more, if it is an input
abbrev pub with_input : Config → ProgramUnit → BlockType → ℕ → List Assignment → Argument → List Assignment
with_input c u b base inputs (Input word operand) = inputs ++ assigned_at c u b base word operand ∷ []
with_input c u b base inputs (Output word to) = inputs

-- and if it is an output
abbrev pub with_output : Config → ProgramUnit → BlockType → ℕ → List Copied → Argument → List Copied
with_output c u b base outputs (Output word to) = outputs ++ copied_at c u b base word to ∷ []
with_output c u b base outputs (Input word operand) = outputs

-- all of them
abbrev pub inputs_at : Config → ProgramUnit → BlockType → ℕ → List Argument → List Assignment
inputs_at c u b base [] = []
inputs_at c u b base (Output word to ∷ more) = inputs_at c u b base more
inputs_at c u b base (Input word operand ∷ more) =
    assigned_at c u b base word operand ∷ inputs_at c u b base more

abbrev pub outputs_at : Config → ProgramUnit → BlockType → ℕ → List Argument → List Copied
outputs_at c u b base [] = []
outputs_at c u b base (Input word operand ∷ more) = outputs_at c u b base more
outputs_at c u b base (Output word to ∷ more) =
    copied_at c u b base word to ∷ outputs_at c u b base more

-- the call of a block
abbrev pub block_call : Config → ProgramUnit → Condition → ℕ → List Argument → BlockType → Flat
block_call c u condition base arguments (Standard b) = CallStandard condition b base (inputs_at c u (Standard b) base arguments) (outputs_at c u (Standard b) base arguments)
block_call c u condition base arguments (Own k) = FlatCall condition k base (inputs_at c u (Own k) base arguments) (outputs_at c u (Own k) base arguments)

abbrev pub type_call : Config → ProgramUnit → Condition → List Argument → VariableType → ℕ → Flat
type_call c u condition arguments (Instance (Some b)) base = block_call c u condition base arguments b
type_call c u condition arguments _ base = FlatNot

abbrev pub call_of : Config → ProgramUnit → Condition → List Argument → Option Known → Flat
call_of c u condition arguments None = FlatNot
call_of c u condition arguments (Some k) = type_call c u condition arguments k.declared k.offset

-- FUNCTIONS

-- the literals among the further arguments of a standard function
abbrev pub literal_beside : StandardFunction → Literal → Operand
literal_beside Selected l = typed (natural (Constant l)) l
literal_beside Absolute l = untyped l
literal_beside Minimum l = untyped l
literal_beside Maximum l = untyped l
literal_beside Limited l = untyped l
literal_beside (Converted from to) l = untyped l

-- the inputs of the unit of a number
abbrev pub inputs_if : Config → Option ProgramUnit → List Variable
inputs_if c None = []
inputs_if c (Some v) = map (shown c) (entities v.inputs)

abbrev pub unit_inputs : Config → ℕ → List Variable
unit_inputs c k = inputs_if c (slice_get c.units k)

-- a function's variable, with its offset
abbrev pub function_known : Config → ℕ → Variable → Option Known
function_known c k v = known_by (Some v.declared) (option_and_then (λ t. get t v.name) (slice_get (all_offsets c) k))

abbrev pub argument_at : Config → ProgramUnit → ℕ → Variable → Written → Assignment
argument_at c u k v o = record { to = slot_known 0 (function_known c k v); from = by_resolved (literal_known (function_known c k v)) (resolve c u o.reference) }

abbrev pub arguments_at : Config → ProgramUnit → ℕ → List Variable → List Written → List Assignment
arguments_at c u k (v ∷ vs) (o ∷ os) = argument_at c u k v o ∷ arguments_at c u k vs os
arguments_at c u k [] os = []
arguments_at c u k (v ∷ vs) [] = []

-- a call of a function
abbrev pub invoke_of : Config → ProgramUnit → List Written → Option StandardFunction → Option ℕ → Flat
invoke_of c u os (Some f) k = Apply f (map (λ o. by_resolved (literal_beside f) (resolve c u o.reference)) os)
invoke_of c u os None (Some k) = FlatInvoke k (arguments_at c u k (drop 1 (unit_inputs c k)) os)
invoke_of c u os None None = FlatNot

-- WHAT CALLS OF A FUNCTION NEED

-- what a scalar begins with, at an offset (2.4.3.2)
abbrev pub fresh_by : VariableType → Option Literal → ℕ → Assignment
fresh_by (Scalar s) initial k = record { to = slot_of s k; from = Fixed (content s.elementary (initial_value s initial)) }
fresh_by _ initial k = record { to = Flag 0; from = Outside }

abbrev pub fresh_list : ℕ → List Variable → List Assignment
fresh_list k [] = []
fresh_list k (v ∷ vs) = fresh_by v.declared v.initial k ∷ fresh_list (suc k) vs

-- the slot of a first input
abbrev pub first_of : Config → ProgramUnit → List Variable → Slot
first_of c u [] = Flag 0
first_of c u (v ∷ vs) = slot_known 0 (known c u v.name)

-- what calls of a function need
abbrev pub function_code_of : Config → ProgramUnit → List Variable → List Variable → FunctionCode
function_code_of c u inputs all = record { first = first_of c u inputs; result = slot_known 0 (known c u u.name.name); fresh = reverse (fresh_list 0 all) }

abbrev pub own_function_code : Config → ProgramUnit → FunctionCode
own_function_code c u = function_code_of c u (map (shown c) (entities u.inputs)) (map (shown c) (function_entities u))

-- the code of the call of an instance, by the names of a program
abbrev pub calling_code : Config → ProgramUnit → Condition → Text → List Argument → Flat
calling_code c u condition instance arguments = calls_form (program_names c u.name.name) c u condition instance arguments (form_named c u instance)

-- the code of the call of a function
abbrev pub invoking_code : Config → ProgramUnit → Text → List Written → Flat
invoking_code c u function from = invokes (program_names c u.name.name) c u function from (standard_function function) (function_named c function)
