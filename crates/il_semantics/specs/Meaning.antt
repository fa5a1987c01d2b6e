-- What operands denote, and where variables are kept with which initial values (IEC 61131-3:2003, 2.4 and 2.5).
use Rattle.std.specs.Prelude.{ℕ, List, [], ◌∷◌, ◌++◌, map, Option, Some, None, option_map, ℤ, pos, ◌+ℤ◌, ◌-ℤ◌, codes, suc, zero}
use Rattle.std.specs.Fmt.{signed_decimal}
use Rattle.il_syntax.specs.declared.tree.Elementary.{Elementary}
use Rattle.il_syntax.specs.declared.tree.Elementary.TheVariants.{Int, Dint}
use Rattle.il_syntax.specs.declared.tree.Scalar.{Scalar}
use Rattle.il_syntax.specs.declared.tree.Subrange.{Subrange}
use Rattle.il_syntax.specs.declared.tree.Literal.{Literal}
use Rattle.il_syntax.specs.declared.tree.Literal.TheVariants.{Truth, Bare, Whole, Time as Duration}
use Rattle.il_syntax.specs.declared.tree.Form.{Form}
use Rattle.il_syntax.specs.declared.tree.Form.TheVariants.{Scalar as ScalarForm, Array as ArrayForm, Block as BlockForm}
use Rattle.il_syntax.specs.declared.tree.Declaration.{Declaration}
use Rattle.il_syntax.specs.declared.tree.Index.{Index}
use Rattle.il_syntax.specs.declared.tree.Index.TheVariants.{Number, Variable as ByVariable}
use Rattle.il_syntax.specs.declared.tree.Reference.{Reference}
use Rattle.il_syntax.specs.declared.tree.Reference.TheVariants.{Literal as LiteralReference, Variable, Element, Member}
use Rattle.il_syntax.specs.declared.tree.Unit.{Unit as ProgramUnit}
use Rattle.il_syntax.specs.declared.tree.UnitKind.{UnitKind}
use Rattle.il_syntax.specs.declared.tree.UnitKind.TheVariants.{Function, FunctionBlock, Program}
use Rattle.il_syntax.specs.declared.tree.Config.{Config}
use Rattle.il_statics.specs.Names.{entry_of, BlockVariables, standard_block, standard_variables, block_variables, function_block_named, form_named, or_else}
use Rattle.il_statics.specs.Types.{literal_type}
use Rattle.il_semantics.specs.declared.value.Value.{Value}
use Rattle.il_semantics.specs.declared.value.Value.TheVariants.{Boolean, Integer}
use Rattle.base_maps.specs.NameMap.{Text}
use Rattle.il_semantics.specs.Values.{zero_of}

-- Paths --

-- a variable of the body at a path (own rule)
abbrev pub under : Text → Text → Text
under [] name = name
under path name = path ++ codes "." ++ name

-- an element of an array (2.4.1.2)
abbrev pub element_path : Text → ℤ → Text
element_path path z = path ++ codes "[" ++ signed_decimal z ++ codes "]"

-- a variable of an instance or of a function (2.5.2.1)
abbrev pub member_path : Text → Text → Text
member_path path word = path ++ codes "." ++ word

-- Operands --

-- what an operand denotes (3.2.1)
pub data Denotation : Type 0 where
  Constant : Literal → Denotation
  -- a scalar variable
  Direct : (name : Text) (scalar : Scalar) → Denotation
  -- an element of an array, by a number or by a scalar variable
  Numbered : (name : Text) (bounds : Subrange) (element : Scalar) (number : ℤ) → Denotation
  Indexed : (name : Text) (bounds : Subrange) (element : Scalar) (variable : Text) (scalar : Scalar) → Denotation
  -- an input or output of an instance
  Inside : (instance : Text) (word : Text) (scalar : Scalar) → Denotation
  -- nothing that is declared so
  Unknown : Denotation

-- a name alone (2.4.1.1)
abbrev pub direct : Text → Option Form → Denotation
direct name (Some (ScalarForm s)) = Direct name s
direct name _ = Unknown

-- an element by a variable (2.4.1.2)
abbrev pub indexed_by : Text → Subrange → Scalar → Text → Option Form → Denotation
indexed_by name bounds element variable (Some (ScalarForm s)) = Indexed name bounds element variable s
indexed_by name bounds element variable _ = Unknown

-- an element by its index (2.4.1.2)
abbrev pub indexed : (Text → Option Form) → Text → Subrange → Scalar → Index → Denotation
indexed forms name bounds element (Number z) = Numbered name bounds element z
indexed forms name bounds element (ByVariable v) = indexed_by name bounds element v (forms v)

-- an element, if the name is that of an array (2.4.1.2)
abbrev pub element_of : (Text → Option Form) → Text → Index → Option Form → Denotation
element_of forms name index (Some (ArrayForm bounds element)) = indexed forms name bounds element index
element_of forms name index _ = Unknown

-- the inputs of a block; of no block none (2.5.2)
abbrev pub inputs_of : Option BlockVariables → List (Text × Form)
inputs_of None = []
inputs_of (Some b) = b.inputs

-- the outputs of a block; of no block none (2.5.2)
abbrev pub outputs_of : Option BlockVariables → List (Text × Form)
outputs_of None = []
outputs_of (Some b) = b.outputs

-- a word of an instance (2.5.2.1)
abbrev pub inside : Text → Text → Option Form → Denotation
inside instance word (Some (ScalarForm s)) = Inside instance word s
inside instance word _ = Unknown

-- a word of an instance, if the name is that of one (2.5.2.1)
abbrev pub member_of : Config → Text → Text → Option Form → Denotation
member_of c instance word (Some (BlockForm block)) =
    inside instance word (or_else (entry_of (outputs_of (block_variables c block)) word) (entry_of (inputs_of (block_variables c block)) word))
member_of c instance word _ = Unknown

-- what an operand denotes, by the types of the names (3.2.1)
abbrev pub denotation_by : Config → (Text → Option Form) → Reference → Denotation
denotation_by c forms (LiteralReference l) = Constant l
denotation_by c forms (Variable name) = direct name (forms name)
denotation_by c forms (Element name index) = element_of forms name index (forms name)
denotation_by c forms (Member instance word) = member_of c instance word (forms instance)

-- what an operand denotes in a unit (3.2.1)
abbrev pub denotation : Config → ProgramUnit → Reference → Denotation
denotation c u = denotation_by c (form_named c u)

-- DINT where nothing else is given (own rule)
abbrev pub or_dint : Option Elementary → Elementary
or_dint None = Dint
or_dint (Some e) = e

-- The type of a bare literal after LD, in a short form and in SEL: INT where it fits, otherwise DINT.
-- Other operands have types of their own (own rule).
abbrev pub natural : Denotation → Elementary
natural (Constant l) = or_dint (literal_type l)
natural _ = Int

-- Variables with their initial values (2.4.3.2; own rule: a subrange begins at its leftmost limit) --

-- a declared name with its type and its initial value (2.4.3)
pub record Entity : Type 0 where
  pub name : Text
  pub form : Form
  pub initial : Option Literal

-- each name of a list of declarations, in the order of the text (2.4.3)
abbrev pub entities : List Declaration → List Entity
entities [] = []
entities (d ∷ ds) = map (λ n. record { name = n.name; form = d.declared.form; initial = option_map (λ i. i.literal) d.initial }) d.names ++ entities ds

-- variables without an initial value of their own (2.4.3.2)
abbrev pub uninitialized : List (Text × Form) → List Entity
uninitialized variables = map (λ v. record { name = v.0; form = v.1; initial = None }) variables

-- the inputs, outputs and variables of a unit: they keep a value from one run of its body to the next, or in a function for one run (2.5)
abbrev pub own_entities : ProgramUnit → List Entity
own_entities u = entities u.inputs ++ entities u.outputs ++ entities u.variables

-- the value of a literal (2.2)
abbrev pub literal_value : Literal → Value
literal_value (Truth b) = Boolean b
literal_value (Bare z) = Integer z
literal_value (Whole e z) = Integer z
literal_value (Duration z) = Integer z

-- the initial value of a scalar whose declaration gives none (2.4.3.2)
abbrev pub default_value : Elementary → Option Subrange → Value
default_value e None = zero_of e
default_value e (Some s) = Integer s.lower

-- the initial value of a scalar (2.4.3.2)
abbrev pub initial_value : Scalar → Option Literal → Value
initial_value s None = default_value s.elementary s.subrange
initial_value s (Some l) = literal_value l

-- so many elements from an index on, each with the value (2.4.3.2)
abbrev pub elements : ℕ → Text → ℤ → Value → List (Text × Value)
elements zero path z value = []
elements (suc n) path z value = (element_path path z, value) ∷ elements n path (z +ℤ pos 1) value

-- a number of elements (own rule)
abbrev pub width_of : ℤ → ℕ
width_of (pos n) = n
width_of _ = 0

-- how many elements an array has (2.3.3.1)
abbrev pub width : Subrange → ℕ
width s = width_of ((s.upper -ℤ s.lower) +ℤ pos 1)

-- the variables of an entity at a path, with their initial values; `inner` gives those of an instance of a block (2.4.3.2)
abbrev pub values_at : (Text → Text → List (Text × Value)) → Text → Option Literal → Form → List (Text × Value)
values_at inner path initial (ScalarForm s) = (path, initial_value s initial) ∷ []
values_at inner path initial (ArrayForm bounds element) = elements (width bounds) path bounds.lower (initial_value element None)
values_at inner path initial (BlockForm block) = inner path block

-- the variables of some declarations, with their initial values (2.4.3.2)
abbrev pub entity_values : (Text → Text → List (Text × Value)) → Text → List Entity → List (Text × Value)
entity_values inner path [] = []
entity_values inner path (e ∷ es) = values_at inner (under path e.name) e.initial e.form ++ entity_values inner path es

-- the variables of a standard block (2.5.2.3)
abbrev pub standard_entities : BlockVariables → List Entity
standard_entities b = uninitialized (b.inputs ++ b.outputs ++ b.inner)

-- the variables of a block, own or standard; a name of no block has none (2.5.2)
abbrev pub block_entities : Config → Text → List Entity
block_entities c name = or_none (or_else (option_map (λ b. standard_entities (standard_variables b)) (standard_block name)) (option_map own_entities (function_block_named c name)))
  where
    or_none : Option (List Entity) → List Entity
    or_none None = []
    or_none (Some es) = es

-- the variables of an instance at a path, with those of the instances in it, so many deep (2.5.2.1)
abbrev pub instance_values : ℕ → Config → Text → Text → List (Text × Value)
instance_values zero c path block = []
instance_values (suc n) c path block = entity_values (instance_values n c) path (block_entities c block)

-- how deep units may use one another (own rule)
abbrev pub depth : ℕ
depth = 16

-- a function's variable of its own name, which is its result (2.5.1)
abbrev pub result_entities : UnitKind → Text → List Entity
result_entities (Function s place) name = record { name = name; form = ScalarForm s; initial = None } ∷ []
result_entities FunctionBlock name = []
result_entities Program name = []

-- a function's variables at the begin of a call: its inputs, its variables, and its result under its own name (2.5.1)
abbrev pub fresh_values : Config → ProgramUnit → List (Text × Value)
fresh_values c u = entity_values (instance_values zero c) u.name.name (own_entities u ++ result_entities u.kind u.name.name)
