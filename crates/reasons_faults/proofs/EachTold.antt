-- Of each unknown name and of each missing label something is reported.
use Rattle.std.proofs.Common.{◌≡◌, ◌≢◌, ◌∙◌, ℕ, zero, suc, Bool, true, false, if◌then◌else◌, List, [], ◌∷◌, ◌++◌, flat_map, refl, sym, ap, subst, Option, Some, None, is_some, inl, inr, arith}
use Rattle.std.specs.Prelude.{Contains, codes, ◌&&◌, pos, ◌-ℤ◌, int_le, int_lt, option_and_then, slice_get}
use Rattle.std.proofs.lemmas.Bool.Decides.{nat_tests}
use Rattle.std.proofs.lemmas.List.Elements.{Contains-append_left, Contains-append_right, Contains-append_cases}
use Rattle.load_declarations.proofs.Members.{none_in, one_in, in_rest, in_flat, from_flat, from_map}
use Rattle.il_syntax.specs.declared.tree.Config.{Config}
use Rattle.il_syntax.specs.declared.tree.Unit.{Unit as ProgramUnit}
use Rattle.il_syntax.specs.declared.tree.Declaration.{Declaration}
use Rattle.il_syntax.specs.declared.tree.Named.{Named}
use Rattle.il_syntax.specs.declared.tree.Body.{Body}
use Rattle.il_syntax.specs.declared.tree.UnitKind.{UnitKind}
use Rattle.il_syntax.specs.declared.tree.UnitKind.TheVariants.{Function, FunctionBlock, Program}
use Rattle.il_syntax.specs.declared.tree.WrittenType.{WrittenType}
use Rattle.il_syntax.specs.declared.tree.Subrange.{Subrange}
use Rattle.il_syntax.specs.declared.tree.Elementary.{Elementary}
use Rattle.il_syntax.specs.declared.tree.Elementary.TheVariants.{Int}
use Rattle.il_syntax.specs.ElementaryTypes.{is_whole}
use Rattle.il_syntax.specs.declared.tree.Place.{Place}
use Rattle.il_syntax.specs.declared.tree.Form.{Form}
use Rattle.il_syntax.specs.declared.tree.Form.TheVariants.{Scalar as OfScalar, Array as OfArray, Block as OfBlock}
use Rattle.il_syntax.specs.declared.tree.Index.{Index}
use Rattle.il_syntax.specs.declared.tree.Index.TheVariants.{Number as NumberIndex, Variable as VariableIndex}
use Rattle.il_syntax.specs.declared.tree.Reference.{Reference}
use Rattle.il_syntax.specs.declared.tree.Reference.TheVariants.{Literal as OfLiteral, Variable as OfVariable, Element as OfElement, Member as OfMember}
use Rattle.il_syntax.specs.declared.tree.Operand.{Operand}
use Rattle.il_syntax.specs.declared.tree.Argument.{Argument}
use Rattle.il_syntax.specs.declared.tree.Argument.TheVariants.{Input, Output}
use Rattle.il_syntax.specs.declared.tree.Instruction.{Instruction}
use Rattle.il_syntax.specs.declared.tree.Instruction.TheVariants.{Load, Store as StoreInto, Not, Operate, Defer, Evaluate, Jump, Return, Call, Invoke}
use Rattle.il_syntax.specs.declared.tree.Step.{Step}
use Rattle.il_statics.specs.Names.{Spelling, BlockVariables, Meaning, MeansVariable, MeansUnit, MeansStandard, meaning, meant_variable, block_variables, is_predeclared, standard_function, function_named}
use Rattle.il_statics.specs.Declarations as rule
use Rattle.il_statics.specs.Declarations.{unless, scalar_numbers, scalar_form_numbers, array_numbers, array_form_numbers, called_numbers, called_form_numbers, index_name_numbers, member_numbers, member_form_numbers, reference_numbers, argument_name_numbers, short_form_name_numbers, name_numbers, is_visible, Admitted, ScalarsAlone, ScalarsAndArrays, has_value, subrange_numbers, bounds_numbers, admits_arrays, admits_instances, instance_numbers, type_numbers, types_in, admitted_variables, result_types, unit_types, written_types, global_form, IsNameBroken, IsTypeBroken, IsExternal, IsUnknown, unknown_type, unknown_global, unknown_name}
use Rattle.il_statics.specs.Types.{instance_block, block_of, label_place, HasUnknownLabel, unknown_label}
use Rattle.reasons_names.specs.declared.names_meant.Access.{Access}
use Rattle.reasons_names.specs.declared.names_meant.Access.TheVariants.{Reads, Stores}
use Rattle.reasons_names.specs.NamesNear.{Nearest, hint, ending, nearest}
use Rattle.reasons_names.specs.NameSpots.{is_at}
use Rattle.reasons_names.specs.NamesKnown.{variables_near, instances_near, functions_near, types_near, globals_near}
use Rattle.reasons_names.specs.NamesLabels.{missing_line, missing_text, labels_near, jump_text}
use Rattle.reasons_names.specs.NamesUnknown.{unknown_variable, unknown_instance, meant_by, meant_by_form, unknown_line, unseen_line, unseen_text, no_function_line, time_lines, instance_line, unit_line, standard_line, no_instance_line, no_word, no_word_line, unknown_text, scalar_by, meaning_by, called_by, member_by, rule_access, reference_text, read_text, index_text, argument_text, short_form_text, function_text, instruction_text, form_text, type_text, global_text, external_text, externals_text, types_text, unit_text, unknown_lines}
use Rattle.reasons_faults.specs.NamesTold.{HasLine}
use Rattle.reasons_faults.specs.TreeReasons.{instruction_lines, step_lines, unit_lines, place_lines, tree_lines, AreToldOfTree}

-- LINES

ends : (text : List ℕ) → HasLine (text ++ codes "\n")
ends text = Contains-append_right text (codes "\n") 10 (0, omega arith, refl)

behind : (front text : List ℕ) → HasLine text → HasLine (front ++ text)
behind front text h = Contains-append_right front text 10 h

ending_is : (near : Option Nearest) → HasLine (ending near)
unfolding ending
ending_is near = ends (hint near)

unknown_is : (name : Spelling) (near : Option Nearest) → HasLine (unknown_line name near)
unfolding unknown_line
unknown_is name near = behind name _ (behind (codes " is unknown here") _ (ending_is near))

unseen_is : (name : Spelling) → HasLine (unseen_line name)
unfolding unseen_line
unseen_is name = behind name _ (ends (codes " is a predeclared name that this unit does not see"))

-- with more after it
ahead : (text rest : List ℕ) → HasLine text → HasLine (text ++ rest)
ahead text rest h = Contains-append_left text rest 10 h

variable_is : (config : Config) (unit : ProgramUnit) (name : Spelling) → HasLine (unknown_variable config unit name)
variable_is config unit name = by_test (is_predeclared config name)
  where
    by_test : (b : Bool) → HasLine (if b then unseen_text unit name else unknown_text name (variables_near config unit))
    by_test true = ahead (unseen_line name) _ (unseen_is name)
    by_test false = unknown_is name _

unknown_instance_is : (config : Config) (unit : ProgramUnit) (name : Spelling) → HasLine (unknown_instance config unit name)
unknown_instance_is config unit name = by_test (is_predeclared config name)
  where
    by_test : (b : Bool) → HasLine (if b then unseen_line name else unknown_text name (instances_near unit))
    by_test true = unseen_is name
    by_test false = unknown_is name _

no_function_is : (name : Spelling) (near : Option Nearest) → HasLine (no_function_line name near)
unfolding no_function_line
no_function_is name near = behind name _ (behind (codes " is no function") _ (ending_is near))

instance_is : (name : Spelling) → HasLine (instance_line name)
unfolding instance_line
instance_is name = behind name _ (ends (codes " is an instance, no scalar variable"))

unit_is : (name : Spelling) → HasLine (unit_line name)
unfolding unit_line
unit_is name = behind name _ (ends (codes " is a unit, no variable"))

standard_is : (name : Spelling) → HasLine (standard_line name)
unfolding standard_line
standard_is name = behind name _ (ends (codes " is a standard function or block, no variable"))

no_instance_is : (name : Spelling) → HasLine (no_instance_line name)
unfolding no_instance_line
no_instance_is name = behind name _ (ends (codes " is no instance of a function block"))

no_word_is : (access : Access) (name word : Spelling) → HasLine (no_word_line access name word)
unfolding no_word_line
no_word_is access name word = behind name _ (behind (no_word access) _ (ends word))

-- NAMES IN INSTRUCTIONS

scalar_form_told : (config : Config) (unit : ProgramUnit) (name : Spelling) (v : Form) → Contains (scalar_form_numbers v) 21 → HasLine (scalar_by config unit name (meant_by_form v))
scalar_form_told config unit name (OfScalar s) h = absurd (none_in 21 h)
scalar_form_told config unit name (OfArray b e) h = let bad : ◌≡◌ {A = ℕ} 25 21 = one_in 25 21 h in absurd (omega (arith, bad))
scalar_form_told config unit name (OfBlock n) h = instance_is name

scalar_told : (config : Config) (unit : ProgramUnit) (name : Spelling) (m : Option Meaning) → Contains (scalar_numbers m) 21 → HasLine (scalar_by config unit name (meant_by m))
scalar_told config unit name (Some (MeansVariable v)) h = scalar_form_told config unit name v.form h
scalar_told config unit name (Some (MeansUnit u)) h = unit_is name
scalar_told config unit name (Some MeansStandard) h = standard_is name
scalar_told config unit name None h = variable_is config unit name

other : {X : Type 0} → Contains {X = ℕ} (25 ∷ []) 21 → X
other h = let bad : ◌≡◌ {A = ℕ} 25 21 = one_in 25 21 h in absurd (omega (arith, bad))

array_form_told : (f : Form) {X : Type 0} → Contains (array_form_numbers f) 21 → X
array_form_told (OfScalar s) h = other h
array_form_told (OfArray b e) h = absurd (none_in 21 h)
array_form_told (OfBlock n) h = other h

array_told : (config : Config) (unit : ProgramUnit) (name : Spelling) (m : Option Meaning) → Contains (array_numbers m) 21 → HasLine (meaning_by config unit name (meant_by m))
array_told config unit name (Some (MeansVariable v)) h = array_form_told v.form h
array_told config unit name (Some (MeansUnit u)) h = other h
array_told config unit name (Some MeansStandard) h = other h
array_told config unit name None h = variable_is config unit name

called_form_told : (f : Form) {X : Type 0} → Contains (called_form_numbers f) 21 → X
called_form_told (OfScalar s) h = other h
called_form_told (OfArray b e) h = other h
called_form_told (OfBlock n) h = absurd (none_in 21 h)

called_told : (config : Config) (unit : ProgramUnit) (name : Spelling) (m : Option Meaning) → Contains (called_numbers m) 21 → HasLine (called_by config unit name (meant_by m))
called_told config unit name (Some (MeansVariable v)) h = called_form_told v.form h
called_told config unit name (Some (MeansUnit u)) h = other h
called_told config unit name (Some MeansStandard) h = other h
called_told config unit name None h = unknown_instance_is config unit name

-- a word after an instance
word_told : (access : Access) (name word : Spelling) (b : Bool) → Contains (unless b 21) 21 → HasLine (if b then [] else no_word_line access name word)
word_told access name word true h = absurd (none_in 21 h)
word_told access name word false h = no_word_is access name word

member_form_told : (config : Config) (unit : ProgramUnit) (access : Access) (name word : Spelling) (f : Form) → instance_block config unit name ≡ block_of config f → Contains (member_form_numbers config (rule_access access) word f) 21 → HasLine (member_by config unit access name word (meant_by_form f))
member_form_told config unit access name word (OfScalar s) e h = no_instance_is name
member_form_told config unit access name word (OfArray b s) e h = no_instance_is name
member_form_told config unit access name word (OfBlock n) e h =
    subst (λ block. HasLine (if is_visible (rule_access access) block word then [] else no_word_line access name word)) (sym e) (word_told access name word (is_visible (rule_access access) (block_variables config n) word) h)

member_told : (config : Config) (unit : ProgramUnit) (access : Access) (name word : Spelling) (m : Option Meaning) → meaning config unit name ≡ m → Contains (member_numbers config (rule_access access) word m) 21 → HasLine (member_by config unit access name word (meant_by m))
member_told config unit access name word (Some (MeansVariable v)) e h = member_form_told config unit access name word v.form (ap (λ m. option_and_then (λ x. block_of config x.form) (meant_variable m)) e) h
member_told config unit access name word (Some (MeansUnit u)) e h = no_instance_is name
member_told config unit access name word (Some MeansStandard) e h = no_instance_is name
member_told config unit access name word None e h = unknown_instance_is config unit name

index_told : (config : Config) (unit : ProgramUnit) (i : Index) → Contains (index_name_numbers config unit i) 21 → HasLine (index_text config unit i)
index_told config unit (NumberIndex n) h = absurd (none_in 21 h)
index_told config unit (VariableIndex name) h = scalar_told config unit name (meaning config unit name) h

-- one of two
either : (a b text rest : List ℕ) → (Contains a 21 → HasLine text) → (Contains b 21 → HasLine rest) → Contains (a ++ b) 21 → HasLine (text ++ rest)
either a b text rest first second h = elim (Contains-append_cases a b 21 h) [ inl l ↦ Contains-append_left text rest 10 (first l) | inr r ↦ Contains-append_right text rest 10 (second r) ]

-- one of many
of_all : {X : Type 0} (f g : X → List ℕ) → ((x : X) → Contains (f x) 21 → HasLine (g x)) → (xs : List X) → Contains (flat_map f xs) 21 → HasLine (flat_map g xs)
of_all f g each xs h = let r = from_flat f xs 21 h in in_flat g xs r.0 10 r.1 (each r.0 r.2)

reference_told : (config : Config) (unit : ProgramUnit) (access : Access) (r : Reference) → Contains (reference_numbers config unit (rule_access access) r) 21 → HasLine (reference_text config unit access r)
reference_told config unit access (OfLiteral literal) h = absurd (none_in 21 h)
reference_told config unit access (OfVariable name) h = scalar_told config unit name (meaning config unit name) h
reference_told config unit access (OfElement name index) h =
    either (array_numbers (meaning config unit name)) (index_name_numbers config unit index) _ _ (array_told config unit name (meaning config unit name)) (index_told config unit index) h
reference_told config unit access (OfMember name word) h = member_told config unit access name word (meaning config unit name) refl h

argument_told : (config : Config) (unit : ProgramUnit) (a : Argument) → Contains (argument_name_numbers config unit a) 21 → HasLine (argument_text config unit a)
argument_told config unit (Input word operand) h = reference_told config unit Reads operand.reference h
argument_told config unit (Output word target) h = scalar_told config unit target.name (meaning config unit target.name) h

short_form_told : (config : Config) (unit : ProgramUnit) (o : Option Operand) → Contains (short_form_name_numbers config unit o) 21 → HasLine (short_form_text config unit o)
short_form_told config unit None h = absurd (none_in 21 h)
short_form_told config unit (Some operand) h = reference_told config unit Reads operand.reference h

no_function_told : (name : Spelling) (near : Option Nearest) (a b : Bool) → Contains (if a then [] else unless b 21) 21 → HasLine (if a then [] else (if b then [] else no_function_line name near ++ time_lines name))
no_function_told name near true b h = absurd (none_in 21 h)
no_function_told name near false true h = absurd (none_in 21 h)
no_function_told name near false false h = ahead (no_function_line name near) _ (no_function_is name near)

-- of each unknown name of an instruction something is reported
instruction_told : (config : Config) (unit : ProgramUnit) (i : Instruction) → Contains (name_numbers config unit i) 21 → HasLine (instruction_text config unit i)
unfolding name_numbers function_text
instruction_told config unit (Load negated operand) h = reference_told config unit Reads operand.reference h
instruction_told config unit (StoreInto store target) h = reference_told config unit Stores target.reference h
instruction_told config unit Not h = absurd (none_in 21 h)
instruction_told config unit (Operate operator operand) h = reference_told config unit Reads operand.reference h
instruction_told config unit (Defer operator first) h = short_form_told config unit first h
instruction_told config unit Evaluate h = absurd (none_in 21 h)
instruction_told config unit (Jump condition label) h = absurd (none_in 21 h)
instruction_told config unit (Return condition) h = absurd (none_in 21 h)
instruction_told config unit (Call condition instance arguments) h =
    either (called_numbers (meaning config unit instance.name)) (flat_map (argument_name_numbers config unit) arguments) _ _ (called_told config unit instance.name (meaning config unit instance.name))
    (of_all (argument_name_numbers config unit) (argument_text config unit) (argument_told config unit) arguments) h
instruction_told config unit (Invoke function operands) h =
    either (if is_some (standard_function function.name) then [] else unless (is_some (function_named config function.name)) 21) (flat_map (λ (o : Operand). reference_numbers config unit rule.Reads o.reference) operands) _ _
    (no_function_told function.name (nearest function.name (functions_near config)) (is_some (standard_function function.name)) (is_some (function_named config function.name)))
    (of_all (λ (o : Operand). reference_numbers config unit rule.Reads o.reference) (read_text config unit) (λ o. reference_told config unit Reads o.reference) operands) h

-- PLACES

same_place : (there place : Place) → place ≡ there → is_at there place ≡ true
same_place there place e = subst (λ p. is_at there p ≡ true) (sym e) (grind (arith, nat_tests))

-- what is at a place
there_told : (there place : Place) (text : List ℕ) → place ≡ there → HasLine text → HasLine (if is_at there place then text else [])
there_told there place text e h = subst (λ b. HasLine (if b then text else [])) (sym (same_place there place e)) h

-- of an instruction
in_steps : (config : Config) (number : ℕ) (place : Place) (u : ProgramUnit) (s : Step) → Contains config.units u → Contains u.body.steps s → place ≡ s.place → HasLine (instruction_lines config u number s.instruction) → HasLine (tree_lines config number place)
in_steps config number place u s in_units in_body at h =
    Contains-append_left (flat_map (unit_lines config number place.offset) config.units) (place_lines config number place) 10
    (in_flat (unit_lines config number place.offset) config.units u 10 in_units
    (in_flat (step_lines config u number place.offset) u.body.steps s 10 in_body (there_told s.place place (instruction_lines config u number s.instruction) at h)))

-- of what is declared
in_declared : (config : Config) (place : Place) → HasLine (unknown_lines config place) → HasLine (tree_lines config 21 place)
unfolding place_lines
in_declared config place h = behind (flat_map (unit_lines config 21 place.offset) config.units) (unknown_lines config place) h

-- of a unit
of_unit : (config : Config) (place : Place) (u : ProgramUnit) → Contains config.units u → HasLine (unit_text config place u) → HasLine (unknown_lines config place)
unfolding unknown_lines
of_unit config place u there h = Contains-append_left (flat_map (unit_text config place) config.units) (types_text config place config.globals) 10 (in_flat (unit_text config place) config.units u 10 there h)

-- a name in an instruction
name_told : (config : Config) (place : Place) → IsNameBroken config 21 place → HasLine (tree_lines config 21 place)
name_told config place (u, s, in_units, in_body, broken, at) = in_steps config 21 place u s in_units in_body at (instruction_told config u s.instruction broken)

-- an external
global_told : (config : Config) (name : Spelling) → global_form config name ≡ None → HasLine (global_text config name)
global_told config name e = subst (λ o. HasLine (if is_some o then [] else unknown_text name (globals_near config))) (sym e) (unknown_is name _)

external_told : (config : Config) (place : Place) (d : Declaration) (n : Named) → IsExternal config d n → global_form config n.name ≡ None → place ≡ n.place → HasLine (unknown_lines config place)
external_told config place d n e none at =
    let u = e.unit in
    of_unit config place u e.written (behind (types_text config place u.inputs) _ (behind (types_text config place u.outputs) _ (behind (types_text config place u.variables) _ (behind (types_text config place u.externals) _
    (in_flat (externals_text config place) u.externals d 10 e.listed (in_flat (external_text config place) d.names n 10 e.named (there_told n.place place (global_text config n.name) at (global_told config n.name none))))))))

-- a number that no rule of these gives
not_this : {X : Type 0} (b : Bool) (n : ℕ) → n ≢ 21 → Contains (unless b n) 21 → X
not_this true n differs h = absurd (none_in 21 h)
not_this false n differs h = absurd (differs (one_in n 21 h))

not_25 : ◌≢◌ {A = ℕ} 25 21
not_25 e = omega (arith, e)

not_22 : ◌≢◌ {A = ℕ} 22 21
not_22 e = omega (arith, e)

subrange_told : {X : Type 0} (e : Elementary) (s : Option Subrange) → Contains (subrange_numbers e s) 21 → X
subrange_told e None h = absurd (none_in 21 h)
subrange_told {X = X} e (Some s) h = by_whole (is_whole e) (has_value e s.lower && has_value e s.upper && int_le s.lower s.upper) h
  where
    by_whole : (a b : Bool) → Contains (if a then unless b 22 else 25 ∷ []) 21 → X
    by_whole true b g = not_this b 22 not_22 g
    by_whole false b g = other g

-- a type's name
block_told : (config : Config) (admitted : Admitted) (name : Spelling) (o : Option BlockVariables) → Contains (instance_numbers admitted o) 21 → HasLine (if is_some o then [] else unknown_text name (types_near config))
block_told config admitted name None h = unknown_is name _
block_told config admitted name (Some b) h = not_this (admits_instances admitted) 25 not_25 h

form_told : (config : Config) (admitted : Admitted) (f : Form) → Contains (type_numbers config admitted f) 21 → HasLine (form_text config f)
unfolding type_numbers
form_told config admitted (OfScalar s) h = subrange_told s.elementary s.subrange h
form_told config admitted (OfArray b s) h =
    elim (Contains-append_cases (unless (admits_arrays admitted) 25 ++ bounds_numbers b) (subrange_numbers s.elementary s.subrange) 21 h) [
      | inl l ↦ elim (Contains-append_cases (unless (admits_arrays admitted) 25) (bounds_numbers b) 21 l) [
        | inl x ↦ not_this (admits_arrays admitted) 25 not_25 x
        | inr y ↦ not_this (has_value Int b.lower && has_value Int b.upper && int_le b.lower b.upper && int_lt (b.upper -ℤ b.lower) (pos 256)) 22 not_22 y
      ]
      | inr r ↦ subrange_told s.elementary s.subrange r
    ]
form_told config admitted (OfBlock name) h = block_told config admitted name (block_variables config name) h

-- the types of declarations
types_told : (config : Config) (place : Place) (admitted : Admitted) (ds : List Declaration) (t : Admitted × WrittenType) → Contains (types_in admitted ds) t → Contains (type_numbers config t.0 t.1.form) 21 → place ≡ t.1.place → HasLine (types_text config place ds)
types_told config place admitted ds t there h at =
    let r = from_map (λ (d : Declaration). (admitted, d.declared)) ds t there in
    let d = r.0 in
    let broken : Contains (type_numbers config admitted d.declared.form) 21 = subst (λ (x : Admitted × WrittenType). Contains (type_numbers config x.0 x.1.form) 21) (sym r.2) h in
    let here : place ≡ d.declared.place = subst (λ (x : Admitted × WrittenType). place ≡ x.1.place) (sym r.2) at in
    in_flat (type_text config place) ds d 10 r.1 (there_told d.declared.place place (form_text config d.declared.form) here (form_told config admitted d.declared.form broken))

result_told : {X : Type 0} (config : Config) (k : UnitKind) (t : Admitted × WrittenType) → Contains (result_types k) t → Contains (type_numbers config t.0 t.1.form) 21 → X
unfolding type_numbers
result_told config (Function s p) t there h =
    let same = one_in (ScalarsAlone, record { place = p; form = OfScalar s }) t there in
    subrange_told s.elementary s.subrange (subst (λ (x : Admitted × WrittenType). Contains (type_numbers config x.0 x.1.form) 21) (sym same) h)
result_told config FunctionBlock t there h = absurd (none_in t there)
result_told config Program t there h = absurd (none_in t there)

unit_types_told : (config : Config) (place : Place) (u : ProgramUnit) (t : Admitted × WrittenType) → Contains (unit_types u) t → Contains (type_numbers config t.0 t.1.form) 21 → place ≡ t.1.place → HasLine (unit_text config place u)
unit_types_told config place u t there h at =
    let a = types_in ScalarsAlone u.inputs in
    let b = types_in ScalarsAlone u.outputs in
    let v = types_in (admitted_variables u.kind) u.variables in
    let e = types_in ScalarsAndArrays u.externals in
    let k = result_types u.kind in
    elim (Contains-append_cases (k ++ a ++ b ++ v) e t there) [
      | inr x ↦ behind (types_text config place u.inputs) _ (behind (types_text config place u.outputs) _ (behind (types_text config place u.variables) _ (Contains-append_left (types_text config place u.externals) _ 10 (types_told config place ScalarsAndArrays u.externals t x h at))))
      | inl l ↦ elim (Contains-append_cases (k ++ a ++ b) v t l) [
        | inr x ↦ behind (types_text config place u.inputs) _ (behind (types_text config place u.outputs) _ (Contains-append_left (types_text config place u.variables) _ 10 (types_told config place (admitted_variables u.kind) u.variables t x h at)))
        | inl m ↦ elim (Contains-append_cases (k ++ a) b t m) [
          | inr x ↦ behind (types_text config place u.inputs) _ (Contains-append_left (types_text config place u.outputs) _ 10 (types_told config place ScalarsAlone u.outputs t x h at))
          | inl n ↦ elim (Contains-append_cases k a t n) [
            | inr x ↦ Contains-append_left (types_text config place u.inputs) _ 10 (types_told config place ScalarsAlone u.inputs t x h at)
            | inl x ↦ result_told config u.kind t x h
          ]
        ]
      ]
    ]

type_told : (config : Config) (place : Place) → IsTypeBroken config 21 place → HasLine (unknown_lines config place)
unfolding unknown_lines
type_told config place (t, there, broken, at) =
    elim (Contains-append_cases (flat_map unit_types config.units) (types_in ScalarsAndArrays config.globals) t there) [
      | inl l ↦ (let r = from_flat unit_types config.units t l in of_unit config place r.0 r.1 (unit_types_told config place r.0 t r.2 broken at))
      | inr r ↦ behind (flat_map (unit_text config place) config.units) _ (types_told config place ScalarsAndArrays config.globals t r broken at)
    ]

-- 21: of each unknown name something is reported
pub unknown_is_told : (config : Config) (place : Place) → IsUnknown config place → HasLine (tree_lines config 21 place)
unknown_is_told config place (unknown_type h) = in_declared config place (type_told config place h)
unknown_is_told config place (unknown_global d n e none at) = in_declared config place (external_told config place d n e none at)
unknown_is_told config place (unknown_name h) = name_told config place h

-- LABELS

missing_is : (name : Spelling) (near : Option Nearest) → HasLine (missing_line name near)
unfolding missing_line
missing_is name near = behind (codes "label ") _ (behind name _ (behind (codes " is not in this unit") _ (ending_is near)))

missing_told : (body : Body) (name : Spelling) → label_place body name ≡ None → HasLine (missing_text body name)
missing_told body name e = subst (λ o. HasLine (if is_some o then [] else missing_line name (nearest name (labels_near body)))) (sym e) (missing_is name _)

in_list : {X : Type 0} (xs : List X) (k : ℕ) (x : X) → slice_get xs k ≡ Some x → Contains xs x
in_list [] k x e = cc
in_list (y ∷ xs) zero x e = (zero, omega arith, cc)
in_list (y ∷ xs) (suc k) x e = in_rest y xs x (in_list xs k x e)

-- 34: of each label that a body lacks something is reported
pub label_is_told : (config : Config) (place : Place) → HasUnknownLabel config place → HasLine (tree_lines config 34 place)
label_is_told config place (unknown_label u i s label jump lacks at) =
    let told : HasLine (jump_text u.body s.instruction) = subst (λ x. HasLine (jump_text u.body x)) (sym jump.jumps.jumps) (missing_told u.body label.name lacks) in
    in_steps config 34 place u s jump.written (in_list u.body.steps i s jump.jumps.stands) at told

-- in what is reported of a fault that the tree shows
line_of : (config : Config) (number n : ℕ) (place : Place) (lines : List ℕ) → AreToldOfTree config number place lines → number ≡ n → HasLine (tree_lines config n place) → HasLine lines
line_of config number n place lines (result, shown, is) same h = subst HasLine (sym (is ∙ ap (λ k. result ++ tree_lines config k place) same)) (behind result (tree_lines config n place) h)

pub unknown_has_line : (config : Config) (number : ℕ) (place : Place) (lines : List ℕ) → AreToldOfTree config number place lines → number ≡ 21 → IsUnknown config place → HasLine lines
unknown_has_line config number place lines told is broken = line_of config number 21 place lines told is (unknown_is_told config place broken)

pub label_has_line : (config : Config) (number : ℕ) (place : Place) (lines : List ℕ) → AreToldOfTree config number place lines → number ≡ 34 → HasUnknownLabel config place → HasLine lines
label_has_line config number place lines told is broken = line_of config number 34 place lines told is (label_is_told config place broken)
