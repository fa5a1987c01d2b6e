-- What is wrong with a tree has a number from 12 on.
use Rattle.std.proofs.Common.{ℕ, ◌≤◌, Bool, true, false, List, [], ◌∷◌, ◌++◌, length, take, arith, inl, inr, Option, Some, None}
use Rattle.std.specs.Prelude.{Contains, flat_map, not, nat_eq, is_none, ◌&&◌, if◌then◌else◌}
use Rattle.il_syntax.specs.declared.tree.Config.{Config}
use Rattle.il_syntax.specs.declared.tree.Unit.{Unit as ProgramUnit}
use Rattle.il_syntax.specs.declared.tree.Place.{Place}
use Rattle.il_syntax.specs.declared.tree.Form.{Form}
use Rattle.il_syntax.specs.declared.tree.Elementary.{Elementary}
use Rattle.il_syntax.specs.declared.tree.Elementary.TheVariants.{Bool as Boolean, Time}
use Rattle.il_syntax.specs.declared.tree.Literal.{Literal}
use Rattle.il_syntax.specs.declared.tree.Literal.TheVariants.{Truth, Bare, Whole, Time as Duration}
use Rattle.il_syntax.specs.declared.tree.Index.TheVariants.{Number as NumberIndex, Variable as VariableIndex}
use Rattle.il_syntax.specs.declared.tree.Reference.{Reference}
use Rattle.il_syntax.specs.declared.tree.Reference.TheVariants.{Literal as OfLiteral, Variable as OfVariable, Element as OfElement, Member as OfMember}
use Rattle.il_syntax.specs.declared.tree.Operand.{Operand}
use Rattle.il_syntax.specs.declared.tree.Operator.{Operator}
use Rattle.il_syntax.specs.declared.tree.Store.{Store}
use Rattle.il_syntax.specs.declared.tree.Store.TheVariants.{Plain, Negated, Set, Reset}
use Rattle.il_syntax.specs.declared.tree.Condition.{Condition}
use Rattle.il_syntax.specs.declared.tree.Condition.TheVariants.{Always, WhenTrue, WhenFalse}
use Rattle.il_syntax.specs.declared.tree.Argument.{Argument}
use Rattle.il_syntax.specs.declared.tree.Argument.TheVariants.{Input, Output}
use Rattle.il_syntax.specs.declared.tree.Instruction.{Instruction}
use Rattle.il_syntax.specs.declared.tree.Instruction.TheVariants.{Load, Store as StoreInto, Not, Operate, Defer, Evaluate, Jump, Return, Call, Invoke}
use Rattle.il_syntax.specs.declared.fault.Refusal.TheVariants.{Fault}
use Rattle.il_syntax.specs.ElementaryTypes.{is_same_type, is_whole}
use Rattle.il_statics.specs.declared.names.StandardFunction.{StandardFunction}
use Rattle.il_statics.specs.declared.names.StandardFunction.TheVariants.{Absolute, Minimum, Maximum, Limited, Selected, Converted}
use Rattle.il_statics.specs.Names.{Spelling, is_one_of, entry_of, standard_function, further_arguments, BlockVariables, Variable, named_forms, function_named, variable_named}
use Rattle.il_statics.specs.Declarations.{has_value, unless}
use Rattle.il_statics.specs.Types.{difference_numbers, any_difference_numbers, scalar_type, name_type, instance_block, reference_type, literal_type, index_type_numbers, index_numbers, literal_numbers, wanted_numbers, maybe_wanted_numbers, unfit_numbers, loaded_literal_numbers, loaded_numbers, presence_numbers, result_numbers, takes, taken_numbers, operand_type, function_takes, uniform_numbers, agreement_numbers, selected_input_type, selected_numbers, standard_numbers, input_numbers, own_function_numbers, function_numbers, origin_is_written, written_variable_numbers, written_member_numbers, written_numbers, boolean_store_numbers, plain_store_numbers, store_type_numbers, argument_word, given_input_numbers, given_output_numbers, argument_numbers, arguments_numbers, call_numbers, condition_numbers, Deferred, inner_numbers, evaluated_numbers, short_form_numbers, load_numbers, typing_numbers}
use Rattle.il_statics.specs.Faults.{BreaksDeclarations, duplicate, unknown, empty_range, initial_outside, bad_task, other_type, BreaksTypes, of_instruction, unknown_label, backward_jump, two_writers, unreached, BreaksOrder, recursive, long_chain, too_many_slots}
use Rattle.ranges_pass.specs.Lacking.{BreaksRanges, lacks_ranges, IsRangeNumber, zero_divisor, out_of_type, out_of_array, otherwise, other_number, function_number}
use Rattle.il_semantics.specs.Annotation.{Knowledge}
use Rattle.load_budgets.specs.Costs.{IsTooLong, too_long}
use Rattle.il_syntax_laws.proofs.Members.{none_in, first_or_later}
use Rattle.load_text.specs.Loading.{IsRefusedFor, by_declarations, by_types, by_order, by_ranges, by_budgets}

-- LISTS OF NUMBERS

-- each is 12 or more
abbrev Late : List ℕ → Type 0
Late [] = Unit {0}
Late (n ∷ ns) = (12 ≤ n) × Late ns

late_in : (ns : List ℕ) (n : ℕ) → Late ns → Contains ns n → 12 ≤ n
late_in [] n h has = absurd (none_in n has)
late_in (m ∷ ns) n h has = elim (first_or_later m ns n has) [
  | inl is ↦ omega (arith, is, h.0)
  | inr later ↦ late_in ns n h.1 later
]

both : (ms ns : List ℕ) → Late ms → Late ns → Late (ms ++ ns)
both [] ns h g = g
both (m ∷ ms) ns h g = (h.0, both ms ns h.1 g)

one : (n : ℕ) → 12 ≤ n → Late (n ∷ [])
one n h = (h, tt)

late_unless : (b : Bool) (n : ℕ) → 12 ≤ n → Late (unless b n)
late_unless true n h = tt
late_unless false n h = (h, tt)

each : {X : Type 0} (f : X → List ℕ) → ((x : X) → Late (f x)) → (xs : List X) → Late (flat_map f xs)
each f h [] = tt
each f h (x ∷ xs) = both (f x) (flat_map f xs) (h x) (each f h xs)

at_30 : 12 ≤ 30
at_30 = omega arith

at_31 : 12 ≤ 31
at_31 = omega arith

at_32 : 12 ≤ 32
at_32 = omega arith

at_33 : 12 ≤ 33
at_33 = omega arith

at_37 : 12 ≤ 37
at_37 = omega arith

-- TYPES

by_kind : (same whole : Bool) → Late (if same then [] else (if whole then 31 ∷ [] else 30 ∷ []))
by_kind true whole = tt
by_kind false true = one 31 at_31
by_kind false false = one 30 at_30

difference : (found wanted : Elementary) → Late (difference_numbers found wanted)
difference found wanted = by_kind (is_same_type found wanted) (is_whole found && is_whole wanted)

any_difference : (found : Option Elementary) (wanted : Elementary) → Late (any_difference_numbers found wanted)
any_difference None wanted = tt
any_difference (Some found) wanted = difference found wanted

index_type : (found : Option Elementary) → Late (index_type_numbers found)
index_type None = tt
index_type (Some found) = late_unless (is_whole found) 30 at_30

bare_by : (whole : Bool) (misfit : List ℕ) → Late misfit → Late (if whole then misfit else 30 ∷ [])
bare_by true misfit h = h
bare_by false misfit h = one 30 at_30

literal : (l : Literal) (wanted : Elementary) → Late (literal_numbers l wanted)
literal (Truth b) wanted = difference Boolean wanted
literal (Bare n) wanted = bare_by (is_whole wanted) (unless (has_value wanted n) 31) (late_unless (has_value wanted n) 31 at_31)
literal (Whole e n) wanted = difference e wanted
literal (Duration n) wanted = difference Time wanted

unfit : (found : Option Elementary) → Late (unfit_numbers found)
unfit None = one 31 at_31
unfit (Some found) = tt

loaded_literal : (r : Reference) → Late (loaded_literal_numbers r)
loaded_literal (OfLiteral l) = unfit (literal_type l)
loaded_literal (OfVariable name) = tt
loaded_literal (OfElement name index) = tt
loaded_literal (OfMember name word) = tt

presence : (before : Option Elementary) → Late (presence_numbers before)
presence None = one 32 at_32
presence (Some found) = tt

result : (before : Option Elementary) (wanted : Elementary) → Late (result_numbers before wanted)
result None wanted = one 32 at_32
result (Some found) wanted = difference found wanted

taken : (operator : Operator) (before : Option Elementary) → Late (taken_numbers operator before)
taken operator None = one 32 at_32
taken operator (Some found) = late_unless (takes operator found) 30 at_30

agreement : (wanted found : Option Elementary) → Late (agreement_numbers wanted found)
agreement None found = tt
agreement (Some wanted) found = any_difference found wanted

written_variable : (v : Option Variable) → Late (written_variable_numbers v)
written_variable None = tt
written_variable (Some v) = late_unless (origin_is_written v.origin) 33 at_33

written_member : (word : Spelling) (block : Option BlockVariables) → Late (written_member_numbers word block)
written_member word None = tt
written_member word (Some block) = late_unless (is_none (entry_of block.outputs word)) 33 at_33

condition : (c : Condition) (before : Option Elementary) → Late (condition_numbers c before)
condition Always before = tt
condition WhenTrue before = result before Boolean
condition WhenFalse before = result before Boolean

inner : (wanted found : Option Elementary) → Late (inner_numbers wanted found)
inner wanted None = one 32 at_32
inner None (Some found) = tt
inner (Some wanted) (Some found) = difference found wanted

evaluated : (d : Option Deferred) (before : Option Elementary) → Late (evaluated_numbers d before)
evaluated None before = one 32 at_32
evaluated (Some d) before = both (taken_numbers d.0 d.1) (inner_numbers (operand_type d.0 d.1) before) (taken d.0 d.1) (inner (operand_type d.0 d.1) before)

-- INSTRUCTIONS

module _ (config : Config) (unit : ProgramUnit) where
  index : (r : Reference) → Late (index_numbers config unit r)
  index (OfLiteral l) = tt
  index (OfVariable name) = tt
  index (OfElement name (NumberIndex n)) = tt
  index (OfElement name (VariableIndex i)) = index_type (name_type config unit i)
  index (OfMember name word) = tt

  wanted_of : (r : Reference) (wanted : Elementary) → Late (wanted_numbers config unit r wanted)
  wanted_of (OfLiteral l) wanted = literal l wanted
  wanted_of (OfVariable name) wanted = any_difference (reference_type config unit (OfVariable name)) wanted
  wanted_of (OfElement name i) wanted =
      both (index_numbers config unit (OfElement name i)) (any_difference_numbers (reference_type config unit (OfElement name i)) wanted) (index (OfElement name i)) (any_difference (reference_type config unit (OfElement name i)) wanted)
  wanted_of (OfMember name word) wanted = any_difference (reference_type config unit (OfMember name word)) wanted

  maybe_wanted : (r : Reference) (wanted : Option Elementary) → Late (maybe_wanted_numbers config unit r wanted)
  maybe_wanted r None = index r
  maybe_wanted r (Some wanted) = wanted_of r wanted

  loaded : (r : Reference) → Late (loaded_numbers config unit r)
  loaded r = both (index_numbers config unit r) (loaded_literal_numbers r) (index r) (loaded_literal r)

  uniform_by : (takes : Bool) (operands : List Operand) (found : Elementary) → Late (if takes then flat_map (λ o. wanted_numbers config unit o.reference found) operands else 30 ∷ [])
  uniform_by true operands found = each (λ (o : Operand). wanted_numbers config unit o.reference found) (λ o. wanted_of o.reference found) operands
  uniform_by false operands found = one 30 at_30

  uniform : (f : StandardFunction) (operands : List Operand) (before : Option Elementary) → Late (uniform_numbers config unit f operands before)
  uniform f operands None = tt
  uniform f operands (Some found) = uniform_by (function_takes f found) (take (further_arguments f) operands) found

  selected : (operands : List Operand) → Late (selected_numbers config unit operands)
  selected [] = tt
  selected (a ∷ []) = loaded a.reference
  selected (a ∷ b ∷ rest) =
      both _ (agreement_numbers (selected_input_type config unit a.reference) (selected_input_type config unit b.reference))
      (both (loaded_numbers config unit a.reference) (loaded_numbers config unit b.reference) (loaded a.reference) (loaded b.reference))
      (agreement (selected_input_type config unit a.reference) (selected_input_type config unit b.reference))

  standard : (f : StandardFunction) (operands : List Operand) (before : Option Elementary) → Late (standard_numbers config unit f operands before)
  standard Absolute operands before = uniform Absolute operands before
  standard Minimum operands before = uniform Minimum operands before
  standard Maximum operands before = uniform Maximum operands before
  standard Limited operands before = uniform Limited operands before
  standard Selected operands before = both (any_difference_numbers before Boolean) (selected_numbers config unit operands) (any_difference before Boolean) (selected operands)
  standard (Converted from to) operands before = any_difference before from

  inputs_of : (inputs : List (Spelling × Form)) (operands : List Operand) → Late (input_numbers config unit inputs operands)
  inputs_of [] operands = tt
  inputs_of (input ∷ inputs) [] = tt
  inputs_of (input ∷ inputs) (o ∷ operands) = both (maybe_wanted_numbers config unit o.reference (scalar_type input.1)) (input_numbers config unit inputs operands) (maybe_wanted o.reference (scalar_type input.1)) (inputs_of inputs operands)

  own_function : (inputs : List (Spelling × Form)) (operands : List Operand) (before : Option Elementary) → Late (own_function_numbers config unit inputs operands before)
  own_function [] operands before = one 37 at_37
  own_function (first ∷ others) operands before =
      both _ (input_numbers config unit others operands)
      (both (agreement_numbers (scalar_type first.1) before) (unless (nat_eq (length operands) (length others)) 37) (agreement (scalar_type first.1) before) (late_unless (nat_eq (length operands) (length others)) 37 at_37))
      (inputs_of others operands)

  function : (f : Option StandardFunction) (own : Option ProgramUnit) (operands : List Operand) (before : Option Elementary) → Late (function_numbers config unit f own operands before)
  function (Some f) own operands before = both (unless (nat_eq (length operands) (further_arguments f)) 37) (standard_numbers config unit f operands before) (late_unless (nat_eq (length operands) (further_arguments f)) 37 at_37) (standard f operands before)
  function None (Some own) operands before = own_function (named_forms own.inputs) operands before
  function None None operands before = tt

  written : (r : Reference) → Late (written_numbers config unit r)
  written (OfLiteral l) = one 33 at_33
  written (OfVariable name) = written_variable (variable_named config unit name)
  written (OfElement name i) = written_variable (variable_named config unit name)
  written (OfMember name word) = written_member word (instance_block config unit name)

  boolean_store : (target : Reference) (before : Option Elementary) → Late (boolean_store_numbers config unit target before)
  boolean_store target before = both (result_numbers before Boolean) (any_difference_numbers (reference_type config unit target) Boolean) (result before Boolean) (any_difference (reference_type config unit target) Boolean)

  plain_store : (target : Reference) (before : Option Elementary) → Late (plain_store_numbers config unit target before)
  plain_store target None = one 32 at_32
  plain_store target (Some found) = any_difference (reference_type config unit target) found

  store_type : (s : Store) (target : Reference) (before : Option Elementary) → Late (store_type_numbers config unit s target before)
  store_type Plain target before = plain_store target before
  store_type Negated target before = boolean_store target before
  store_type Set target before = boolean_store target before
  store_type Reset target before = boolean_store target before

  given_input : (form : Option Form) (r : Reference) → Late (given_input_numbers config unit form r)
  given_input None r = (at_37, index r)
  given_input (Some form) r = maybe_wanted r (scalar_type form)

  given_output : (form : Option Form) (target : Spelling) → Late (given_output_numbers config unit form target)
  given_output None target = one 37 at_37
  given_output (Some form) target = agreement (scalar_type form) (name_type config unit target)

  argument : (block : BlockVariables) (a : Argument) → Late (argument_numbers config unit block a)
  argument block (Input word operand) = given_input (entry_of block.inputs word.name) operand.reference
  argument block (Output word target) =
      both (written_variable_numbers (variable_named config unit target.name)) (given_output_numbers config unit (entry_of block.outputs word.name) target.name) (written_variable (variable_named config unit target.name)) (given_output (entry_of block.outputs word.name) target.name)

  arguments : (block : BlockVariables) (given : List Spelling) (items : List Argument) → Late (arguments_numbers config unit block given items)
  arguments block given [] = tt
  arguments block given (a ∷ rest) =
      both _ (arguments_numbers config unit block (argument_word a ∷ given) rest)
      (both (unless (not (is_one_of given (argument_word a))) 37) (argument_numbers config unit block a) (late_unless (not (is_one_of given (argument_word a))) 37 at_37) (argument block a))
      (arguments block (argument_word a ∷ given) rest)

  call : (block : Option BlockVariables) (items : List Argument) → Late (call_numbers config unit block items)
  call None items = tt
  call (Some block) items = arguments block [] items

  short_form : (first : Option Operand) → Late (short_form_numbers config unit first)
  short_form None = tt
  short_form (Some operand) = loaded operand.reference

  load : (negated : Bool) (r : Reference) → Late (load_numbers config unit negated r)
  load false r = loaded r
  load true r = wanted_of r Boolean

  typing : (i : Instruction) (before : Option Elementary) (d : Option Deferred) → Late (typing_numbers config unit i before d)
  unfolding typing_numbers
  typing (Load negated operand) before d = load negated operand.reference
  typing (StoreInto s target) before d =
      both _ (store_type_numbers config unit s target.reference before)
      (both (index_numbers config unit target.reference) (written_numbers config unit target.reference) (index target.reference) (written target.reference))
      (store_type s target.reference before)
  typing Not before d = result before Boolean
  typing (Operate operator operand) before d = both (taken_numbers operator before) _ (taken operator before) (maybe_wanted operand.reference (operand_type operator before))
  typing (Defer operator first) before d = both (presence_numbers before) _ (presence before) (short_form first)
  typing Evaluate before d = evaluated d before
  typing (Jump c label) before d = condition c before
  typing (Return c) before d = condition c before
  typing (Call c callee items) before d = both (condition_numbers c before) _ (condition c before) (call (instance_block config unit callee.name) items)
  typing (Invoke f operands) before d =
      both _ (function_numbers config unit (standard_function f.name) (function_named config f.name) operands before)
      (both (presence_numbers before) (flat_map (λ (o : Operand). index_numbers config unit o.reference) operands) (presence before) (each (λ (o : Operand). index_numbers config unit o.reference) (λ o. index o.reference) operands))
      (function (standard_function f.name) (function_named config f.name) operands before)

-- THE PHASES

late_declaration : (c : Config) (n : ℕ) (p : Place) → BreaksDeclarations c n p → 12 ≤ n
late_declaration c n p (duplicate is h) = omega (arith, is)
late_declaration c n p (unknown is h) = omega (arith, is)
late_declaration c n p (empty_range is h) = omega (arith, is)
late_declaration c n p (initial_outside is h) = omega (arith, is)
late_declaration c n p (bad_task is h) = omega (arith, is)
late_declaration c n p (other_type is h) = omega (arith, is)

late_type : (c : Config) (n : ℕ) (p : Place) → BreaksTypes c n p → 12 ≤ n
late_type c n p (of_instruction h) = late_in (typing_numbers c h.unit h.step.instruction h.before h.deferred) n (typing c h.unit h.step.instruction h.before h.deferred) h.broken
late_type c n p (unknown_label is h) = omega (arith, is)
late_type c n p (backward_jump is h) = omega (arith, is)
late_type c n p (two_writers is h) = omega (arith, is)
late_type c n p (unreached is h) = omega (arith, is)

late_order : (c : Config) (n : ℕ) (p : Place) → BreaksOrder c n p → 12 ≤ n
late_order c n p (recursive is h) = omega (arith, is)
late_order c n p (long_chain is h) = omega (arith, is)
late_order c n p (too_many_slots is h) = omega (arith, is)

late_function : (f : Option StandardFunction) → 12 ≤ function_number f
late_function None = omega arith
late_function (Some f) = omega arith

late_other : (i : Instruction) → 12 ≤ other_number i
late_other (Load negated operand) = omega arith
late_other (StoreInto kind to) = omega arith
late_other Not = omega arith
late_other (Operate operator operand) = omega arith
late_other (Defer operator first) = omega arith
late_other Evaluate = omega arith
late_other (Jump c label) = omega arith
late_other (Return c) = omega arith
late_other (Call c callee items) = omega arith
late_other (Invoke f operands) = late_function (standard_function f.name)

late_range : (c : Config) (u : ProgramUnit) (k : Knowledge) (i : Instruction) (n : ℕ) → IsRangeNumber c u k i n → 12 ≤ n
late_range c u k i n (zero_divisor is h) = omega (arith, is)
late_range c u k i n (out_of_type is a b) = omega (arith, is)
late_range c u k i n (out_of_array is a b d) = omega (arith, is)
late_range c u k i n (otherwise is a b d) = omega (arith, is, late_other i)

late_ranges : (c : Config) (n : ℕ) (p : Place) → BreaksRanges c n p → 12 ≤ n
late_ranges c n p (lacks_ranges u has lacks) = late_range c u lacks.known lacks.step.instruction n lacks.number_is

late_cost : (c : Config) (n : ℕ) (p : Place) → IsTooLong c n p → 12 ≤ n
late_cost c n p (too_long u cost has longest over is at) = omega (arith, is)

-- whatever a tree is refused for
pub late_fault : (c : Config) (n : ℕ) (p : Place) → IsRefusedFor c (Fault n p) → 12 ≤ n
late_fault c n p (by_declarations first) = late_declaration c n p first.broken
late_fault c n p (by_types d first) = late_type c n p first.broken
late_fault c n p (by_order d t first) = late_order c n p first.broken
late_fault c n p (by_ranges u first) = late_ranges c n p first.broken
late_fault c n p (by_budgets u a first) = late_cost c n p first.broken
