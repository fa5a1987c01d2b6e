-- Where each instruction leads, and with which facts (own rules).
use Rattle.std.specs.Prelude.{ℕ, Bool, false, true, not, ◌&&◌, List, [], ◌∷◌, Option, Some, None, option_map, option_and_then}
use Rattle.ranges_interval.specs.declared.Interval.{Interval}
use Rattle.il_syntax.specs.declared.tree.Elementary.{Elementary}
use Rattle.il_syntax.specs.declared.tree.Scalar.{Scalar}
use Rattle.il_syntax.specs.declared.tree.Form.{Form}
use Rattle.il_syntax.specs.declared.tree.Form.TheVariants.{Scalar as ScalarForm, Block as BlockForm}
use Rattle.il_syntax.specs.declared.tree.Operand.{Operand}
use Rattle.il_syntax.specs.declared.tree.Reference.TheVariants.{Variable}
use Rattle.il_syntax.specs.declared.tree.Argument.{Argument}
use Rattle.il_syntax.specs.declared.tree.Argument.TheVariants.{Input, Output}
use Rattle.il_syntax.specs.declared.tree.Operator.{Operator}
use Rattle.il_syntax.specs.declared.tree.Store.{Store as StoreKind}
use Rattle.il_syntax.specs.declared.tree.Store.TheVariants.{Plain}
use Rattle.il_syntax.specs.declared.tree.Condition.{Condition}
use Rattle.il_syntax.specs.declared.tree.Condition.TheVariants.{Always}
use Rattle.il_syntax.specs.declared.tree.Instruction.{Instruction}
use Rattle.il_syntax.specs.declared.tree.Instruction.TheVariants.{Load, Store, Not, Operate, Defer, Evaluate, Jump, Return, Call, Invoke}
use Rattle.il_syntax.specs.declared.tree.Unit.{Unit as ProgramUnit}
use Rattle.il_syntax.specs.declared.tree.UnitKind.{UnitKind}
use Rattle.il_syntax.specs.declared.tree.UnitKind.TheVariants.{Function, FunctionBlock, Program}
use Rattle.il_syntax.specs.declared.tree.Config.{Config}
use Rattle.il_statics.specs.declared.names.StandardFunction.{StandardFunction}
use Rattle.il_statics.specs.Names.{standard_function, function_named, entry_of, block_variables, named_forms, form_named}
use Rattle.il_statics.specs.Types.{label_place}
use Rattle.base_maps.specs.NameMap.{Text}
use Rattle.il_semantics.specs.Meaning.{Denotation, Direct, denotation, natural, inputs_of, outputs_of}
use Rattle.il_semantics.specs.Step.{instruction_at, rest_of}
use Rattle.il_semantics.specs.declared.known.Known.{Known}
use Rattle.il_semantics.specs.declared.known.Known.TheVariants.{Flag, Ranged}
use Rattle.il_semantics.specs.declared.known.KnownDeferred.{KnownDeferred}
use Rattle.il_semantics.specs.Tests.{Test, test_at}
use Rattle.ranges_interval.specs.Compared.{interval_narrow}
use Rattle.il_semantics.specs.Annotation.{acts_at, range, declared_known, result_at_target, known_argument_type}
use Rattle.ranges_laws.specs.Pass.{Moves}
use Rattle.ranges_laws.specs.declared.facts.Facts.{Facts}
use Rattle.ranges_laws.specs.Facts.{Names, facts, with_result, row_at, row_put, row_join}
use Rattle.ranges_laws.specs.Found.{provided, found_operand, found_operated, found_loaded, fits_range, fits_target, found_applied}

-- to the next place with these facts
abbrev pub to_next : Facts → Moves Facts
to_next f = record { next = Some f; jump = None }

-- to the next place with this result
abbrev pub giving : Facts → Option Known → Option (Moves Facts)
giving f = option_map (λ k. to_next (with_result f k))

abbrev pub flag_there : Option Known → Option Known
flag_there None = None
flag_there (Some Flag) = Some Flag
flag_there (Some (Ranged e i)) = None

abbrev pub loaded_operand : Names → List Interval → Denotation → Option Known
loaded_operand names row d = found_operand (row_at names row) (natural d) d

-- the row after a store
abbrev pub stored_row : Names → Denotation → Known → List Interval → List Interval
stored_row names (Direct name s) (Ranged e i) row = row_put names row name i
stored_row names _ _ row = row

abbrev pub stored : Names → Facts → Denotation → Known → Facts
stored names f d k = facts (stored_row names d k f.row) f.result f.deferred

-- a result that its target takes
abbrev pub taken_by : Names → Facts → Denotation → Known → Option Known
taken_by names f d k = provided (fits_target names f.row d k) (Some k)

abbrev pub moves_of_store : Names → Facts → StoreKind → Denotation → Option (Moves Facts)
moves_of_store names f Plain d = option_map (λ k. to_next (stored names f d k)) (option_and_then (taken_by names f d) f.result)
moves_of_store names f _ d = option_map (λ k. to_next f) (option_and_then (taken_by names f d) (flag_there f.result))

abbrev pub context : Denotation → Known → Elementary
context d Flag = natural d
context d (Ranged e i) = e

abbrev pub operated_by : Names → List Interval → Operator → Denotation → Known → Option Known
operated_by names row operator d left = option_and_then (found_operated operator left) (found_operand (row_at names row) (context d left) d)

abbrev pub deferred : Operator → Known → KnownDeferred
deferred operator left = record { operator = operator; left = left }

abbrev pub aside : Facts → Operator → Known → Option Known → Facts
aside f operator left result = facts f.row result (deferred operator left ∷ f.deferred)

abbrev pub paired : Option Known → Option Known → Option (Known × Known)
paired o p = option_and_then (λ x. option_map (λ y. (x, y)) p) o

abbrev pub moves_of_defer : Names → Config → ProgramUnit → Facts → Operator → Option Operand → Option (Moves Facts)
moves_of_defer names c u f operator None = option_map (λ left. to_next (aside f operator left None)) f.result
moves_of_defer names c u f operator (Some o) =
    option_map (λ p. to_next (aside f operator p.0 (Some p.1))) (paired f.result (loaded_operand names f.row (denotation c u o.reference)))

abbrev pub moves_of_evaluate : Facts → List KnownDeferred → Option (Moves Facts)
moves_of_evaluate f [] = None
moves_of_evaluate f (d ∷ ds) = option_map (λ k. to_next (facts f.row (Some k) ds)) (option_and_then (found_operated d.operator d.left) f.result)

abbrev pub has_flag : Option Known → Bool
has_flag None = false
has_flag (Some Flag) = true
has_flag (Some (Ranged e i)) = false

abbrev pub has_condition : Condition → Option Known → Bool
has_condition Always result = true
has_condition _ result = has_flag result

abbrev pub passing : Condition → Facts → Option Facts
passing Always f = None
passing _ f = Some f

abbrev pub jumping_to : Condition → Facts → Option ℕ → Option (Moves Facts)
jumping_to condition f None = None
jumping_to condition f (Some to) = Some (record { next = passing condition f; jump = Some (to, facts f.row (result_at_target condition f.result) f.deferred) })

-- nothing is set aside
abbrev pub is_bare : List KnownDeferred → Bool
is_bare [] = true
is_bare (d ∷ ds) = false

-- the further arguments of a standard function
abbrev pub found_arguments : Names → List Interval → Config → ProgramUnit → StandardFunction → Known → List Operand → Option (List Known)
found_arguments names row c u f first [] = Some []
found_arguments names row c u f first (o ∷ os) =
    option_and_then (λ k. option_map (λ ks. k ∷ ks) (found_arguments names row c u f first os)) (found_operand (row_at names row) (known_argument_type f first (denotation c u o.reference)) (denotation c u o.reference))

abbrev pub applied_to : Names → List Interval → Config → ProgramUnit → StandardFunction → List Operand → Known → Option Known
applied_to names row c u f operands first = option_and_then (found_applied f first) (found_arguments names row c u f first operands)

-- a call of a standard function
abbrev pub moves_of_standard : Names → Config → ProgramUnit → Facts → Option StandardFunction → List Operand → Option (Moves Facts)
moves_of_standard names c u f None operands = None
moves_of_standard names c u f (Some function) operands = giving f (option_and_then (applied_to names f.row c u function operands) f.result)

-- ARGUMENTS

-- whether a value fits a scalar of a form
abbrev pub fits_form : Option Form → Known → Bool
fits_form (Some (ScalarForm s)) k = fits_range s.elementary (range s) k
fits_form _ k = false

-- whether what was found fits a scalar
abbrev pub found_fits : Scalar → Option Known → Bool
found_fits s None = false
found_fits s (Some k) = fits_range s.elementary (range s) k

-- whether an operand fits an input of a form
abbrev pub fits_input : Names → List Interval → Denotation → Option Form → Bool
fits_input names row d (Some (ScalarForm s)) = found_fits s (found_operand (row_at names row) s.elementary d)
fits_input names row d _ = false

-- whether all values of an output of a form fit a target
abbrev pub fits_output : Names → List Interval → Denotation → Option Form → Bool
fits_output names row d (Some (ScalarForm s)) = fits_target names row d (declared_known s)
fits_output names row d _ = false

-- OWN FUNCTIONS

abbrev pub fits_first : List (Text × Form) → Known → Bool
fits_first [] k = false
fits_first (e ∷ es) k = fits_form (Some e.1) k

abbrev pub fit_inputs : Names → List Interval → Config → ProgramUnit → List (Text × Form) → List Operand → Bool
fit_inputs names row c u [] [] = true
fit_inputs names row c u (e ∷ es) (o ∷ os) = fits_input names row (denotation c u o.reference) (Some e.1) && fit_inputs names row c u es os
fit_inputs names row c u [] (o ∷ os) = false
fit_inputs names row c u (e ∷ es) [] = false

-- what a call of a unit leaves
abbrev pub found_result : UnitKind → Option Known
found_result (Function scalar place) = Some (declared_known scalar)
found_result FunctionBlock = None
found_result Program = None

abbrev pub own_result : Names → List Interval → Config → ProgramUnit → ProgramUnit → List Operand → Known → Option Known
own_result names row c u own operands first =
    provided (fits_first (named_forms own.inputs) first) (provided (fit_inputs names row c u (rest_of (named_forms own.inputs)) operands) (found_result own.kind))

-- a call of a function, standard or own
abbrev pub moves_of_invoke : Names → Config → ProgramUnit → Facts → Option StandardFunction → Option ProgramUnit → List Operand → Option (Moves Facts)
moves_of_invoke names c u f (Some function) own operands = moves_of_standard names c u f (Some function) operands
moves_of_invoke names c u f None (Some own) operands = giving f (option_and_then (own_result names f.row c u own operands) f.result)
moves_of_invoke names c u f None None operands = None

-- BLOCKS

abbrev pub fit_arguments : Names → List Interval → Config → ProgramUnit → Text → List Argument → Bool
fit_arguments names row c u block [] = true
fit_arguments names row c u block (Input word o ∷ more) =
    fits_input names row (denotation c u o.reference) (entry_of (inputs_of (block_variables c block)) word.name) && fit_arguments names row c u block more
fit_arguments names row c u block (Output word to ∷ more) =
    fits_output names row (denotation c u (Variable to.name)) (entry_of (outputs_of (block_variables c block)) word.name) && fit_arguments names row c u block more

-- the row after one output is copied
abbrev pub output_row : Names → Option Form → Denotation → List Interval → List Interval
output_row names (Some (ScalarForm s)) d row = stored_row names d (declared_known s) row
output_row names _ d row = row

-- each target of an output has the output's declared range
abbrev pub outputs_row : Names → Config → ProgramUnit → Text → List Argument → List Interval → List Interval
outputs_row names c u block [] row = row
outputs_row names c u block (Input word o ∷ more) row = outputs_row names c u block more row
outputs_row names c u block (Output word to ∷ more) row =
    outputs_row names c u block more (output_row names (entry_of (outputs_of (block_variables c block)) word.name) (denotation c u (Variable to.name)) row)

-- the row after a call: of a conditional one both as it acts and as it passes
abbrev pub passed_row : Condition → List Interval → List Interval → List Interval
passed_row Always acted row = acted
passed_row _ acted row = row_join acted row

abbrev pub called : Names → Config → ProgramUnit → Facts → Condition → Text → List Argument → Facts
called names c u f condition block arguments = facts (passed_row condition (outputs_row names c u block arguments f.row) f.row) None f.deferred

-- a call of an instance of a block
abbrev pub moves_of_call : Names → Config → ProgramUnit → Facts → Condition → List Argument → Option Form → Option (Moves Facts)
moves_of_call names c u f condition arguments (Some (BlockForm block)) =
    provided (fit_arguments names f.row c u block arguments) (Some (to_next (called names c u f condition block arguments)))
moves_of_call names c u f condition arguments _ = None

-- the moves of an instruction that is no jump of a test; none where it is refused
abbrev pub moves_of : Names → Config → ProgramUnit → Facts → Instruction → Option (Moves Facts)
moves_of names c u f (Load negated operand) = giving f (option_and_then (found_loaded negated) (loaded_operand names f.row (denotation c u operand.reference)))
moves_of names c u f (Store kind to) = moves_of_store names f kind (denotation c u to.reference)
moves_of names c u f Not = giving f (flag_there f.result)
moves_of names c u f (Operate operator operand) = giving f (option_and_then (operated_by names f.row operator (denotation c u operand.reference)) f.result)
moves_of names c u f (Defer operator first) = moves_of_defer names c u f operator first
moves_of names c u f Evaluate = moves_of_evaluate f f.deferred
moves_of names c u f (Jump condition label) = provided (is_bare f.deferred) (provided (has_condition condition f.result) (jumping_to condition f (label_place u.body label.name)))
moves_of names c u f (Return condition) = provided (has_condition condition f.result) (Some (record { next = passing condition f; jump = None }))
moves_of names c u f (Call condition instance arguments) = provided (has_condition condition f.result) (moves_of_call names c u f condition arguments (form_named c u instance.name))
moves_of names c u f (Invoke function operands) = moves_of_invoke names c u f (standard_function function.name) (function_named c function.name) operands

-- TESTS

-- the row where a test has an outcome, by the range of its variable; none where nothing is left of it
abbrev pub narrowed_row_by : Names → Test → Bool → Option Interval → List Interval → Option (List Interval)
narrowed_row_by names t holds None row = Some row
narrowed_row_by names t holds (Some i) row = option_map (row_put names row t.name) (interval_narrow t.comparison holds i t.number)

-- the same by the row
abbrev pub narrowed_row : Names → Test → Bool → List Interval → Option (List Interval)
narrowed_row names t holds row = narrowed_row_by names t holds (row_at names row t.name) row

-- the facts where a test has an outcome
abbrev pub sided : Names → Test → Bool → Facts → Option Facts
sided names t holds f = option_map (λ row. facts row f.result f.deferred) (narrowed_row names t holds f.row)

-- what a conditional jump passes on
abbrev pub passing_side : Condition → Option Facts → Option Facts
passing_side Always side = None
passing_side _ side = side

-- what a jump brings to a label; none where there is something to bring and no such label
abbrev pub landing : Condition → Option ℕ → Option Facts → Option (Option (ℕ × Facts))
landing condition at None = Some None
landing condition None (Some f) = None
landing condition (Some to) (Some f) = Some (Some (to, facts f.row (result_at_target condition f.result) f.deferred))

-- the moves of a test's jump
abbrev pub testing_to : Names → Test → Condition → Facts → Option ℕ → Option (Moves Facts)
testing_to names t condition f at =
    option_map (λ jump. record { next = passing_side condition (sided names t (not (acts_at condition)) f); jump = jump }) (landing condition at (sided names t (acts_at condition) f))

abbrev pub moves_of_test : Names → Config → ProgramUnit → Test → Facts → Instruction → Option (Moves Facts)
moves_of_test names c u t f (Jump condition label) = provided (is_bare f.deferred) (provided (has_condition condition f.result) (testing_to names t condition f (label_place u.body label.name)))
moves_of_test names c u t f _ = None

-- the moves of an instruction, which may be the jump of a test
abbrev pub moves_by : Names → Config → ProgramUnit → Option Test → Facts → Instruction → Option (Moves Facts)
moves_by names c u None f i = moves_of names c u f i
moves_by names c u (Some t) f i = moves_of_test names c u t f i

-- the moves of a place
abbrev pub moves : Names → Config → ProgramUnit → ℕ → Facts → Option (Moves Facts)
moves names c u place f = moves_by names c u (test_at c u place) f (instruction_at u.body place)
