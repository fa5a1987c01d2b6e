-- Annotations of a unit by intervals (own rule): with one, no run of the unit traps.
use Rattle.std.specs.Prelude.{◌≡◌, ℕ, ◌+◌, ◌<◌, Bool, true, false, not, List, [], ◌∷◌, length, slice_get, Option, Some, None, option_map, option_and_then, ℤ, int_div, IsTrue, Contains}
use Rattle.std.specs.Int.{int_min, int_max}
use Rattle.ranges_interval.specs.declared.Interval.{Interval}
use Rattle.ranges_interval.specs.Interval.{IsIn, IsWithin, IsWithoutZero, between, interval_mod}
use Rattle.ranges_interval.specs.Compared.{interval_narrow}
use Rattle.ranges_interval.specs.Held.{Holds, Holds1, Holds3, absolute, limited}
use Rattle.il_syntax.specs.declared.tree.Elementary.{Elementary}
use Rattle.il_syntax.specs.declared.tree.Elementary.TheVariants.{Time}
use Rattle.il_syntax.specs.declared.tree.Scalar.{Scalar}
use Rattle.il_syntax.specs.declared.tree.Subrange.{Subrange}
use Rattle.il_syntax.specs.declared.tree.Literal.{Literal}
use Rattle.il_syntax.specs.declared.tree.Literal.TheVariants.{Truth, Bare, Whole, Time as Duration}
use Rattle.il_syntax.specs.declared.tree.Form.{Form}
use Rattle.il_syntax.specs.declared.tree.Form.TheVariants.{Scalar as ScalarForm, Block as BlockForm}
use Rattle.il_syntax.specs.declared.tree.Operand.{Operand}
use Rattle.il_syntax.specs.declared.tree.Reference.TheVariants.{Variable}
use Rattle.il_syntax.specs.declared.tree.Arithmetic.{Arithmetic as ArithmeticKind}
use Rattle.il_syntax.specs.declared.tree.Arithmetic.TheVariants.{Div, Mod}
use Rattle.il_syntax.specs.declared.tree.Comparison.{Comparison as ComparisonKind}
use Rattle.il_syntax.specs.declared.tree.Comparison.TheVariants.{Equal, NotEqual}
use Rattle.il_syntax.specs.declared.tree.Operator.{Operator}
use Rattle.il_syntax.specs.declared.tree.Operator.TheVariants.{Logic, Arithmetic, Comparison}
use Rattle.il_syntax.specs.declared.tree.Store.{Store as StoreKind}
use Rattle.il_syntax.specs.declared.tree.Store.TheVariants.{Plain}
use Rattle.il_syntax.specs.declared.tree.Condition.{Condition}
use Rattle.il_syntax.specs.declared.tree.Condition.TheVariants.{Always, WhenFalse}
use Rattle.il_syntax.specs.declared.tree.Argument.{Argument}
use Rattle.il_syntax.specs.declared.tree.Argument.TheVariants.{Input, Output}
use Rattle.il_syntax.specs.declared.tree.Instruction.{Instruction}
use Rattle.il_syntax.specs.declared.tree.Instruction.TheVariants.{Load, Store, Not, Operate, Defer, Evaluate, Jump, Return, Call, Invoke}
use Rattle.il_syntax.specs.declared.tree.Unit.{Unit as ProgramUnit}
use Rattle.il_syntax.specs.declared.tree.UnitKind.{UnitKind}
use Rattle.il_syntax.specs.declared.tree.UnitKind.TheVariants.{Function, FunctionBlock, Program}
use Rattle.il_syntax.specs.declared.tree.Config.{Config}
use Rattle.il_syntax.specs.ElementaryTypes.{limits, is_whole, IsValueOf}
use Rattle.il_statics.specs.declared.names.StandardFunction.{StandardFunction}
use Rattle.il_statics.specs.declared.names.StandardFunction.TheVariants.{Absolute, Minimum, Maximum, Limited, Selected, Converted}
use Rattle.il_statics.specs.Names.{Spelling, entry_of, standard_function, function_named, block_variables, named_forms, form_named}
use Rattle.il_statics.specs.Declarations.{declared_limits}
use Rattle.il_statics.specs.Types.{label_place}
use Rattle.base_maps.specs.NameMap.{NameMap, Text, get, insert}
use Rattle.il_semantics.specs.Meaning.{inputs_of, outputs_of, Denotation, Constant, Direct, Numbered, Indexed, Inside, Unknown, denotation, natural}
use Rattle.il_semantics.specs.declared.known.Known.{Known}
use Rattle.il_semantics.specs.declared.known.Known.TheVariants.{Flag, Ranged}
use Rattle.il_semantics.specs.declared.known.KnownDeferred.{KnownDeferred}
use Rattle.il_semantics.specs.Step.{arithmetic, takes, instruction_at, rest_of}
use Rattle.il_semantics.specs.Tests.{Test, test_at}

-- Ranges of types --

-- the numbers of a subrange (2.3.3.1)
abbrev pub interval : Subrange → Interval
interval s = between s.lower s.upper

-- the interval of one number (own rule)
abbrev pub only : ℤ → Interval
only z = between z z

-- the numbers of a type, if it has some (2.3.1)
abbrev pub numbers_of : Elementary → Option Interval
numbers_of e = option_map interval (limits e)

-- the numbers of a scalar type: its subrange's where it has one (2.3.3.1)
abbrev pub range : Scalar → Option Interval
range s = option_map interval (declared_limits s)

-- What is known at a place: an interval for each whole or time scalar variable, the current result if there is one, and each deferred value.
pub record Knowledge : Type 0 where
  pub variables : NameMap Interval
  pub result : Option Known
  pub deferred : List KnownDeferred

-- What is known at each place of a body, the last of them the return after its last instruction; nothing at a place that nothing reaches.
abbrev pub Annotation : Type 0
Annotation = List (Option Knowledge)

-- One says no less than another --

-- Whatever the first allows, the second allows.
abbrev pub IsKnownWithin : Known → Known → Type 0
IsKnownWithin Flag Flag = Unit {0}
IsKnownWithin (Ranged e i) (Ranged f j) = (e ≡ f) × IsWithin i j
IsKnownWithin Flag (Ranged f j) = ⊥
IsKnownWithin (Ranged e i) Flag = ⊥

-- A result may be given up.
abbrev pub IsResultWithin : Option Known → Option Known → Type 0
IsResultWithin result None = Unit {0}
IsResultWithin (Some k) (Some l) = IsKnownWithin k l
IsResultWithin None (Some l) = ⊥

-- The same of deferred operations: the operators are the same.
abbrev pub IsDeferredWithin : List KnownDeferred → List KnownDeferred → Type 0
IsDeferredWithin [] [] = Unit {0}
IsDeferredWithin (d ∷ ds) (e ∷ es) = (d.operator ≡ e.operator) × IsKnownWithin d.left e.left × IsDeferredWithin ds es
IsDeferredWithin [] (e ∷ es) = ⊥
IsDeferredWithin (d ∷ ds) [] = ⊥

-- The same of what is known of a variable.
abbrev pub IsVariableWithin : Option Interval → Option Interval → Type 0
IsVariableWithin None None = Unit {0}
IsVariableWithin (Some i) (Some j) = IsWithin i j
IsVariableWithin None (Some j) = ⊥
IsVariableWithin (Some i) None = ⊥

-- What the first allows at a place, the second allows.
pub record IsPart (k l : Knowledge) : Type 0 where
  pub variables : (name : Text) → IsVariableWithin (get k.variables name) (get l.variables name)
  pub result : IsResultWithin k.result l.result
  pub deferred : IsDeferredWithin k.deferred l.deferred

-- What is known lies in the ranges of a place.
abbrev pub Leads : Annotation → ℕ → Knowledge → Type 0
Leads a place k = (next : Knowledge) × (slice_get a place ≡ Some (Some next)) × IsPart k next

-- Declared ranges --

-- What is known of a value by its type and its numbers, if it has some.
abbrev pub known_by : Elementary → Option Interval → Known
known_by e None = Flag
known_by e (Some i) = Ranged e i

-- What the declaration of a scalar says of its value.
abbrev pub declared_known : Scalar → Known
declared_known s = known_by s.elementary (range s)

-- The range that a type declares, if it is scalar and has numbers.
abbrev pub form_range : Form → Option Interval
form_range (ScalarForm s) = range s
form_range _ = None

-- The declared range of the variable of a name.
abbrev pub declared_range : Config → ProgramUnit → Spelling → Option Interval
declared_range c u name = option_and_then form_range (form_named c u name)

-- At the entry of a body every variable has its declared range, and there is no result.
pub record IsEntry (c : Config) (u : ProgramUnit) (k : Knowledge) : Type 0 where
  pub variables : (name : Text) → IsVariableWithin (declared_range c u name) (get k.variables name)
  pub result : k.result ≡ None
  pub deferred : k.deferred ≡ []

-- Operands --

-- There is an interval, and it is as stated.
abbrev pub WithInterval : Option Interval → (Interval → Type 0) → Type 0
WithInterval None go = ⊥
WithInterval (Some i) go = go i

-- There is a current result, and it is as stated.
abbrev pub WithKnownResult : Option Known → (Known → Type 0) → Type 0
WithKnownResult None go = ⊥
WithKnownResult (Some k) go = go k

-- The name has a scalar type, and it is as stated.
abbrev pub WithScalarForm : Option Form → (Scalar → Type 0) → Type 0
WithScalarForm (Some (ScalarForm s)) go = go s
WithScalarForm _ go = ⊥

-- A scalar variable: a Boolean, or the range of the place.
abbrev pub WithFlow : Elementary → Option Interval → Option Interval → (Known → Type 0) → Type 0
WithFlow e None flow go = go Flag
WithFlow e (Some declared) flow go = WithInterval flow (λ i. go (Ranged e i))

-- A literal: a value of the type that is written, and for a bare one of the integer type that is given.
abbrev pub WithLiteral : Elementary → Literal → (Known → Type 0) → Type 0
WithLiteral e (Truth b) go = go Flag
WithLiteral e (Bare z) go = IsTrue (is_whole e) × IsValueOf e z × go (Ranged e (only z))
WithLiteral e (Whole written z) go = IsValueOf written z × go (Ranged written (only z))
WithLiteral e (Duration z) go = IsValueOf Time z × go (Ranged Time (only z))

-- What is known of an operand, where its index lies in its array. Scalar variables have the range of the place, all else its declared range.
abbrev pub WithOperand : NameMap Interval → Elementary → Denotation → (Known → Type 0) → Type 0
WithOperand variables e (Constant l) go = WithLiteral e l go
WithOperand variables e (Direct name s) go = WithFlow s.elementary (range s) (get variables name) go
WithOperand variables e (Numbered name bounds element z) go = IsIn (interval bounds) z × go (declared_known element)
WithOperand variables e (Indexed name bounds element variable s) go =
    IsTrue (is_whole s.elementary) × WithInterval (get variables variable) (λ i. IsWithin i (interval bounds)) × go (declared_known element)
WithOperand variables e (Inside instance word s) go = go (declared_known s)
WithOperand variables e Unknown go = ⊥

-- Where a store goes, and its index lies in its array.
abbrev pub WithTarget : NameMap Interval → Denotation → (Scalar → Type 0) → Type 0
WithTarget variables (Constant l) go = ⊥
WithTarget variables (Direct name s) go = go s
WithTarget variables (Numbered name bounds element z) go = IsIn (interval bounds) z × go element
WithTarget variables (Indexed name bounds element variable s) go =
    IsTrue (is_whole s.elementary) × WithInterval (get variables variable) (λ i. IsWithin i (interval bounds)) × go element
WithTarget variables (Inside instance word s) go = go s
WithTarget variables Unknown go = ⊥

-- Every such value is one of the scalar's.
abbrev pub FitsRange : Elementary → Option Interval → Known → Type 0
FitsRange e None Flag = Unit {0}
FitsRange e (Some declared) (Ranged f i) = (f ≡ e) × IsWithin i declared
FitsRange e None (Ranged f i) = ⊥
FitsRange e (Some declared) Flag = ⊥

-- Every such value may be stored in the scalar.
abbrev pub Fits : Scalar → Known → Type 0
Fits s = FitsRange s.elementary (range s)

-- A scalar variable has the stored range from then on.
abbrev pub after_store : Denotation → Known → NameMap Interval → NameMap Interval
after_store (Direct name s) (Ranged e i) variables = insert variables name i
after_store _ _ variables = variables

-- Operations: for all values in the ranges, none traps, and what they give is known --

-- A result within its type.
abbrev pub FitsType : Elementary → Interval → Type 0
FitsType e i = WithInterval (numbers_of e) (λ j. IsWithin i j)

-- The interval has what the operation gives; of MOD the whole range of its table.
abbrev pub GivesWithin : ArithmeticKind → Interval → Interval → Interval → Type 0
GivesWithin Div i j r = IsWithoutZero j × Holds int_div i j r
GivesWithin Mod i j r = IsWithoutZero j × IsWithin (interval_mod i j) r
GivesWithin kind i j r = Holds (arithmetic kind) i j r

-- Some interval within the type has what an operation gives.
abbrev pub WithNumber : Elementary → (Interval → Type 0) → (Known → Type 0) → Type 0
WithNumber e holds go = (r : Interval) × holds r × FitsType e r × go (Ranged e r)

-- EQ and NE alone compare Booleans.
abbrev pub ComparesFlags : ComparisonKind → Type 0
ComparesFlags Equal = Unit {0}
ComparesFlags NotEqual = Unit {0}
ComparesFlags _ = ⊥

-- `left OP right` for all values of both.
abbrev pub WithOperated : Operator → Known → Known → (Known → Type 0) → Type 0
WithOperated (Logic kind negated) Flag Flag go = go Flag
WithOperated (Logic kind negated) _ _ go = ⊥
WithOperated (Arithmetic kind) (Ranged e i) (Ranged f j) go =
    IsTrue (takes kind e) × (e ≡ f) × WithNumber e (λ r. GivesWithin kind i j r) go
WithOperated (Arithmetic kind) _ _ go = ⊥
WithOperated (Comparison kind) (Ranged e i) (Ranged f j) go = (e ≡ f) × go Flag
WithOperated (Comparison kind) Flag Flag go = ComparesFlags kind × go Flag
WithOperated (Comparison kind) _ _ go = ⊥

-- SEL gives both of its inputs.
abbrev pub WithSelected : Known → Known → (Known → Type 0) → Type 0
WithSelected Flag Flag go = go Flag
WithSelected (Ranged e i) (Ranged f j) go = (e ≡ f) × ((r : Interval) × IsWithin i r × IsWithin j r × FitsType e r × go (Ranged e r))
WithSelected _ _ go = ⊥

-- A standard function for all values of its arguments.
abbrev pub WithApplied : StandardFunction → Known → List Known → (Known → Type 0) → Type 0
WithApplied Absolute (Ranged e i) [] go = IsTrue (is_whole e) × WithNumber e (λ r. Holds1 absolute i r) go
WithApplied Minimum (Ranged e i) (Ranged f j ∷ []) go = (e ≡ f) × WithNumber e (λ r. Holds int_min i j r) go
WithApplied Maximum (Ranged e i) (Ranged f j ∷ []) go = (e ≡ f) × WithNumber e (λ r. Holds int_max i j r) go
WithApplied Limited (Ranged e i) (Ranged f j ∷ Ranged g k ∷ []) go = (e ≡ f) × (e ≡ g) × WithNumber e (λ r. Holds3 limited i j k r) go
WithApplied Selected Flag (in0 ∷ in1 ∷ []) go = WithSelected in0 in1 go
WithApplied (Converted from to) (Ranged e i) [] go = (e ≡ from) × FitsType to i × go (Ranged to i)
WithApplied _ _ _ go = ⊥

-- Instructions --

-- A place of a unit with what is known at it.
pub record Spot : Type 0 where
  pub config : Config
  pub unit : ProgramUnit
  pub annotation : Annotation
  pub place : ℕ
  pub known : Knowledge

-- What an operand is in the spot's unit.
abbrev pub spot_denotation : Spot → Operand → Denotation
spot_denotation s o = denotation s.config s.unit o.reference

-- What is known, by its parts.
abbrev pub knowledge : NameMap Interval → Option Known → List KnownDeferred → Knowledge
knowledge variables result deferred = record { variables = variables; result = result; deferred = deferred }

-- What is known goes on to the next place.
abbrev pub GoesOn : Spot → NameMap Interval → Option Known → List KnownDeferred → Type 0
GoesOn s variables result deferred = Leads s.annotation (s.place + 1) (knowledge variables result deferred)

-- Only the result changes.
abbrev pub GoesOnWith : Spot → Option Known → Type 0
GoesOnWith s result = GoesOn s s.known.variables result s.known.deferred

-- The operand of LD and of a short form.
abbrev pub WithLoaded : Spot → Operand → (Known → Type 0) → Type 0
WithLoaded s o = WithOperand s.known.variables (natural (spot_denotation s o)) (spot_denotation s o)

-- LD and LDN pass the operand on.
abbrev pub IsLoaded : Spot → Bool → Known → Type 0
IsLoaded s false k = GoesOnWith s (Some k)
IsLoaded s true Flag = GoesOnWith s (Some Flag)
IsLoaded s true (Ranged e i) = ⊥

-- STN, S and R take Booleans alone.
abbrev pub IsStored : Spot → StoreKind → Denotation → Known → Type 0
IsStored s Plain m k = WithTarget s.known.variables m (λ scalar. Fits scalar k) × GoesOn s (after_store m k s.known.variables) s.known.result s.known.deferred
IsStored s _ m Flag = WithTarget s.known.variables m (λ scalar. Fits scalar Flag) × GoesOnWith s s.known.result
IsStored s _ m (Ranged e i) = ⊥

-- The type of a bare literal after an operator: that of the current result.
abbrev pub operand_context : Spot → Operand → Known → Elementary
operand_context s operand Flag = natural (spot_denotation s operand)
operand_context s operand (Ranged e i) = e

-- An operator takes the current result and an operand.
abbrev pub IsOperated : Spot → Operator → Operand → Known → Type 0
IsOperated s operator operand left =
    WithOperand s.known.variables (operand_context s operand left) (spot_denotation s operand) (λ right. WithOperated operator left right (λ k. GoesOnWith s (Some k)))

-- `OP(` sets the result aside, and loads the operand of a short form.
abbrev pub IsSetAside : Spot → Operator → Option Operand → Known → Type 0
IsSetAside s operator None left = GoesOn s s.known.variables None (record { operator = operator; left = left } ∷ s.known.deferred)
IsSetAside s operator (Some first) left =
    WithLoaded s first (λ k. GoesOn s s.known.variables (Some k) (record { operator = operator; left = left } ∷ s.known.deferred))

-- `)` evaluates the innermost deferred operation.
abbrev pub IsEvaluated : Spot → List KnownDeferred → Known → Type 0
IsEvaluated s [] right = ⊥
IsEvaluated s (d ∷ ds) right = WithOperated d.operator d.left right (λ k. GoesOn s s.known.variables (Some k) ds)

-- C and CN ask for a Boolean.
abbrev pub HasCondition : Condition → Option Known → Type 0
HasCondition Always result = Unit {0}
HasCondition _ result = result ≡ Some Flag

-- An instruction that may not act goes on with this result.
abbrev pub MayPass : Spot → Condition → Option Known → Type 0
MayPass s Always result = Unit {0}
MayPass s _ result = GoesOnWith s result

-- An unconditional jump leaves no result.
abbrev pub result_at_target : Condition → Option Known → Option Known
result_at_target Always result = None
result_at_target _ result = result

-- What is known lies in the ranges of a label's place.
abbrev pub LeadsTo : Spot → Option ℕ → Knowledge → Type 0
LeadsTo s None k = ⊥
LeadsTo s (Some place) k = Leads s.annotation place k

-- Whether the result is TRUE where a jump acts.
abbrev pub acts_at : Condition → Bool
acts_at WhenFalse = false
acts_at _ = true

-- The variables with what an outcome of a test leaves of the range of its variable; none where it leaves nothing.
abbrev pub narrowed_by : Test → Bool → Option Interval → NameMap Interval → Option (NameMap Interval)
narrowed_by t holds None variables = Some variables
narrowed_by t holds (Some i) variables = option_map (insert variables t.name) (interval_narrow t.comparison holds i t.number)

-- The same of a test that may not be there.
abbrev pub narrowed : Option Test → Bool → NameMap Interval → Option (NameMap Interval)
narrowed None holds variables = Some variables
narrowed (Some t) holds variables = narrowed_by t holds (get variables t.name) variables

-- The variables on one side of a jump: where the result is so.
abbrev pub side : Spot → Bool → Option (NameMap Interval)
side s holds = narrowed (test_at s.config s.unit s.place) holds s.known.variables

-- A side of a jump without values asks nothing.
abbrev pub WithSide : Option (NameMap Interval) → (NameMap Interval → Type 0) → Type 0
WithSide None go = Unit {0}
WithSide (Some variables) go = go variables

-- Where a jump acts, what is known goes on to its label's place.
abbrev pub IsJumped : Spot → Condition → Option ℕ → Type 0
IsJumped s condition place =
    WithSide (side s (acts_at condition)) (λ variables. LeadsTo s place (knowledge variables (result_at_target condition s.known.result) s.known.deferred))

-- Where it does not, to the next place.
abbrev pub IsPassed : Spot → Condition → Type 0
IsPassed s Always = Unit {0}
IsPassed s condition = WithSide (side s (not (acts_at condition))) (λ variables. GoesOn s variables s.known.result s.known.deferred)

-- The arguments of a call lie in the inputs' declared ranges, and the outputs' declared ranges in their targets'.
abbrev pub FitArguments : Spot → Text → List Argument → Type 0
FitArguments s block [] = Unit {0}
FitArguments s block (Input word operand ∷ more) =
    WithScalarForm (entry_of (inputs_of (block_variables s.config block)) word.name) (λ scalar.
    WithOperand s.known.variables scalar.elementary (spot_denotation s operand) (λ k. Fits scalar k)) × FitArguments s block more
FitArguments s block (Output word to ∷ more) =
    WithScalarForm (entry_of (outputs_of (block_variables s.config block)) word.name) (λ scalar.
    WithTarget s.known.variables (denotation s.config s.unit (Variable to.name)) (λ aim. Fits aim (declared_known scalar))) × FitArguments s block more

-- The variables after one output is copied.
abbrev pub after_output : Option Form → Denotation → NameMap Interval → NameMap Interval
after_output (Some (ScalarForm scalar)) m variables = after_store m (declared_known scalar) variables
after_output _ m variables = variables

-- Each target of an output has the output's declared range, the last in the written order for a target that is twice.
abbrev pub after_outputs : Spot → Text → List Argument → NameMap Interval → NameMap Interval
after_outputs s block [] variables = variables
after_outputs s block (Input word operand ∷ more) variables = after_outputs s block more variables
after_outputs s block (Output word to ∷ more) variables =
    after_outputs s block more (after_output (entry_of (outputs_of (block_variables s.config block)) word.name) (denotation s.config s.unit (Variable to.name)) variables)

-- A call of a block that acts.
abbrev pub IsCalled : Spot → List Argument → Option Form → Type 0
IsCalled s arguments (Some (BlockForm block)) =
    FitArguments s block arguments × GoesOn s (after_outputs s block arguments s.known.variables) None s.known.deferred
IsCalled s arguments _ = ⊥

-- The type of a bare literal among a function's further arguments.
abbrev pub known_argument_type : StandardFunction → Known → Denotation → Elementary
known_argument_type Selected first m = natural m
known_argument_type _ (Ranged e i) m = e
known_argument_type _ Flag m = natural m

-- The further arguments of a standard function.
abbrev pub WithStandardArguments : Spot → StandardFunction → Known → List Operand → (List Known → Type 0) → Type 0
WithStandardArguments s f first [] go = go []
WithStandardArguments s f first (o ∷ os) go =
    WithOperand s.known.variables (known_argument_type f first (spot_denotation s o)) (spot_denotation s o) (λ k. WithStandardArguments s f first os (λ ks. go (k ∷ ks)))

-- The further arguments of an own function lie in the inputs' declared ranges.
abbrev pub FitInputs : Spot → List (Text × Form) → List Operand → Type 0
FitInputs s [] [] = Unit {0}
FitInputs s (e ∷ es) (o ∷ os) =
    WithScalarForm (Some e.1) (λ scalar. WithOperand s.known.variables scalar.elementary (spot_denotation s o) (λ k. Fits scalar k)) × FitInputs s es os
FitInputs s _ _ = ⊥

-- The current result fits a function's first input.
abbrev pub FitsFirst : List (Text × Form) → Known → Type 0
FitsFirst [] k = ⊥
FitsFirst (e ∷ es) k = WithScalarForm (Some e.1) (λ scalar. Fits scalar k)

-- After a call of an own function the result has the declared range of the function's type.
abbrev pub IsResultOf : Spot → UnitKind → Type 0
IsResultOf s (Function scalar place) = GoesOnWith s (Some (declared_known scalar))
IsResultOf s FunctionBlock = ⊥
IsResultOf s Program = ⊥

-- A call of a function, standard or own.
abbrev pub IsInvoked : Spot → Option StandardFunction → Option ProgramUnit → List Operand → Known → Type 0
IsInvoked s (Some f) u operands first = WithStandardArguments s f first operands (λ ks. WithApplied f first ks (λ k. GoesOnWith s (Some k)))
IsInvoked s None (Some u) operands first =
    FitsFirst (named_forms u.inputs) first × FitInputs s (rest_of (named_forms u.inputs)) operands × IsResultOf s u.kind
IsInvoked s None None operands first = ⊥

-- A jump is outside of parentheses, so nothing is set aside there (3.2.2). At the jump of a test both sides have what its comparison leaves.
-- For all values in the ranges of the place the instruction does not trap, and what it gives lies in the ranges of every successor.
abbrev pub Passes : Spot → Instruction → Type 0
Passes s (Load negated operand) = WithLoaded s operand (λ k. IsLoaded s negated k)
Passes s (Store kind to) = WithKnownResult s.known.result (λ k. IsStored s kind (spot_denotation s to) k)
Passes s Not = (s.known.result ≡ Some Flag) × GoesOnWith s (Some Flag)
Passes s (Operate operator operand) = WithKnownResult s.known.result (λ left. IsOperated s operator operand left)
Passes s (Defer operator first) = WithKnownResult s.known.result (λ left. IsSetAside s operator first left)
Passes s Evaluate = WithKnownResult s.known.result (λ right. IsEvaluated s s.known.deferred right)
Passes s (Jump condition label) =
    (s.known.deferred ≡ [])
    × HasCondition condition s.known.result
    × IsJumped s condition (label_place s.unit.body label.name)
    × IsPassed s condition
Passes s (Return condition) = HasCondition condition s.known.result × MayPass s condition s.known.result
Passes s (Call condition instance arguments) =
    HasCondition condition s.known.result × IsCalled s arguments (form_named s.config s.unit instance.name) × MayPass s condition None
Passes s (Invoke function operands) =
    WithKnownResult s.known.result (λ first. IsInvoked s (standard_function function.name) (function_named s.config function.name) operands first)

-- The annotation holds at each place below the bound; where nothing is known, nothing is asked.
pub record IsAnnotatedBelow (config : Config) (unit : ProgramUnit) (bound : ℕ) (annotation : Annotation) : Type 0 where
  pub entry : (first : Knowledge) × (slice_get annotation 0 ≡ Some (Some first)) × IsEntry config unit first
  pub each : (place : ℕ) (k : Knowledge) → place < bound → slice_get annotation place ≡ Some (Some k)
      → Passes (record { config = config; unit = unit; annotation = annotation; place = place; known = k }) (instruction_at unit.body place)

-- How many places a body has, the return after the last instruction among them.
abbrev pub places : ProgramUnit → ℕ
places u = length u.body.steps + 1

-- The annotation holds in the whole unit.
abbrev pub IsAnnotated : Config → ProgramUnit → Annotation → Type 0
IsAnnotated c u = IsAnnotatedBelow c u (places u)

-- Every unit has an annotation.
abbrev pub Annotated : Config → Type 0
Annotated c = (u : ProgramUnit) → Contains c.units u → (a : Annotation) × IsAnnotated c u a

-- No annotation holds up to and including the place, and one holds before it: the place at which a unit is refused.
pub record IsFirstWithout (config : Config) (unit : ProgramUnit) (place : ℕ) : Type 0 where
  pub before : (a : Annotation) × IsAnnotatedBelow config unit place a
  pub none : (a : Annotation) → ¬ (IsAnnotatedBelow config unit (place + 1) a)
