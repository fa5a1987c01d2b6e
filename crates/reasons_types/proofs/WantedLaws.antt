-- The type that a current result must have is the only one with which an instruction breaks nothing.
use Rattle.std.proofs.Common.{◌≡◌, ℕ, Bool, true, false, ◌&&◌, if◌then◌else◌, List, [], ◌∷◌, ◌++◌, Option, Some, None, refl, sym, ap, ◌∙◌}
use Rattle.il_syntax.specs.declared.tree.Condition.{Condition}
use Rattle.il_syntax.specs.declared.tree.Condition.TheVariants.{Always, WhenTrue, WhenFalse}
use Rattle.il_syntax.specs.declared.tree.Config.{Config}
use Rattle.il_syntax.specs.declared.tree.Elementary.{Elementary}
use Rattle.il_syntax.specs.declared.tree.Elementary.TheVariants.{Bool as Boolean}
use Rattle.il_syntax.specs.declared.tree.Form.{Form}
use Rattle.il_syntax.specs.declared.tree.Instruction.{Instruction}
use Rattle.il_syntax.specs.declared.tree.Instruction.TheVariants.{Load, Store as StoreInto, Not, Operate, Defer, Evaluate, Jump, Return, Call, Invoke}
use Rattle.il_syntax.specs.declared.tree.Operand.{Operand}
use Rattle.il_syntax.specs.declared.tree.Operator.{Operator}
use Rattle.il_syntax.specs.declared.tree.Operator.TheVariants.{Logic as LogicOperator, Arithmetic as ArithmeticOperator, Comparison as ComparisonOperator}
use Rattle.il_syntax.specs.declared.tree.Reference.{Reference}
use Rattle.il_syntax.specs.declared.tree.Store.{Store}
use Rattle.il_syntax.specs.declared.tree.Store.TheVariants.{Plain, Negated, Set, Reset}
use Rattle.il_syntax.specs.declared.tree.Unit.{Unit as ProgramUnit}
use Rattle.il_syntax.specs.ElementaryTypes.{is_same_type, is_whole}
use Rattle.il_statics.specs.declared.names.StandardFunction.{StandardFunction}
use Rattle.il_statics.specs.declared.names.StandardFunction.TheVariants.{Absolute, Minimum, Maximum, Limited, Selected, Converted}
use Rattle.il_statics.specs.Names.{Spelling, standard_function, function_named, named_forms}
use Rattle.il_statics.specs.Declarations.{unless}
use Rattle.il_statics.specs.Types as rules
use Rattle.il_statics.specs.Types.{difference_numbers, Deferred, typing_numbers, reference_type, scalar_type}
use Rattle.il_statics.proofs.Alike.{same_type}
use Rattle.reasons_types.specs.TypeReasons.{tested_type, stored_type, operated_type, standard_type, first_type, function_type, wanted_type}

front_none : (xs ys : List ℕ) → xs ++ ys ≡ [] → xs ≡ []
front_none [] ys e = refl
front_none (x ∷ xs) ys e = absurd (let bad : x ∷ (xs ++ ys) ≡ [] = e in cc)

back_none : (xs ys : List ℕ) → xs ++ ys ≡ [] → ys ≡ []
back_none [] ys e = e
back_none (x ∷ xs) ys e = absurd (let bad : x ∷ (xs ++ ys) ≡ [] = e in cc)

abbrev numbers : Bool → Bool → List ℕ
numbers same whole = if same then [] else (if whole then 31 ∷ [] else 30 ∷ [])

differs : (found wanted : Elementary) → difference_numbers found wanted ≡ [] → found ≡ wanted
differs found wanted e = by (is_same_type found wanted) (is_whole found && is_whole wanted) refl e
  where
    by : (same whole : Bool) → is_same_type found wanted ≡ same → numbers same whole ≡ [] → found ≡ wanted
    by true whole is e = same_type found wanted is
    by false true is e = absurd (let bad : 31 ∷ [] ≡ [] = e in cc)
    by false false is e = absurd (let bad : 30 ∷ [] ≡ [] = e in cc)

same_some : {A : Type 0} (a b : A) → Some a ≡ Some b → a ≡ b
same_some a b e = cc

never : {A : Type 0} {P : Type 0} (x : A) → None ≡ Some x → P
never x e = absurd (let bad : None ≡ Some x = e in cc)

-- a BOOL is wanted
boolean : (found wanted : Elementary) → Some Boolean ≡ Some wanted → difference_numbers found Boolean ≡ [] → found ≡ wanted
boolean found wanted is e = differs found Boolean e ∙ same_some Boolean wanted is

tested : (condition : Condition) (found wanted : Elementary) → tested_type condition ≡ Some wanted → rules.condition_numbers condition (Some found) ≡ [] → found ≡ wanted
tested Always found wanted is e = never wanted is
tested WhenTrue found wanted is e = boolean found wanted is e
tested WhenFalse found wanted is e = boolean found wanted is e

unless_none : (test : Bool) (n : ℕ) → unless test n ≡ [] → test ≡ true
unless_none true n e = refl
unless_none false n e = absurd (let bad : n ∷ [] ≡ [] = e in cc)

stored : (c : Config) (unit : ProgramUnit) (store : Store) (target : Reference) (found wanted : Elementary) → stored_type store (reference_type c unit target) ≡ Some wanted → rules.store_type_numbers c unit store target (Some found) ≡ [] → found ≡ wanted
stored c unit Plain target found wanted is e = sym (differs wanted found (ap (λ (o : Option Elementary). rules.any_difference_numbers o found) (sym is) ∙ e))
stored c unit Negated target found wanted is e = boolean found wanted is (front_none (difference_numbers found Boolean) (rules.any_difference_numbers (reference_type c unit target) Boolean) e)
stored c unit Set target found wanted is e = boolean found wanted is (front_none (difference_numbers found Boolean) (rules.any_difference_numbers (reference_type c unit target) Boolean) e)
stored c unit Reset target found wanted is e = boolean found wanted is (front_none (difference_numbers found Boolean) (rules.any_difference_numbers (reference_type c unit target) Boolean) e)

operated : (operator : Operator) (found wanted : Elementary) → operated_type operator ≡ Some wanted → rules.taken_numbers operator (Some found) ≡ [] → found ≡ wanted
operated (LogicOperator logic negated) found wanted is e = same_type found Boolean (unless_none (is_same_type found Boolean) 30 e) ∙ same_some Boolean wanted is
operated (ArithmeticOperator arithmetic) found wanted is e = never wanted is
operated (ComparisonOperator comparison) found wanted is e = never wanted is

standard : (c : Config) (unit : ProgramUnit) (function : StandardFunction) (operands : List Operand) (found wanted : Elementary) → standard_type function ≡ Some wanted → rules.standard_numbers c unit function operands (Some found) ≡ [] → found ≡ wanted
standard c unit Absolute operands found wanted is e = never wanted is
standard c unit Minimum operands found wanted is e = never wanted is
standard c unit Maximum operands found wanted is e = never wanted is
standard c unit Limited operands found wanted is e = never wanted is
standard c unit Selected operands found wanted is e = boolean found wanted is (front_none (difference_numbers found Boolean) (rules.selected_numbers c unit operands) e)
standard c unit (Converted from to) operands found wanted is e = differs found from e ∙ same_some from wanted is

own : (c : Config) (unit : ProgramUnit) (inputs : List (Spelling × Form)) (operands : List Operand) (found wanted : Elementary) → first_type inputs ≡ Some wanted → rules.own_function_numbers c unit inputs operands (Some found) ≡ [] → found ≡ wanted
own c unit [] operands found wanted is e = never wanted is
own c unit (first ∷ others) operands found wanted is e =
    differs found wanted (ap (λ (o : Option Elementary). rules.agreement_numbers o (Some found)) (sym is)
    ∙ front_none (rules.agreement_numbers (scalar_type first.1) (Some found)) _ (front_none (rules.agreement_numbers (scalar_type first.1) (Some found) ++ _) _ e))

invoked : (c : Config) (unit : ProgramUnit) (f : Option StandardFunction) (o : Option ProgramUnit) (operands : List Operand) (found wanted : Elementary) → function_type f o ≡ Some wanted → rules.function_numbers c unit f o operands (Some found) ≡ [] → found ≡ wanted
invoked c unit (Some function) o operands found wanted is e = standard c unit function operands found wanted is (back_none _ (rules.standard_numbers c unit function operands (Some found)) e)
invoked c unit None (Some u) operands found wanted is e = own c unit (named_forms u.inputs) operands found wanted is e
invoked c unit None None operands found wanted is e = never wanted is

-- with no other type an instruction breaks nothing
pub wanted_only : (c : Config) (unit : ProgramUnit) (instruction : Instruction) (deferred : Option Deferred) (found wanted : Elementary)
    → wanted_type c unit instruction ≡ Some wanted → typing_numbers c unit instruction (Some found) deferred ≡ [] → found ≡ wanted
unfolding typing_numbers
wanted_only c unit (Load negated operand) deferred found wanted is e = never wanted is
wanted_only c unit (StoreInto store target) deferred found wanted is e = stored c unit store target.reference found wanted is (back_none _ (rules.store_type_numbers c unit store target.reference (Some found)) e)
wanted_only c unit Not deferred found wanted is e = boolean found wanted is e
wanted_only c unit (Operate operator operand) deferred found wanted is e = operated operator found wanted is (front_none (rules.taken_numbers operator (Some found)) _ e)
wanted_only c unit (Defer operator first) deferred found wanted is e = never wanted is
wanted_only c unit Evaluate deferred found wanted is e = never wanted is
wanted_only c unit (Jump condition label) deferred found wanted is e = tested condition found wanted is e
wanted_only c unit (Return condition) deferred found wanted is e = tested condition found wanted is e
wanted_only c unit (Call condition instance arguments) deferred found wanted is e = tested condition found wanted is (front_none (rules.condition_numbers condition (Some found)) _ e)
wanted_only c unit (Invoke function operands) deferred found wanted is e =
    invoked c unit (standard_function function.name) (function_named c function.name) operands found wanted is (back_none _ (rules.function_numbers c unit (standard_function function.name) (function_named c function.name) operands (Some found)) e)
