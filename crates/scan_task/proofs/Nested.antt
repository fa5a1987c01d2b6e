-- A scan sets aside no more operations than parentheses are open.
use Rattle.std.proofs.Common.{◌≡◌, ℕ, zero, suc, ◌+◌, ◌≤◌, Bool, true, false, List, [], ◌∷◌, length, slice_get, refl, sym, ap, ◌∙◌, cond, Option, Some, None, ℤ, subst, arith}
use Rattle.std.specs.Prelude.{Contains, max, not}
use Rattle.std.proofs.lemmas.Option.{same_Some}
use Rattle.std.proofs.lemmas.List.Elements.{All-contains}
use Rattle.il_syntax.specs.declared.tree.Elementary.{Elementary}
use Rattle.il_syntax.specs.declared.tree.Scalar.{Scalar}
use Rattle.il_syntax.specs.declared.tree.Literal.{Literal}
use Rattle.il_syntax.specs.declared.tree.Literal.TheVariants.{Truth, Bare, Whole, Time as Duration}
use Rattle.il_syntax.specs.declared.tree.Form.{Form}
use Rattle.il_syntax.specs.declared.tree.Form.TheVariants.{Scalar as ScalarForm, Array as ArrayForm, Block as BlockForm}
use Rattle.il_syntax.specs.declared.tree.Operand.{Operand}
use Rattle.il_syntax.specs.declared.tree.Reference.TheVariants.{Variable}
use Rattle.il_syntax.specs.declared.tree.Comparison.{Comparison as ComparisonKind}
use Rattle.il_syntax.specs.declared.tree.Comparison.TheVariants.{Greater, GreaterOrEqual, Equal, NotEqual, LessOrEqual, Less}
use Rattle.il_syntax.specs.declared.tree.Operator.{Operator}
use Rattle.il_syntax.specs.declared.tree.Operator.TheVariants.{Logic, Arithmetic, Comparison}
use Rattle.il_syntax.specs.declared.tree.Store.{Store as StoreKind}
use Rattle.il_syntax.specs.declared.tree.Store.TheVariants.{Plain, Negated, Set, Reset}
use Rattle.il_syntax.specs.declared.tree.Condition.{Condition}
use Rattle.il_syntax.specs.declared.tree.Condition.TheVariants.{Always, WhenTrue, WhenFalse}
use Rattle.il_syntax.specs.declared.tree.Argument.{Argument}
use Rattle.il_syntax.specs.declared.tree.Argument.TheVariants.{Input, Output}
use Rattle.il_syntax.specs.declared.tree.Instruction.{Instruction}
use Rattle.il_syntax.specs.declared.tree.Instruction.TheVariants.{Load, Store, Not, Operate, Defer, Evaluate, Jump, Return, Call, Invoke}
use Rattle.il_syntax.specs.declared.tree.Step.{Step as BodyStep}
use Rattle.il_syntax.specs.declared.tree.Unit.{Unit as ProgramUnit}
use Rattle.il_syntax.specs.declared.tree.UnitKind.{UnitKind}
use Rattle.il_syntax.specs.declared.tree.UnitKind.TheVariants.{Function, FunctionBlock, Program}
use Rattle.il_syntax.specs.declared.tree.Config.{Config}
use Rattle.il_syntax.specs.Grammar.{depth_after, greatest_depth}
use Rattle.il_statics.specs.declared.names.StandardFunction.{StandardFunction}
use Rattle.il_statics.specs.declared.names.StandardFunction.TheVariants.{Absolute, Minimum, Maximum, Limited, Selected, Converted}
use Rattle.il_statics.specs.declared.names.StandardBlock.{StandardBlock}
use Rattle.il_statics.specs.Names.{entry_of, standard_block, named_forms, standard_function, unit_named, function_named, function_block_named, form_named}
use Rattle.il_statics.specs.Types.{label_place}
use Rattle.base_maps.specs.NameMap.{Text, get, insert, with_entries}
use Rattle.il_semantics.specs.Values.{is_of}
use Rattle.il_statics.specs.Declarations.{is_within}
use Rattle.il_syntax.specs.ElementaryTypes.{is_whole, is_same_type}
use Rattle.il_syntax.specs.declared.tree.Subrange.{Subrange}
use Rattle.il_semantics.specs.declared.value.Value.{Value}
use Rattle.il_semantics.specs.declared.value.Value.TheVariants.{Boolean, Integer}
use Rattle.il_semantics.specs.declared.value.Content.{Content}
use Rattle.il_semantics.specs.declared.value.Deferred.{Deferred}
use Rattle.il_semantics.specs.State.{Values, Frame, State}
use Rattle.il_semantics.specs.Meaning.{under, element_path, member_path, natural, fresh_values, Denotation, Constant, Direct, Numbered, Indexed, Inside, Unknown, denotation}
use Rattle.il_semantics.specs.Step.{Trap, Outcome, Next, Trapped, Stuck, with_result, with_value, with_boolean, with_integer, with_unit, with_scalar, with_place, provided, WrongKind, OutsideArray, OutsideSubrange, Location, at as at_path, with_location, with_literal, with_kept, with_operand, stored, with_compared, with_number, truth, divides, arithmetic, ZeroDivisor, operated, with_numbers, applied, instruction_or_return, instruction_at, with_acting, Scene, meant, loaded, stored_by, put_aside, evaluated, kept_result, jumped, assigned, copied, begun, called_block, called, called_if, with_standard_arguments, with_arguments, passed, rest_of, invoked, with_function_value, resumed, caller_scene, returned_to, returned_if, executed, step_of, step}
use Rattle.il_semantics.specs.Annotation.{Knowledge, Passes}
use Rattle.il_semantics_laws.specs.Agreement.{Agrees, FramesAgree, AreKnown, FrameAgrees}
use Rattle.scan_loop.specs.Framing.{HasRoom}
use Rattle.il_syntax.specs.declared.tree.Named.{Named}
use Rattle.il_statics.specs.Written.{IsNested}
use Rattle.scan_task.specs.Nesting.{open_at, IsNestedFrame, AreNested}

-- OPEN PARENTHESES

-- after an instruction
open_next : (depth : ℕ) (steps : List BodyStep) (place : ℕ) → open_at depth steps (suc place) ≡ depth_after (open_at depth steps place) (instruction_or_return (slice_get steps place))
open_next depth [] place = refl
open_next depth (s ∷ []) zero = refl
open_next depth (s ∷ t ∷ steps) zero = refl
open_next depth (s ∷ steps) (suc place) = open_next (depth_after depth s.instruction) steps place

-- never more than the greatest number
open_most : (depth : ℕ) (steps : List BodyStep) (place : ℕ) → open_at depth steps place ≤ greatest_depth depth steps
open_most depth [] place = omega arith
open_most depth (s ∷ steps) zero = first depth (greatest_depth (depth_after depth s.instruction) steps)
  where
    first : (a b : ℕ) → a ≤ max a b
    first a b = omega arith
open_most depth (s ∷ steps) (suc place) = second depth (greatest_depth (depth_after depth s.instruction) steps) (open_at (depth_after depth s.instruction) steps place) (open_most (depth_after depth s.instruction) steps place)
  where
    second : (a b n : ℕ) → n ≤ b → n ≤ max a b
    second a b n low = omega (arith, low)

-- OUTCOMES

-- where there is a next state, it is so
abbrev Leads : (State → Type 0) → Outcome → Type 0
Leads P (Next t) = P t
Leads P (Trapped trap) = Unit {0}
Leads P Stuck = Unit {0}

module _ (Q : Outcome → Type 0) (trapped : (trap : Trap) → Q (Trapped trap)) (stuck : Q Stuck) where
  result_so : (o : Option Content) (go : Content → Outcome) → ((c : Content) → Q (go c)) → Q (with_result o go)
  result_so None go all = trapped _
  result_so (Some c) go all = all c

  value_so : (o : Option Value) (go : Value → Outcome) → ((v : Value) → Q (go v)) → Q (with_value o go)
  value_so None go all = stuck
  value_so (Some v) go all = all v

  boolean_so : (v : Value) (go : Bool → Outcome) → ((b : Bool) → Q (go b)) → Q (with_boolean v go)
  boolean_so (Boolean b) go all = all b
  boolean_so (Integer z) go all = trapped _

  integer_so : (v : Value) (go : ℤ → Outcome) → ((z : ℤ) → Q (go z)) → Q (with_integer v go)
  integer_so (Boolean b) go all = trapped _
  integer_so (Integer z) go all = all z

  scalar_so : (o : Option Form) (go : Scalar → Outcome) → ((s : Scalar) → Q (go s)) → Q (with_scalar o go)
  scalar_so None go all = stuck
  scalar_so (Some (ScalarForm s)) go all = all s
  scalar_so (Some (ArrayForm bounds element)) go all = stuck
  scalar_so (Some (BlockForm block)) go all = stuck

  provided_so : (b : Bool) (trap : Trap) (o : Outcome) → Q o → Q (provided b trap o)
  provided_so true trap o all = all
  provided_so false trap o all = trapped _

  location_so : (path : Text) (values : Values) (m : Denotation) (go : Location → Outcome) → ((l : Location) → Q (go l)) → Q (with_location path values m go)
  location_so path values (Constant l) go all = stuck
  location_so path values (Direct name s) go all = all _
  location_so path values (Numbered name bounds element z) go all = provided_so _ _ _ (all _)
  location_so path values (Indexed name bounds element variable s) go all =
      provided_so (is_whole s.elementary) WrongKind (with_value (get values (under path variable)) (reads name bounds element)) (value_so (get values (under path variable)) (reads name bounds element) (λ v. integer_so v (aims name bounds element) (λ z. provided_so (is_within bounds z) OutsideArray (go (at_path (element_path (under path name) z) element)) (all (at_path (element_path (under path name) z) element)))))
    where
      aims : Text → Subrange → Scalar → ℤ → Outcome
      aims name bounds element z = provided (is_within bounds z) OutsideArray (go (at_path (element_path (under path name) z) element))

      reads : Text → Subrange → Scalar → Value → Outcome
      reads name bounds element v = with_integer v (aims name bounds element)
  location_so path values (Inside instance word s) go all = all _
  location_so path values Unknown go all = stuck

  literal_so : (e : Elementary) (l : Literal) (go : Content → Outcome) → ((c : Content) → Q (go c)) → Q (with_literal e l go)
  literal_so e (Truth b) go all = all _
  literal_so e (Bare z) go all = provided_so _ _ _ (all _)
  literal_so e (Whole written z) go all = all _
  literal_so e (Duration z) go all = all _

  kept_so : (values : Values) (l : Location) (go : Content → Outcome) → ((c : Content) → Q (go c)) → Q (with_kept values l go)
  kept_so values l go all = value_so _ _ (λ v. all _)

  operand_so : (e : Elementary) (path : Text) (values : Values) (m : Denotation) (go : Content → Outcome) → ((c : Content) → Q (go c)) → Q (with_operand e path values m go)
  operand_so e path values (Constant l) go all = literal_so e l go all
  operand_so e path values (Direct name s) go all = location_so path values (Direct name s) _ (λ l. kept_so values l go all)
  operand_so e path values (Numbered name bounds element z) go all = location_so path values (Numbered name bounds element z) _ (λ l. kept_so values l go all)
  operand_so e path values (Indexed name bounds element variable s) go all = location_so path values (Indexed name bounds element variable s) _ (λ l. kept_so values l go all)
  operand_so e path values (Inside instance word s) go all = location_so path values (Inside instance word s) _ (λ l. kept_so values l go all)
  operand_so e path values Unknown go all = stuck

  stored_so : (values : Values) (l : Location) (c : Content) (go : Values → Outcome) → ((after : Values) → Q (go after)) → Q (stored values l c go)
  stored_so values l c go all =
      provided_so (is_same_type l.scalar.elementary c.elementary) WrongKind (provided (is_of l.scalar c.value) OutsideSubrange (go (insert values l.path c.value))) (provided_so (is_of l.scalar c.value) OutsideSubrange (go (insert values l.path c.value)) (all (insert values l.path c.value)))

  compared_so : (kind : ComparisonKind) (x y : Value) (go : Bool → Outcome) → ((b : Bool) → Q (go b)) → Q (with_compared kind x y go)
  compared_so kind (Integer x) (Integer y) go all = all _
  compared_so Equal (Boolean x) (Boolean y) go all = all _
  compared_so NotEqual (Boolean x) (Boolean y) go all = all _
  compared_so Greater (Boolean x) (Boolean y) go all = trapped _
  compared_so GreaterOrEqual (Boolean x) (Boolean y) go all = trapped _
  compared_so LessOrEqual (Boolean x) (Boolean y) go all = trapped _
  compared_so Less (Boolean x) (Boolean y) go all = trapped _
  compared_so Equal (Boolean x) (Integer y) go all = trapped _
  compared_so NotEqual (Boolean x) (Integer y) go all = trapped _
  compared_so Greater (Boolean x) (Integer y) go all = trapped _
  compared_so GreaterOrEqual (Boolean x) (Integer y) go all = trapped _
  compared_so LessOrEqual (Boolean x) (Integer y) go all = trapped _
  compared_so Less (Boolean x) (Integer y) go all = trapped _
  compared_so Equal (Integer x) (Boolean y) go all = trapped _
  compared_so NotEqual (Integer x) (Boolean y) go all = trapped _
  compared_so Greater (Integer x) (Boolean y) go all = trapped _
  compared_so GreaterOrEqual (Integer x) (Boolean y) go all = trapped _
  compared_so LessOrEqual (Integer x) (Boolean y) go all = trapped _
  compared_so Less (Integer x) (Boolean y) go all = trapped _

  number_so : (e : Elementary) (z : ℤ) (go : Content → Outcome) → ((c : Content) → Q (go c)) → Q (with_number e z go)
  number_so e z go all = provided_so _ _ _ (all _)

  operated_so : (operator : Operator) (left right : Content) (go : Content → Outcome) → ((c : Content) → Q (go c)) → Q (operated operator left right go)
  operated_so (Logic kind negated) left right go all = boolean_so left.value _ (λ a. boolean_so right.value _ (λ b. all _))
  operated_so (Arithmetic kind) left right go all = provided_so _ _ _ (integer_so left.value _ (λ x. integer_so right.value _ (λ y. provided_so (divides kind y) ZeroDivisor (with_number left.elementary (arithmetic kind x y) go) (number_so left.elementary (arithmetic kind x y) go all))))
  operated_so (Comparison kind) left right go all = provided_so _ _ _ (compared_so kind left.value right.value _ (λ b. all _))

  numbers_so : (a b : Content) (go : ℤ → ℤ → Outcome) → ((x y : ℤ) → Q (go x y)) → Q (with_numbers a b go)
  numbers_so a b go all = provided_so _ _ _ (integer_so a.value _ (λ x. integer_so b.value _ (λ y. all x y)))

  applied_so : (f : StandardFunction) (c : Content) (cs : List Content) (go : Content → Outcome) → ((d : Content) → Q (go d)) → Q (applied f c cs go)
  applied_so Absolute c [] go all = provided_so _ _ _ (integer_so c.value _ (λ z. provided_so _ _ _ (all _)))
  applied_so Absolute c (d ∷ ds) go all = stuck
  applied_so Minimum c [] go all = stuck
  applied_so Minimum c (d ∷ []) go all = numbers_so c d _ (λ x y. all _)
  applied_so Minimum c (d ∷ e ∷ ds) go all = stuck
  applied_so Maximum c [] go all = stuck
  applied_so Maximum c (d ∷ []) go all = numbers_so c d _ (λ x y. all _)
  applied_so Maximum c (d ∷ e ∷ ds) go all = stuck
  applied_so Limited c [] go all = stuck
  applied_so Limited c (d ∷ []) go all = stuck
  applied_so Limited c (d ∷ e ∷ []) go all = numbers_so c d _ (λ x y. numbers_so c e _ (λ z w. all _))
  applied_so Limited c (d ∷ e ∷ f ∷ ds) go all = stuck
  applied_so Selected c [] go all = stuck
  applied_so Selected c (d ∷ []) go all = stuck
  applied_so Selected c (d ∷ e ∷ []) go all = provided_so _ _ _ (boolean_so c.value _ (λ g. all _))
  applied_so Selected c (d ∷ e ∷ f ∷ ds) go all = stuck
  applied_so (Converted from to) c [] go all = provided_so _ _ _ (integer_so c.value _ (λ z. provided_so _ _ _ (all _)))
  applied_so (Converted from to) c (d ∷ ds) go all = stuck

  acting_so : (condition : Condition) (result : Option Content) (go : Bool → Outcome) → ((b : Bool) → Q (go b)) → Q (with_acting condition result go)
  acting_so Always result go all = all true
  acting_so WhenTrue result go all = result_so result _ (λ c. boolean_so c.value go all)
  acting_so WhenFalse result go all = result_so result _ (λ c. boolean_so c.value _ (λ b. all (not b)))

  loaded_so : (negated : Bool) (c : Content) (go : Content → Outcome) → ((d : Content) → Q (go d)) → Q (loaded negated c go)
  loaded_so false c go all = all c
  loaded_so true c go all = boolean_so c.value _ (λ b. all _)

  stores_so : (kind : StoreKind) (values : Values) (l : Location) (c : Content) (go : Values → Outcome) → ((after : Values) → Q (go after)) → Q (stored_by kind values l c go)
  stores_so Plain values l c go all = stored_so values l c go all
  stores_so Negated values l c go all = boolean_so c.value _ (λ b. stored_so values l (truth (not b)) go all)
  stores_so Set values l c go all = boolean_so c.value _ (λ b. stored_so values l (truth true) (λ after. go (cond b after values)) (λ after. all (cond b after values)))
  stores_so Reset values l c go all = boolean_so c.value _ (λ b. stored_so values l (truth false) (λ after. go (cond b after values)) (λ after. all (cond b after values)))

  assigned_so : (s : Scene) (path : Text) (inputs : List (Text × Form)) (arguments : List Argument) (values : Values) (go : Values → Outcome) → ((after : Values) → Q (go after)) → Q (assigned s path inputs arguments values go)
  assigned_so s path inputs [] values go all = all values
  assigned_so s path inputs (Output word to ∷ more) values go all = assigned_so s path inputs more values go all
  assigned_so s path inputs (Input word operand ∷ more) values go all =
      scalar_so (entry_of inputs word.name) _ (λ scalar. operand_so scalar.elementary s.frame.path values (meant s operand) _ (λ c. stored_so values _ c _ (λ after. assigned_so s path inputs more after go all)))

  copied_so : (s : Scene) (path : Text) (outputs : List (Text × Form)) (arguments : List Argument) (values : Values) (go : Values → Outcome) → ((after : Values) → Q (go after)) → Q (copied s path outputs arguments values go)
  copied_so s path outputs [] values go all = all values
  copied_so s path outputs (Input word operand ∷ more) values go all = copied_so s path outputs more values go all
  copied_so s path outputs (Output word to ∷ more) values go all =
      scalar_so (entry_of outputs word.name) _ (λ scalar. kept_so values (at_path (member_path path word.name) scalar) _ (λ c. location_so s.frame.path values (denotation s.config s.unit (Variable to.name)) _ (λ l. stored_so values l c _ (λ after. copied_so s path outputs more after go all))))

  further_so : (s : Scene) (f : StandardFunction) (first : Content) (os : List Operand) (go : List Content → Outcome) → ((cs : List Content) → Q (go cs)) → Q (with_standard_arguments s f first os go)
  further_so s f first [] go all = all []
  further_so s f first (o ∷ os) go all = operand_so _ s.frame.path s.values (meant s o) _ (λ c. further_so s f first os _ (λ cs. all (c ∷ cs)))

  arguments_so : (s : Scene) (es : List (Text × Form)) (os : List Operand) (go : List Content → Outcome) → ((cs : List Content) → Q (go cs)) → Q (with_arguments s es os go)
  arguments_so s [] [] go all = all []
  arguments_so s [] (o ∷ os) go all = stuck
  arguments_so s (e ∷ es) [] go all = stuck
  arguments_so s (e ∷ es) (o ∷ os) go all = scalar_so (Some e.1) _ (λ scalar. operand_so scalar.elementary s.frame.path s.values (meant s o) _ (λ c. arguments_so s es os _ (λ cs. all (c ∷ cs))))

  passed_so : (path : Text) (es : List (Text × Form)) (cs : List Content) (values : Values) (go : Values → Outcome) → ((after : Values) → Q (go after)) → Q (passed path es cs values go)
  passed_so path [] [] values go all = all values
  passed_so path [] (c ∷ cs) values go all = stuck
  passed_so path (e ∷ es) [] values go all = stuck
  passed_so path (e ∷ es) (c ∷ cs) values go all = scalar_so (Some e.1) _ (λ scalar. stored_so values _ c _ (λ after. passed_so path es cs after go all))

  function_value_so : (kind : UnitKind) (name : Text) (values : Values) (go : Content → Outcome) → ((c : Content) → Q (go c)) → Q (with_function_value kind name values go)
  function_value_so (Function scalar place) name values go all = kept_so values (at_path (member_path name name) scalar) go all
  function_value_so FunctionBlock name values go all = stuck
  function_value_so Program name values go all = stuck

-- STEPS

same_unit : (o : Option ProgramUnit) (a b : ProgramUnit) → o ≡ Some a → o ≡ Some b → a ≡ b
same_unit o a b e g = same_Some a b (sym e ∙ g)

-- what is known of as many operations as were set aside
no_deferred : (ds : List Deferred) → AreKnown [] ds → length ds ≡ 0
no_deferred [] known = refl
no_deferred (d ∷ ds) known = absurd known

module _ (c : Config) (values : Values) (result : Option Content) where
  abbrev Nested : State → Type 0
  Nested t = AreNested c t.frames

  -- A FRAME GOES ON

  module _ (u : ProgramUnit) (f : Frame) (below : List Frame) (named : unit_named c f.unit ≡ Some u) (inner : AreNested c below) where
    -- at a place where enough parentheses are open
    goes_to_so : (place : ℕ) (ds : List Deferred) → length ds ≤ open_at 0 u.body.steps place → AreNested c ((record { unit = f.unit; path = f.path; place = place; deferred = ds }) ∷ below)
    goes_to_so place ds few = (λ v is. subst (λ (w : ProgramUnit). length ds ≤ open_at 0 w.body.steps place) (same_unit (unit_named c f.unit) u v named is) few, inner)

    -- after an instruction
    behind_so : (i : Instruction) → instruction_at u.body f.place ≡ i → (ds : List Deferred) → length ds ≤ depth_after (open_at 0 u.body.steps f.place) i → AreNested c ((record { unit = f.unit; path = f.path; place = f.place + 1; deferred = ds }) ∷ below)
    behind_so i is ds few =
        let next : open_at 0 u.body.steps (suc f.place) ≡ depth_after (open_at 0 u.body.steps f.place) i = open_next 0 u.body.steps f.place ∙ ap (depth_after (open_at 0 u.body.steps f.place)) is in
        let one : suc f.place ≡ f.place + 1 = omega arith in
        goes_to_so (f.place + 1) ds (subst (λ n. length ds ≤ open_at 0 u.body.steps n) one (omega (arith, few, next)))

  -- a frame below goes on after its call
  resumed_so : (s : Scene) (returned : ProgramUnit) (path : Text) (i : Instruction) → s.config ≡ c → unit_named c s.frame.unit ≡ Some s.unit → instruction_at s.unit.body s.frame.place ≡ i → length s.frame.deferred ≤ open_at 0 s.unit.body.steps s.frame.place → AreNested c s.below
      → Leads Nested (resumed s returned path i)
  resumed_so s returned path (Call condition instance arguments) same named is few inner =
      copied_so (Leads Nested) (λ trap. tt) tt s path (named_forms returned.outputs) arguments s.values _ (λ after. behind_so s.unit s.frame s.below named inner (Call condition instance arguments) is s.frame.deferred few)
  resumed_so s returned path (Invoke function operands) same named is few inner =
      function_value_so (Leads Nested) (λ trap. tt) tt returned.kind returned.name.name s.values _ (λ x. behind_so s.unit s.frame s.below named inner (Invoke function operands) is s.frame.deferred few)
  resumed_so s returned path (Load negated operand) same named is few inner = tt
  resumed_so s returned path (Store kind to) same named is few inner = tt
  resumed_so s returned path Not same named is few inner = tt
  resumed_so s returned path (Operate operator operand) same named is few inner = tt
  resumed_so s returned path (Defer operator first) same named is few inner = tt
  resumed_so s returned path Evaluate same named is few inner = tt
  resumed_so s returned path (Jump condition label) same named is few inner = tt
  resumed_so s returned path (Return condition) same named is few inner = tt

  module _ (u : ProgramUnit) (f : Frame) (below : List Frame) (named : unit_named c f.unit ≡ Some u) (nested : AreNested c (f ∷ below)) where
    abbrev scene : Scene
    scene = record { config = c; unit = u; frame = f; below = below; values = values; result = result }

    few_here : length f.deferred ≤ open_at 0 u.body.steps f.place
    few_here = nested.0 u named

    -- an instruction that opens and closes nothing
    on : (i : Instruction) → instruction_at u.body f.place ≡ i → ((n : ℕ) → depth_after n i ≡ n) → AreNested c ((record { unit = f.unit; path = f.path; place = f.place + 1; deferred = f.deferred }) ∷ below)
    on i is stays = behind_so u f below named nested.1 i is f.deferred (let e = stays (open_at 0 u.body.steps f.place) in let few = few_here in omega (arith, e, few))

    begun_so : (unit path : Text) (after : Values) → Leads Nested (begun scene unit path after)
    begun_so unit path after = ((λ v is. omega arith), nested)

    returned_to_so : (fs : List Frame) → AreNested c fs → Leads Nested (returned_to scene fs)
    returned_to_so [] all = tt
    returned_to_so (g ∷ gs) all = by_unit (unit_named c g.unit) refl
      where
        by_unit : (o : Option ProgramUnit) → unit_named c g.unit ≡ o → Leads Nested (with_unit o (λ v. resumed (caller_scene scene v g gs) u f.path (instruction_at v.body g.place)))
        by_unit None is = tt
        by_unit (Some v) is = resumed_so (caller_scene scene v g gs) u f.path (instruction_at v.body g.place) refl is refl (all.0 v is) all.1

    block_so : (i : Instruction) → instruction_at u.body f.place ≡ i → ((n : ℕ) → depth_after n i ≡ n) → (block path : Text) (arguments : List Argument) (o : Option ProgramUnit) (b : Option StandardBlock) (after : Values) → Leads Nested (called_block scene block path arguments o b after)
    block_so i is stays block path arguments (Some v) b after = begun_so block path after
    block_so i is stays block path arguments None (Some b) after = copied_so (Leads Nested) (λ trap. tt) tt scene path _ arguments _ _ (λ left. on i is stays)
    block_so i is stays block path arguments None None after = tt

    called_so : (i : Instruction) → instruction_at u.body f.place ≡ i → ((n : ℕ) → depth_after n i ≡ n) → (instance : Text) (arguments : List Argument) (o : Option Form) → Leads Nested (called scene instance arguments o)
    called_so i is stays instance arguments None = tt
    called_so i is stays instance arguments (Some (ScalarForm s)) = tt
    called_so i is stays instance arguments (Some (ArrayForm bounds element)) = tt
    called_so i is stays instance arguments (Some (BlockForm block)) =
        assigned_so (Leads Nested) (λ trap. tt) tt scene _ _ arguments values _ (λ after. block_so i is stays block _ arguments (function_block_named c block) (standard_block block) after)

    invoked_so : (i : Instruction) → instruction_at u.body f.place ≡ i → ((n : ℕ) → depth_after n i ≡ n) → (o : Option StandardFunction) (v : Option ProgramUnit) (operands : List Operand) (first : Content) → Leads Nested (invoked scene o v operands first)
    invoked_so i is stays (Some g) v operands first = further_so (Leads Nested) (λ trap. tt) tt scene g first operands _ (λ cs. applied_so (Leads Nested) (λ trap. tt) tt g first cs _ (λ x. on i is stays))
    invoked_so i is stays None (Some v) operands first = arguments_so (Leads Nested) (λ trap. tt) tt scene (rest_of (named_forms v.inputs)) operands _ (λ further. passed_so (Leads Nested) (λ trap. tt) tt v.name.name (named_forms v.inputs) (first ∷ further) (with_entries values (fresh_values c v)) _ (λ after. begun_so v.name.name v.name.name after))
    invoked_so i is stays None None operands first = tt

    aside_so : (operator : Operator) (first : Option Operand) → instruction_at u.body f.place ≡ Defer operator first → (left : Content) → Leads Nested (put_aside scene operator first left)
    aside_so operator None is left = behind_so u f below named nested.1 (Defer operator None) is (record { operator = operator; left = left } ∷ f.deferred) (let few = few_here in omega (arith, few))
    aside_so operator (Some first) is left = operand_so (Leads Nested) (λ trap. tt) tt (natural (meant scene first)) f.path values (meant scene first) _ (λ x. behind_so u f below named nested.1 (Defer operator (Some first)) is (record { operator = operator; left = left } ∷ f.deferred) (let few = few_here in omega (arith, few)))

    evaluated_so : instruction_at u.body f.place ≡ Evaluate → (ds : List Deferred) → f.deferred ≡ ds → (right : Content) → Leads Nested (evaluated scene ds right)
    evaluated_so is [] same right = tt
    evaluated_so is (d ∷ ds) same right =
        operated_so (Leads Nested) (λ trap. tt) tt d.operator d.left right _ (λ x. behind_so u f below named nested.1 Evaluate is ds (let few = few_here in let many = ap length same in closes (length ds) (length f.deferred) (open_at 0 u.body.steps f.place) many few))
      where
        closes : (n m depth : ℕ) → m ≡ suc n → m ≤ depth → n ≤ depth_after depth Evaluate
        closes n m zero many few = let no : ⊥ = omega (arith, many, few) in absurd no
        closes n m (suc depth) many few = omega (arith, many, few)

    jumped_so : (condition : Condition) (label : Text) (i : Instruction) → instruction_at u.body f.place ≡ i → ((n : ℕ) → depth_after n i ≡ n) → length f.deferred ≡ 0 → (b : Bool) → Leads Nested (jumped scene condition label b)
    jumped_so condition label i is stays none true = by_place (label_place u.body label)
      where
        by_place : (o : Option ℕ) → Leads Nested (with_place o (λ place. Next (record { values = values; frames = record { unit = f.unit; path = f.path; place = place; deferred = f.deferred } ∷ below; result = kept_result condition result })))
        by_place None = tt
        by_place (Some place) = goes_to_so u f below named nested.1 place f.deferred (omega (arith, none))
    jumped_so condition label i is stays none false = on i is stays

    returned_so : (condition : Condition) → instruction_at u.body f.place ≡ Return condition → (b : Bool) → Leads Nested (returned_if scene b)
    returned_so condition is true = returned_to_so below nested.1
    returned_so condition is false = on (Return condition) is (λ n. refl)

    call_so : (i : Instruction) → instruction_at u.body f.place ≡ i → ((n : ℕ) → depth_after n i ≡ n) → (instance : Text) (arguments : List Argument) (b : Bool) → Leads Nested (called_if scene instance arguments b)
    call_so i is stays instance arguments true = called_so i is stays instance arguments (form_named c u instance)
    call_so i is stays instance arguments false = on i is stays

    executed_so : (i : Instruction) → instruction_at u.body f.place ≡ i → ((condition : Condition) (label : _) → i ≡ Jump condition label → length f.deferred ≡ 0) → Leads Nested (executed scene i)
    executed_so (Load negated operand) is jumps = operand_so (Leads Nested) (λ trap. tt) tt (natural (meant scene operand)) f.path values (meant scene operand) _ (λ x. loaded_so (Leads Nested) (λ trap. tt) tt negated x _ (λ d. on (Load negated operand) is (λ n. refl)))
    executed_so (Store kind to) is jumps = result_so (Leads Nested) (λ trap. tt) tt result _ (λ x. location_so (Leads Nested) (λ trap. tt) tt f.path values (meant scene to) _ (λ l. stores_so (Leads Nested) (λ trap. tt) tt kind values l x _ (λ after. on (Store kind to) is (λ n. refl))))
    executed_so Not is jumps = result_so (Leads Nested) (λ trap. tt) tt result _ (λ x. boolean_so (Leads Nested) (λ trap. tt) tt x.value _ (λ b. on Not is (λ n. refl)))
    executed_so (Operate operator operand) is jumps =
        result_so (Leads Nested) (λ trap. tt) tt result _ (λ left. operand_so (Leads Nested) (λ trap. tt) tt left.elementary f.path values (meant scene operand) _ (λ right. operated_so (Leads Nested) (λ trap. tt) tt operator left right _ (λ x. on (Operate operator operand) is (λ n. refl))))
    executed_so (Defer operator first) is jumps = result_so (Leads Nested) (λ trap. tt) tt result _ (λ left. aside_so operator first is left)
    executed_so Evaluate is jumps = result_so (Leads Nested) (λ trap. tt) tt result _ (λ right. evaluated_so is f.deferred refl right)
    executed_so (Jump condition label) is jumps = acting_so (Leads Nested) (λ trap. tt) tt condition result _ (λ b. jumped_so condition label.name (Jump condition label) is (λ n. refl) (jumps condition label refl) b)
    executed_so (Return condition) is jumps = acting_so (Leads Nested) (λ trap. tt) tt condition result _ (λ b. returned_so condition is b)
    executed_so (Call condition instance arguments) is jumps = acting_so (Leads Nested) (λ trap. tt) tt condition result _ (λ b. call_so (Call condition instance arguments) is (λ n. refl) instance.name arguments b)
    executed_so (Invoke function operands) is jumps = result_so (Leads Nested) (λ trap. tt) tt result _ (λ first. invoked_so (Invoke function operands) is (λ n. refl) (standard_function function.name) (function_named c function.name) operands first)

-- nothing is set aside where a jump is
nothing_aside : (c : Config) (p : ProgramUnit) (values : Values) (f : Frame) (u : ProgramUnit) (k : Knowledge) → FrameAgrees c p values f u k → (condition : Condition) (label : Named) → instruction_at u.body f.place ≡ Jump condition label → length f.deferred ≡ 0
nothing_aside c p values f u k agrees condition label is =
    let passes : Passes (record { config = c; unit = u; annotation = agrees.annotation; place = f.place; known = k }) (Jump condition label) =
    subst (Passes (record { config = c; unit = u; annotation = agrees.annotation; place = f.place; known = k })) is (agrees.annotated.each f.place k agrees.within agrees.stands) in
    no_deferred f.deferred (subst (λ ds. AreKnown ds f.deferred) passes.0 agrees.deferred)

step_of_so : (c : Config) (p : ProgramUnit) (values : Values) (result : Option Content) (fs : List Frame) → FramesAgree c p values result fs → AreNested c fs → Leads (λ t. AreNested c t.frames) (step_of c values result fs)
step_of_so c p values result [] agree nested = tt
step_of_so c p values result (f ∷ below) agree nested =
    let u = agree.0 in
    let a = agree.2 in
    rw a.named (executed_so c values result u f below a.named nested (instruction_at u.body f.place) refl (λ condition label is. nothing_aside c p values f u agree.1 a condition label is))

-- a step keeps to the parentheses
pub step_nested : (c : Config) (p : ProgramUnit) (s t : State) → Agrees c p s → AreNested c s.frames → step c s ≡ Next t → AreNested c t.frames
unfolding step
step_nested c p s t agrees nested e = subst (Leads (λ x. AreNested c x.frames)) e (step_of_so c p s.values s.result s.frames agrees.frames nested)

-- a frame has room for its operations
few_frame : (c : Config) → IsNested c → (f : Frame) (u : ProgramUnit) → unit_named c f.unit ≡ Some u → Contains c.units u → IsNestedFrame c f → length f.deferred ≤ 16
few_frame c nested f u named among few =
    let most = open_most 0 u.body.steps f.place in
    let limit = All-contains (λ (v : ProgramUnit). greatest_depth 0 v.body.steps ≤ 16) c.units u nested among in
    let here = few u named in
    omega (arith, most, limit, here)

-- the frame that runs has room
pub has_room : (c : Config) (p : ProgramUnit) → IsNested c → (s : State) → Agrees c p s → AreNested c s.frames → HasRoom s.frames
has_room c p nested s agrees all = by_frames s.frames agrees.frames all
  where
    by_frames : (fs : List Frame) → FramesAgree c p s.values s.result fs → AreNested c fs → HasRoom fs
    by_frames [] agree all = tt
    by_frames (f ∷ below) agree all = few_frame c nested f agree.0 agree.2.named agree.2.among all.0
