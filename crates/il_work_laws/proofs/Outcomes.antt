-- What is so of a trap, of no outcome and of every way on is so of the outcome.
use Rattle.std.proofs.Common.{◌≡◌, Bool, true, false, cond, List, [], ◌∷◌, refl, Some, None, Option, ℤ}
use Rattle.std.specs.Prelude.{not}
use Rattle.il_syntax.specs.declared.tree.Elementary.{Elementary}
use Rattle.il_syntax.specs.declared.tree.Scalar.{Scalar}
use Rattle.il_syntax.specs.declared.tree.Literal.{Literal}
use Rattle.il_syntax.specs.declared.tree.Literal.TheVariants.{Truth, Bare, Whole, Time as Duration}
use Rattle.il_syntax.specs.declared.tree.Form.{Form}
use Rattle.il_syntax.specs.declared.tree.Form.TheVariants.{Scalar as ScalarForm, Array as ArrayForm, Block as BlockForm}
use Rattle.il_syntax.specs.declared.tree.Operand.{Operand}
use Rattle.il_syntax.specs.declared.tree.Reference.TheVariants.{Variable}
use Rattle.il_syntax.specs.declared.tree.Comparison.{Comparison as ComparisonKind}
use Rattle.il_syntax.specs.declared.tree.Comparison.TheVariants.{Greater, GreaterOrEqual, Equal, NotEqual, LessOrEqual, Less}
use Rattle.il_syntax.specs.declared.tree.Operator.{Operator}
use Rattle.il_syntax.specs.declared.tree.Operator.TheVariants.{Logic, Arithmetic, Comparison}
use Rattle.il_syntax.specs.declared.tree.Store.{Store as StoreKind}
use Rattle.il_syntax.specs.declared.tree.Store.TheVariants.{Plain, Negated, Set, Reset}
use Rattle.il_syntax.specs.declared.tree.Condition.{Condition}
use Rattle.il_syntax.specs.declared.tree.Condition.TheVariants.{Always, WhenTrue, WhenFalse}
use Rattle.il_syntax.specs.declared.tree.Argument.{Argument}
use Rattle.il_syntax.specs.declared.tree.Argument.TheVariants.{Input, Output}
use Rattle.il_syntax.specs.declared.tree.UnitKind.{UnitKind}
use Rattle.il_syntax.specs.declared.tree.UnitKind.TheVariants.{Function, FunctionBlock, Program}
use Rattle.il_statics.specs.declared.names.StandardFunction.{StandardFunction}
use Rattle.il_statics.specs.declared.names.StandardFunction.TheVariants.{Absolute, Minimum, Maximum, Limited, Selected, Converted}
use Rattle.il_syntax.specs.ElementaryTypes.{is_same_type, is_whole}
use Rattle.il_statics.specs.Declarations.{is_within}
use Rattle.il_semantics.specs.Values.{is_of}
use Rattle.base_maps.specs.NameMap.{Text, get, insert}
use Rattle.il_semantics.specs.declared.value.Value.{Value}
use Rattle.il_semantics.specs.declared.value.Value.TheVariants.{Boolean, Integer}
use Rattle.il_semantics.specs.declared.value.Content.{Content}
use Rattle.il_semantics.specs.State.{Values}
use Rattle.il_semantics.specs.Meaning.{under, element_path, member_path, denotation, Denotation, Constant, Direct, Numbered, Indexed, Inside, Unknown}
use Rattle.il_semantics.specs.Paths.{may_act}
use Rattle.il_semantics.specs.Step.{Trap, Outcome, Trapped, Stuck, with_result, with_value, with_boolean, with_integer, with_scalar, provided, Location, with_location, with_literal, with_kept, with_operand, stored, truth, operated, with_compared, with_number, with_numbers, applied, Scene, loaded, stored_by, with_acting, assigned, copied, with_standard_arguments, with_arguments, passed, with_function_value, at, meant, argument_type, WrongKind, OutsideArray, OutsideSubrange}
use Rattle.il_statics.specs.Names.{entry_of}

module _ (Q : Outcome → Type 0) (trapped : (t : Trap) → Q (Trapped t)) (stuck : Q Stuck) where
  pub of_provided : (b : Bool) (t : Trap) (o : Outcome) → Q o → Q (provided b t o)
  of_provided true t o q = q
  of_provided false t o q = trapped t

  pub of_result : (r : Option Content) (go : Content → Outcome) → ((c : Content) → Q (go c)) → Q (with_result r go)
  of_result None go q = trapped _
  of_result (Some c) go q = q c

  of_value : (v : Option Value) (go : Value → Outcome) → ((v : Value) → Q (go v)) → Q (with_value v go)
  of_value None go q = stuck
  of_value (Some v) go q = q v

  pub of_boolean : (v : Value) (go : Bool → Outcome) → ((b : Bool) → Q (go b)) → Q (with_boolean v go)
  of_boolean (Boolean b) go q = q b
  of_boolean (Integer z) go q = trapped _

  of_integer : (v : Value) (go : ℤ → Outcome) → ((z : ℤ) → Q (go z)) → Q (with_integer v go)
  of_integer (Boolean b) go q = trapped _
  of_integer (Integer z) go q = q z

  of_scalar : (f : Option Form) (go : Scalar → Outcome) → ((s : Scalar) → Q (go s)) → Q (with_scalar f go)
  of_scalar None go q = stuck
  of_scalar (Some (ScalarForm s)) go q = q s
  of_scalar (Some (ArrayForm bounds e)) go q = stuck
  of_scalar (Some (BlockForm b)) go q = stuck

  pub of_location : (path : Text) (values : Values) (m : Denotation) (go : Location → Outcome) → ((l : Location) → Q (go l)) → Q (with_location path values m go)
  of_location path values (Constant l) go q = stuck
  of_location path values (Direct name scalar) go q = q _
  of_location path values (Numbered name bounds element z) go q = of_provided _ _ _ (q _)
  of_location path values (Indexed name bounds element variable scalar) go q =
      of_provided (is_whole scalar.elementary) WrongKind _ (of_value (get values (under path variable)) _ (λ v. of_integer v _ (λ z. of_provided (is_within bounds z) OutsideArray _ (q (at (element_path (under path name) z) element)))))
  of_location path values (Inside instance word scalar) go q = q _
  of_location path values Unknown go q = stuck

  of_literal : (e : Elementary) (l : Literal) (go : Content → Outcome) → ((c : Content) → Q (go c)) → Q (with_literal e l go)
  of_literal e (Truth b) go q = q _
  of_literal e (Bare z) go q = of_provided _ _ _ (q _)
  of_literal e (Whole written z) go q = q _
  of_literal e (Duration z) go q = q _

  of_kept : (values : Values) (l : Location) (go : Content → Outcome) → ((c : Content) → Q (go c)) → Q (with_kept values l go)
  of_kept values l go q = of_value _ _ (λ v. q _)

  pub of_operand : (e : Elementary) (path : Text) (values : Values) (m : Denotation) (go : Content → Outcome) → ((c : Content) → Q (go c)) → Q (with_operand e path values m go)
  of_operand e path values (Constant l) go q = of_literal e l go q
  of_operand e path values (Direct name scalar) go q = of_location path values (Direct name scalar) _ (λ l. of_kept values l go q)
  of_operand e path values (Numbered name bounds element z) go q = of_location path values (Numbered name bounds element z) _ (λ l. of_kept values l go q)
  of_operand e path values (Indexed name bounds element variable scalar) go q = of_location path values (Indexed name bounds element variable scalar) _ (λ l. of_kept values l go q)
  of_operand e path values (Inside instance word scalar) go q = of_location path values (Inside instance word scalar) _ (λ l. of_kept values l go q)
  of_operand e path values Unknown go q = stuck

  of_stored : (values : Values) (l : Location) (c : Content) (go : Values → Outcome) → ((after : Values) → Q (go after)) → Q (stored values l c go)
  of_stored values l c go q = of_provided (is_same_type l.scalar.elementary c.elementary) WrongKind _ (of_provided (is_of l.scalar c.value) OutsideSubrange _ (q (insert values l.path c.value)))

  pub of_stored_by : (kind : StoreKind) (values : Values) (l : Location) (c : Content) (go : Values → Outcome) → ((after : Values) → Q (go after)) → Q (stored_by kind values l c go)
  of_stored_by Plain values l c go q = of_stored values l c go q
  of_stored_by Negated values l c go q = of_boolean c.value _ (λ b. of_stored values l (truth (not b)) go q)
  of_stored_by Set values l c go q = of_boolean c.value _ (λ b. of_stored values l (truth true) _ (λ after. q (cond b after values)))
  of_stored_by Reset values l c go q = of_boolean c.value _ (λ b. of_stored values l (truth false) _ (λ after. q (cond b after values)))

  pub of_loaded : (negated : Bool) (c : Content) (go : Content → Outcome) → ((d : Content) → Q (go d)) → Q (loaded negated c go)
  of_loaded false c go q = q c
  of_loaded true c go q = of_boolean c.value _ (λ b. q _)

  of_number : (e : Elementary) (z : ℤ) (go : Content → Outcome) → ((c : Content) → Q (go c)) → Q (with_number e z go)
  of_number e z go q = of_provided _ _ _ (q _)

  of_compared : (k : ComparisonKind) (a b : Value) (go : Bool → Outcome) → ((b : Bool) → Q (go b)) → Q (with_compared k a b go)
  of_compared k (Integer x) (Integer y) go q = q _
  of_compared Greater (Integer x) (Boolean b) go q = trapped _
  of_compared Greater (Boolean a) (Integer y) go q = trapped _
  of_compared Greater (Boolean a) (Boolean b) go q = trapped _
  of_compared GreaterOrEqual (Integer x) (Boolean b) go q = trapped _
  of_compared GreaterOrEqual (Boolean a) (Integer y) go q = trapped _
  of_compared GreaterOrEqual (Boolean a) (Boolean b) go q = trapped _
  of_compared Equal (Integer x) (Boolean b) go q = trapped _
  of_compared Equal (Boolean a) (Integer y) go q = trapped _
  of_compared Equal (Boolean a) (Boolean b) go q = q _
  of_compared NotEqual (Integer x) (Boolean b) go q = trapped _
  of_compared NotEqual (Boolean a) (Integer y) go q = trapped _
  of_compared NotEqual (Boolean a) (Boolean b) go q = q _
  of_compared LessOrEqual (Integer x) (Boolean b) go q = trapped _
  of_compared LessOrEqual (Boolean a) (Integer y) go q = trapped _
  of_compared LessOrEqual (Boolean a) (Boolean b) go q = trapped _
  of_compared Less (Integer x) (Boolean b) go q = trapped _
  of_compared Less (Boolean a) (Integer y) go q = trapped _
  of_compared Less (Boolean a) (Boolean b) go q = trapped _

  pub of_operated : (operator : Operator) (left right : Content) (go : Content → Outcome) → ((c : Content) → Q (go c)) → Q (operated operator left right go)
  of_operated (Logic kind negated) left right go q = of_boolean left.value _ (λ a. of_boolean right.value _ (λ b. q _))
  of_operated (Arithmetic kind) left right go q =
      of_provided _ _ _ (of_integer left.value _ (λ x. of_integer right.value _ (λ y. of_provided _ _ _ (of_number left.elementary _ go q))))
  of_operated (Comparison kind) left right go q = of_provided _ _ _ (of_compared kind left.value right.value _ (λ b. q _))

  of_numbers : (a b : Content) (go : ℤ → ℤ → Outcome) → ((x y : ℤ) → Q (go x y)) → Q (with_numbers a b go)
  of_numbers a b go q = of_provided _ _ _ (of_integer a.value _ (λ x. of_integer b.value _ (λ y. q x y)))

  pub of_applied : (f : StandardFunction) (c : Content) (ds : List Content) (go : Content → Outcome) → ((c : Content) → Q (go c)) → Q (applied f c ds go)
  of_applied Absolute c [] go q = of_provided _ _ _ (of_integer c.value _ (λ z. of_number c.elementary _ go q))
  of_applied Absolute c (d ∷ ds) go q = stuck
  of_applied Minimum c [] go q = stuck
  of_applied Minimum c (d ∷ []) go q = of_numbers c d _ (λ x y. q _)
  of_applied Minimum c (d ∷ e ∷ ds) go q = stuck
  of_applied Maximum c [] go q = stuck
  of_applied Maximum c (d ∷ []) go q = of_numbers c d _ (λ x y. q _)
  of_applied Maximum c (d ∷ e ∷ ds) go q = stuck
  of_applied Limited c [] go q = stuck
  of_applied Limited c (d ∷ []) go q = stuck
  of_applied Limited c (d ∷ e ∷ []) go q = of_numbers c d _ (λ x y. of_numbers c e _ (λ z w. q _))
  of_applied Limited c (d ∷ e ∷ f ∷ ds) go q = stuck
  of_applied Selected c [] go q = stuck
  of_applied Selected c (d ∷ []) go q = stuck
  of_applied Selected c (d ∷ e ∷ []) go q = of_provided _ _ _ (of_boolean c.value _ (λ g. q _))
  of_applied Selected c (d ∷ e ∷ f ∷ ds) go q = stuck
  of_applied (Converted from to) c [] go q = of_provided _ _ _ (of_integer c.value _ (λ z. of_number to _ go q))
  of_applied (Converted from to) c (d ∷ ds) go q = stuck

  -- an instruction with a condition acts, or it may not act
  pub of_acting : (condition : Condition) (r : Option Content) (go : Bool → Outcome) → Q (go true) → (may_act condition false ≡ true → Q (go false)) → Q (with_acting condition r go)
  of_acting Always r go acts rests = acts
  of_acting WhenTrue r go acts rests = of_result r _ (λ c. of_boolean c.value go (either (rests refl) acts))
    where
      either : Q (go false) → Q (go true) → (b : Bool) → Q (go b)
      either stays goes true = goes
      either stays goes false = stays
  of_acting WhenFalse r go acts rests = of_result r _ (λ c. of_boolean c.value _ (either (rests refl) acts))
    where
      either : Q (go false) → Q (go true) → (b : Bool) → Q (go (not b))
      either stays goes true = stays
      either stays goes false = goes

  pub of_assigned : (s : Scene) (path : Text) (inputs : List (Text × Form)) (arguments : List Argument) (values : Values) (go : Values → Outcome) → ((after : Values) → Q (go after)) → Q (assigned s path inputs arguments values go)
  of_assigned s path inputs [] values go q = q values
  of_assigned s path inputs (Output word to ∷ more) values go q = of_assigned s path inputs more values go q
  of_assigned s path inputs (Input word operand ∷ more) values go q =
      of_scalar (entry_of inputs word.name) _ (λ scalar. of_operand scalar.elementary s.frame.path values (meant s operand) _ (λ c. of_stored values (at (member_path path word.name) scalar) c _ (λ after. of_assigned s path inputs more after go q)))

  pub of_copied : (s : Scene) (path : Text) (outputs : List (Text × Form)) (arguments : List Argument) (values : Values) (go : Values → Outcome) → ((after : Values) → Q (go after)) → Q (copied s path outputs arguments values go)
  of_copied s path outputs [] values go q = q values
  of_copied s path outputs (Input word operand ∷ more) values go q = of_copied s path outputs more values go q
  of_copied s path outputs (Output word to ∷ more) values go q =
      of_scalar (entry_of outputs word.name) _ (λ scalar. of_kept values (at (member_path path word.name) scalar) _ (λ c. of_location s.frame.path values (denotation s.config s.unit (Variable to.name)) _ (λ l. of_stored values l c _ (λ after. of_copied s path outputs more after go q))))

  pub of_standard_arguments : (s : Scene) (f : StandardFunction) (first : Content) (operands : List Operand) (go : List Content → Outcome) → ((cs : List Content) → Q (go cs)) → Q (with_standard_arguments s f first operands go)
  of_standard_arguments s f first [] go q = q []
  of_standard_arguments s f first (o ∷ os) go q = of_operand (argument_type f first (meant s o)) s.frame.path s.values (meant s o) _ (λ c. of_standard_arguments s f first os _ (λ cs. q (c ∷ cs)))

  pub of_arguments : (s : Scene) (inputs : List (Text × Form)) (operands : List Operand) (go : List Content → Outcome) → ((cs : List Content) → Q (go cs)) → Q (with_arguments s inputs operands go)
  of_arguments s [] [] go q = q []
  of_arguments s [] (o ∷ os) go q = stuck
  of_arguments s (e ∷ es) [] go q = stuck
  of_arguments s (e ∷ es) (o ∷ os) go q = of_scalar (Some e.1) _ (λ scalar. of_operand scalar.elementary s.frame.path s.values (meant s o) _ (λ c. of_arguments s es os _ (λ cs. q (c ∷ cs))))

  pub of_passed : (path : Text) (inputs : List (Text × Form)) (cs : List Content) (values : Values) (go : Values → Outcome) → ((after : Values) → Q (go after)) → Q (passed path inputs cs values go)
  of_passed path [] [] values go q = q values
  of_passed path [] (c ∷ cs) values go q = stuck
  of_passed path (e ∷ es) [] values go q = stuck
  of_passed path (e ∷ es) (c ∷ cs) values go q = of_scalar (Some e.1) _ (λ scalar. of_stored values (at (member_path path e.0) scalar) c _ (λ after. of_passed path es cs after go q))

  pub of_function_value : (kind : UnitKind) (name : Text) (values : Values) (go : Content → Outcome) → ((c : Content) → Q (go c)) → Q (with_function_value kind name values go)
  of_function_value (Function scalar place) name values go q = of_kept values (at (member_path name name) scalar) go q
  of_function_value FunctionBlock name values go q = stuck
  of_function_value Program name values go q = stuck
