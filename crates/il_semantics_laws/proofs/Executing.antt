-- The step of each instruction, from a state that agrees.
use Rattle.std.proofs.Common.{◌≡◌, ◌≢◌, ◌<◌, ℕ, ◌+◌, ◌-◌, Bool, true, false, not, List, [], ◌∷◌, refl, sym, ap, ◌∙◌, cond, Some, None, Option, subst, length, arith}
use Rattle.il_syntax.specs.declared.tree.Config.{Config}
use Rattle.il_syntax.specs.declared.tree.Unit.{Unit as ProgramUnit}
use Rattle.il_syntax.specs.declared.tree.Elementary.{Elementary}
use Rattle.il_syntax.specs.declared.tree.Scalar.{Scalar}
use Rattle.il_syntax.specs.declared.tree.Operand.{Operand}
use Rattle.il_syntax.specs.declared.tree.Operator.{Operator}
use Rattle.il_syntax.specs.declared.tree.Operator.TheVariants.{Logic, Arithmetic, Comparison}
use Rattle.il_syntax.specs.declared.tree.Store.{Store as StoreKind}
use Rattle.il_syntax.specs.declared.tree.Store.TheVariants.{Plain, Negated, Set, Reset}
use Rattle.il_syntax.specs.declared.tree.Condition.{Condition}
use Rattle.il_syntax.specs.declared.tree.Condition.TheVariants.{Always, WhenTrue, WhenFalse}
use Rattle.il_syntax.specs.declared.tree.Named.{Named}
use Rattle.il_syntax.specs.declared.tree.Place.{Place}
use Rattle.il_syntax.specs.declared.tree.UnitKind.TheVariants.{Function}
use Rattle.il_syntax.specs.declared.tree.Argument.{Argument}
use Rattle.il_syntax.specs.declared.tree.Instruction.{Instruction}
use Rattle.il_syntax.specs.declared.tree.Instruction.TheVariants.{Load, Store, Not, Operate, Defer, Evaluate, Jump, Return, Call, Invoke}
use Rattle.ranges_interval.specs.declared.Interval.{Interval}
use Rattle.il_syntax.specs.declared.tree.Form.TheVariants.{Scalar as ScalarForm}
use Rattle.il_statics.specs.declared.names.StandardFunction.{StandardFunction}
use Rattle.il_statics.specs.declared.names.StandardFunction.TheVariants.{Absolute, Minimum, Maximum, Limited, Selected, Converted}
use Rattle.il_statics.specs.Names.{standard_function, function_named}
use Rattle.il_statics.specs.Types.{label_place}
use Rattle.il_semantics.specs.declared.value.Value.TheVariants.{Boolean, Integer}
use Rattle.il_semantics.specs.declared.value.Content.{Content}
use Rattle.il_semantics.specs.declared.value.Deferred.{Deferred}
use Rattle.base_maps.specs.NameMap.{NameMap, Text, get}
use Rattle.il_semantics.specs.State.{Values, Frame}
use Rattle.il_semantics.specs.Meaning.{Denotation, Constant, Direct, Numbered, Indexed, Inside, Unknown, denotation, natural, under, member_path}
use Rattle.il_semantics.specs.Step.{Outcome, boolean_or_false, with_result, content, Scene, meant, Location, truth, goes_to, goes_on, gives, loaded, stored, stored_by, put_aside, evaluated, kept_result, jumped, returned_to, returned_if, called_if, executed, operated, argument_type, with_standard_arguments, applied, invoked, with_place, with_operand, with_location, instruction_at}
use Rattle.il_semantics.specs.declared.known.Known.{Known}
use Rattle.il_semantics.specs.declared.known.Known.TheVariants.{Flag, Ranged}
use Rattle.il_semantics.specs.declared.known.KnownDeferred.{KnownDeferred}
use Rattle.il_semantics.specs.Annotation.{acts_at, side, narrowed, WithSide, IsPassed, WithInterval, WithFlow, range, operand_context, Knowledge, knowledge, Leads, Spot, spot_denotation, Passes, Fits, GoesOn, GoesOnWith, IsLoaded, IsStored, IsOperated, WithOperated, IsSetAside, IsEvaluated, MayPass, LeadsTo, result_at_target, known_argument_type, WithOperand, WithTarget, WithKnownResult, WithStandardArguments, WithApplied, IsInvoked, Annotated}
use Rattle.il_semantics.specs.Tests.{Test, counted_variable, loaded_variable, comparison_of, compared_at, test_at}
use Rattle.ranges_interval.specs.Compared.{compared}
use Rattle.il_syntax.specs.ElementaryTypes.{is_counted}
use Rattle.std.specs.Prelude.{if◌then◌else◌, ℤ}
use Rattle.std.proofs.lemmas.Option.{same_Some}
use Rattle.il_semantics.specs.Paths.{cost_of, callee, longest_within, may_act}
use Rattle.il_semantics_laws.specs.Agreement.{itself, IsKept, Holds, IsKnown, IsKnownResult, AreKnown, KnowsVariables, FrameAgrees, CallersAgree, IsCallOf, IsTested, callers_left}
use Rattle.il_semantics_laws.specs.Soundness.{IsInOrder, StepsWell}
use Rattle.il_semantics.proofs.Testing.{counted_range, tests_conditional, loads_of, compares, is_comparison, variable_of_test}
use Rattle.il_semantics_laws.proofs.Tested.{is_apart, tested_apart, tested_loaded, tested_compared, tested_at_label, number_read, flag_on, narrowed_knows}
use Rattle.il_semantics_laws.proofs.Going.{Decides, deciding_ok, provided_ok, type_itself, result_ok, acting_ok, operated_ok, applied_ok, AllKnown}
use Rattle.il_semantics_laws.proofs.Costs.{left_at, can_pass, before_end, falls_on, falls_jump, return_costs, label_inside, costs_some}
use Rattle.il_semantics_laws.proofs.Reading.{is_meant, Aims, location_ok, operand_ok, operand_known}
use Rattle.il_semantics_laws.proofs.Storing.{stored_ok, holds_after, knows_after, knows_after_flag, Confined, confined_nothing, confined_store}
use Rattle.il_semantics_laws.proofs.Moving.{scene as in_frame, spot as at_frame, rest_is, goes_ok}
use Rattle.il_semantics_laws.proofs.Functions.{own_function_ok}
use Rattle.il_semantics_laws.proofs.Running.{under_member, calls_ok, resumed_ok}
use Rattle.il_semantics_laws.proofs.Named.{result_form}
use Rattle.il_semantics_laws.proofs.Once.{paths_once}

-- a frame that has called goes on
can_call : (c : Config) (u : ProgramUnit) (g : Frame) (v : ProgramUnit) (name path : Text) (i : Instruction) → IsCallOf c u g v name path i → can_pass i ≡ true
can_call c u g v name path (Call condition instance arguments) h = refl
can_call c u g v name path (Invoke function operands) h = refl
can_call c u g v name path (Load negated o) h = refl
can_call c u g v name path (Store kind to) h = refl
can_call c u g v name path Not h = refl
can_call c u g v name path (Operate operator o) h = refl
can_call c u g v name path (Defer operator first) h = refl
can_call c u g v name path Evaluate h = refl
can_call c u g v name path (Jump condition label) h = absurd h
can_call c u g v name path (Return condition) h = absurd h

-- a truth is one of a Boolean alone
truth_of : Option Content → Bool
truth_of (Some c) = boolean_or_false (Some c.value)
truth_of None = false

truths : (a b : Bool) → Some (truth a) ≡ Some (truth b) → a ≡ b
unfolding truth_of
truths a b e = ap truth_of e

-- AN INSTRUCTION

module _ (c : Config) (p : ProgramUnit) (order : IsInOrder c p) (annotated : Annotated c) (values : Values) (result : Option Content) (f : Frame) (below : List Frame) (holds : Holds c p values) (u : ProgramUnit) (k : Knowledge) (a : FrameAgrees c p values f u k)
    (known : IsKnownResult k.result result) (callers : CallersAgree c p values u f.unit f.path below) (tested : IsTested c u f.path f.place values result) where
  abbrev pub own : Instruction → ℕ
  own i = cost_of (longest_within (15 - length below) c) (callee c u i)

  -- what is left before the step
  abbrev pub bound : ℕ
  bound = left_at own u.body f.place + callers_left c below

  abbrev scene : Scene
  scene = in_frame c p order bound values f below u k a callers values result

  abbrev spot : Spot
  spot = at_frame c p order bound values f below u k a callers

  abbrev Q : Outcome → Type 0
  Q = StepsWell c p bound

  positive : (i : Instruction) → 0 < own i
  positive i = costs_some (longest_within (15 - length below) c) (callee c u i)

  -- the frame goes on after its instruction
  on_ok : (i : Instruction) → instruction_at u.body f.place ≡ i → can_pass i ≡ true → (ds : List Deferred) (after : Values) (r : Option Content) (next : Knowledge) → Leads a.annotation (f.place + 1) next → Holds c p after → Confined f.path values after
      → KnowsVariables c u f.path next.variables after → AreKnown next.deferred ds → IsKnownResult next.result r → IsTested c u f.path (f.place + 1) after r → Q (goes_to scene (f.place + 1) ds after r)
  on_ok i is passes ds after r next leads held confined knows deferred is_known amid =
      let low = before_end own u.body f.place i is passes in
      let falls = falls_on own u.body positive f.place i is passes in
      goes_ok c p order bound values f below u k a callers (f.place + 1) ds values after result r next leads (omega arith) (omega arith) held confined knows deferred is_known amid

  -- and only the result has changed
  gives_ok : (i : Instruction) → instruction_at u.body f.place ≡ i → can_pass i ≡ true → (m : Option Known) (r : Option Content) → GoesOnWith spot m → IsKnownResult m r → IsTested c u f.path (f.place + 1) values r → Q (goes_on scene values r)
  gives_ok i is passes m r leads is_known amid = on_ok i is passes f.deferred values r _ leads holds (confined_nothing f.path values) a.variables a.deferred is_known amid

  -- the same of an instruction after which no test goes on
  on_apart : (i : Instruction) → instruction_at u.body f.place ≡ i → can_pass i ≡ true → is_apart i ≡ true → (ds : List Deferred) (after : Values) (r : Option Content) (next : Knowledge) → Leads a.annotation (f.place + 1) next → Holds c p after → Confined f.path values after
      → KnowsVariables c u f.path next.variables after → AreKnown next.deferred ds → IsKnownResult next.result r → Q (goes_to scene (f.place + 1) ds after r)
  on_apart i is passes apart ds after r next leads held confined knows deferred is_known = on_ok i is passes ds after r next leads held confined knows deferred is_known (tested_apart c u f.path f.place i after r is apart)

  gives_apart : (i : Instruction) → instruction_at u.body f.place ≡ i → can_pass i ≡ true → is_apart i ≡ true → (m : Option Known) (r : Option Content) → GoesOnWith spot m → IsKnownResult m r → Q (goes_on scene values r)
  gives_apart i is passes apart m r leads is_known = gives_ok i is passes m r leads is_known (tested_apart c u f.path f.place i values r is apart)

  -- an operand is found
  reads : (e g : Elementary) (o : Operand) (P : Known → Type 0) (go : Content → Outcome) → ((i : Interval) → P (Ranged e i) → g ≡ e) → WithOperand k.variables e (spot_denotation spot o) P → ((m : Known) (x : Content) → IsKnown m x → P m → Q (go x))
      → Q (with_operand g f.path values (meant scene o) go)
  reads e g o P go suits w next = operand_ok Q c p u f.path values holds a.kept k.variables a.variables e g (meant scene o) (is_meant c u o.reference) P go suits w next

  -- LD AND LDN --

  -- a test may follow LD of a number
  variable_loaded : (o : Operand) (name : Text) (s : Scalar) → instruction_at u.body f.place ≡ Load false o → denotation c u o.reference ≡ Direct name s → is_counted s.elementary ≡ true → Passes spot (Load false o) → Q (executed scene (Load false o))
  variable_loaded o name s is e counts p =
      subst (λ m. Q (with_operand (natural m) f.path values m (λ d. gives scene d))) (sym e)
      (by_range (range s) (counted_range s counts) (subst (λ m. WithOperand k.variables (natural m) m (λ n. GoesOnWith spot (Some n))) e p))
    where
      amid : (z : ℤ) → get values (under f.path name) ≡ Some (Integer z) → IsTested c u f.path (f.place + 1) values (Some (content s.elementary (Integer z)))
      amid z there = tested_loaded c u f.path f.place false o values (Some (content s.elementary (Integer z))) is (λ t g.
          let l = loads_of c u f.place t g in
          let same : ◌≡◌ {A = Option (Text × Elementary)} (Some (name, s.elementary)) (Some l.variable) =
          sym (ap (loaded_variable c u) is ∙ ap counted_variable e ∙ ap (λ b. if b then Some (name, s.elementary) else None) counts) ∙ l.loads in
          let pair : ◌≡◌ {A = Text × Elementary} (name, s.elementary) l.variable = same_Some {A = Text × Elementary} (name, s.elementary) l.variable same in
          let v = variable_of_test l.from l.variable t l.comparison in
          (z, ap (λ q. get values (under f.path q)) (v.0 ∙ sym (ap (λ (x : Text × Elementary). x.0) pair)) ∙ there, ap (λ y. Some (content y (Integer z))) (ap (λ (x : Text × Elementary). x.1) pair ∙ sym v.1)))

      by_flow : (q : Option Interval) → get k.variables name ≡ q → WithInterval q (λ i. GoesOnWith spot (Some (Ranged s.elementary i))) → Q (with_operand (natural (Direct name s)) f.path values (Direct name s) (λ d. gives scene d))
      by_flow None at w = absurd w
      by_flow (Some i) at w =
          let n = (a.variables name i at).1 in
          rw n.1 (gives_ok (Load false o) is refl (Some (Ranged s.elementary i)) (Some (content s.elementary (Integer n.0))) w (n.0, refl, n.2) (amid n.0 n.1))

      by_range : (d : Option Interval) → ((j : Interval) × (d ≡ Some j)) → WithFlow s.elementary d (get k.variables name) (λ n. GoesOnWith spot (Some n)) → Q (with_operand (natural (Direct name s)) f.path values (Direct name s) (λ d. gives scene d))
      by_range None there w = let bad : None ≡ Some there.0 = there.1 in cc
      by_range (Some j) there w = by_flow (get k.variables name) refl w

  loads : (negated : Bool) (o : Operand) → instruction_at u.body f.place ≡ Load negated o → Passes spot (Load negated o) → Q (executed scene (Load negated o))
  loads true o is p = reads _ _ o (λ m. IsLoaded spot true m) _ (λ i h. refl) p (λ m x h w. by_kind m x h w)
    where
      by_kind : (m : Known) (x : Content) → IsKnown m x → IsLoaded spot true m → Q (loaded true x (λ d. gives scene d))
      by_kind Flag x h w = rw h.1 (gives_apart (Load true o) is refl refl (Some Flag) _ w (not h.0, refl))
      by_kind (Ranged e i) x h w = absurd w
  loads false o is p = by_denotation (denotation c u o.reference) refl
    where
      other : counted_variable (denotation c u o.reference) ≡ None → Q (executed scene (Load false o))
      other none = reads _ _ o (λ m. IsLoaded spot false m) _ (λ i h. refl) p (λ m x h w.
          gives_ok (Load false o) is refl (Some m) (Some x) w h (tested_loaded c u f.path f.place false o values (Some x) is (λ t g. let l = loads_of c u f.place t g in let bad : None ≡ Some l.variable = sym (ap (loaded_variable c u) is ∙ none) ∙ l.loads in cc)))

      by_counted : (name : Text) (s : Scalar) → denotation c u o.reference ≡ Direct name s → (b : Bool) → is_counted s.elementary ≡ b → Q (executed scene (Load false o))
      by_counted name s e true g = variable_loaded o name s is e g p
      by_counted name s e false g = other (ap counted_variable e ∙ ap (λ b. if b then Some (name, s.elementary) else None) g)

      by_denotation : (m : Denotation) → denotation c u o.reference ≡ m → Q (executed scene (Load false o))
      by_denotation (Constant l) e = other (ap counted_variable e)
      by_denotation (Direct name s) e = by_counted name s e (is_counted s.elementary) refl
      by_denotation (Numbered name bounds element z) e = other (ap counted_variable e)
      by_denotation (Indexed name bounds element variable s) e = other (ap counted_variable e)
      by_denotation (Inside instance word s) e = other (ap counted_variable e)
      by_denotation Unknown e = other (ap counted_variable e)

  -- ST, STN, S AND R --

  -- a store of a Boolean, and the way on
  flag_stored : (kind : StoreKind) (to : Operand) → instruction_at u.body f.place ≡ Store kind to → GoesOnWith spot k.result → (l : Location) → Aims f.path (meant scene to) l → IsKept c p l.path l.scalar → Fits l.scalar Flag → (b acts : Bool)
      → Q (stored values l (truth b) (λ after. goes_on scene (cond acts after values) result))
  flag_stored kind to is leads l aims kept fits b false = stored_ok Q values l Flag (truth b) (λ after. goes_on scene values result) (b, refl) fits (λ of_it. gives_apart _ is refl refl k.result result leads known)
  flag_stored kind to is leads l aims kept fits b true = stored_ok Q values l Flag (truth b) (λ after. goes_on scene after result) (b, refl) fits (λ of_it.
      on_apart _ is refl refl f.deferred _ result _ leads (holds_after c p values l.path l.scalar (Boolean b) holds (paths_once c p order) kept of_it) (confined_store f.path values (meant scene to) l (Boolean b) aims)
      (knows_after_flag c p u f.path values holds a.kept (order.words u a.among) k.variables a.variables (meant scene to) l (truth b) (is_meant c u to.reference) aims fits (b, refl)) a.deferred known)

  -- the place of a store
  places_ok : (to : Operand) (P : Scalar → Type 0) (go : Location → Outcome) → WithTarget k.variables (spot_denotation spot to) P → ((l : Location) → Aims f.path (meant scene to) l → IsKept c p l.path l.scalar → P l.scalar → Q (go l))
      → Q (with_location f.path values (meant scene to) go)
  places_ok to P go w g = location_ok Q c p u f.path values holds a.kept k.variables a.variables (meant scene to) (is_meant c u to.reference) P go w g

  -- a store of a content, and the way on
  stores : (kind : StoreKind) (to : Operand) (x : Content) (m : Known) → instruction_at u.body f.place ≡ Store kind to → IsKnown m x → IsStored spot kind (spot_denotation spot to) m
      → Q (with_location f.path values (meant scene to) (λ l. stored_by kind values l x (λ after. goes_on scene after result)))
  stores Plain to x m is h w = places_ok to (λ s. Fits s m) _ w.0 (λ l aims kept fits. stored_ok Q values l m x (λ after. goes_on scene after result) h fits (λ of_it.
      on_apart _ is refl refl f.deferred _ result _ w.1 (holds_after c p values l.path l.scalar x.value holds (paths_once c p order) kept of_it) (confined_store f.path values (meant scene to) l x.value aims)
      (knows_after c p u f.path values holds a.kept (order.words u a.among) k.variables a.variables (meant scene to) l m x (is_meant c u to.reference) aims fits h) a.deferred known))
  stores Negated to x (Ranged e i) is h w = absurd w
  stores Set to x (Ranged e i) is h w = absurd w
  stores Reset to x (Ranged e i) is h w = absurd w
  stores Negated to x Flag is h w = places_ok to (λ s. Fits s Flag) _ w.0 (λ l aims kept fits. rw h.1 (flag_stored Negated to is w.1 l aims kept fits (not h.0) true))
  stores Set to x Flag is h w = places_ok to (λ s. Fits s Flag) _ w.0 (λ l aims kept fits. rw h.1 (flag_stored Set to is w.1 l aims kept fits true h.0))
  stores Reset to x Flag is h w = places_ok to (λ s. Fits s Flag) _ w.0 (λ l aims kept fits. rw h.1 (flag_stored Reset to is w.1 l aims kept fits false h.0))

  -- NOT AND OPERATORS --

  negates : instruction_at u.body f.place ≡ Not → Passes spot Not → Q (executed scene Not)
  negates is p =
      result_ok Q k.result result (λ m. m ≡ Flag) _ known (flag_known p.0) (λ m x h w.
      let y = subst (λ t. IsKnown t x) w h in rw y.1 (gives_apart _ is refl refl (Some Flag) (Some (truth (not y.0))) p.1 (not y.0, refl)))
    where
      flag_known : k.result ≡ Some Flag → WithKnownResult k.result (λ m. m ≡ Flag)
      flag_known e = rw e refl

  -- no operator takes a Boolean and a number
  mixed : (operator : Operator) (e : Elementary) (i : Interval) (P : Known → Type 0) → WithOperated operator Flag (Ranged e i) P → ⊥
  mixed (Logic kind negated) e i P w = w
  mixed (Arithmetic kind) e i P w = w
  mixed (Comparison kind) e i P w = w

  -- an operator that is no test's comparison
  operates : (operator : Operator) (o : Operand) (m : Known) (x : Content) → instruction_at u.body f.place ≡ Operate operator o → compared_at c u f.place ≡ None → IsKnown m x → IsOperated spot operator o m
      → Q (with_operand x.elementary f.path values (meant scene o) (λ right. operated operator x right (λ y. gives scene y)))
  operates operator o m x is none h w = by_known m h w
    where
      amid : (y : Content) → IsTested c u f.path (f.place + 1) values (Some y)
      amid y = tested_compared c u f.path f.place operator o values (Some y) is (λ t g. let bad : None ≡ Some t = sym none ∙ g in cc)

      by_known : (m : Known) → IsKnown m x → IsOperated spot operator o m → Q (with_operand x.elementary f.path values (meant scene o) (λ right. operated operator x right (λ y. gives scene y)))
      by_known Flag h w =
          reads _ x.elementary o (λ m. WithOperated operator Flag m (λ n. GoesOnWith spot (Some n))) _ (λ i v. absurd (mixed operator _ i _ v)) w (λ m y g v.
          operated_ok Q operator Flag m x y _ _ h g v (λ n z q t. gives_ok _ is refl (Some n) (Some z) t q (amid z)))
      by_known (Ranged e i) h w =
          reads e x.elementary o (λ m. WithOperated operator (Ranged e i) m (λ n. GoesOnWith spot (Some n))) _ (λ j v. ap (λ (y : Content). y.elementary) h.1) w (λ m y g v.
          operated_ok Q operator (Ranged e i) m x y _ _ h g v (λ n z q t. gives_ok _ is refl (Some n) (Some z) t q (amid z)))

  -- a test's comparison: after it the result is the outcome for the variable's value
  compares_ok : (operator : Operator) (o : Operand) (t : Test) → instruction_at u.body f.place ≡ Operate operator o → compared_at c u f.place ≡ Some t → Passes spot (Operate operator o) → Q (executed scene (Operate operator o))
  compares_ok operator o t is e p =
      let h = compares c u f.place t e in
      let k_is = is_comparison t h.variable operator o (ap (λ i. comparison_of i h.variable) (sym is) ∙ h.comparison) in
      let now = tested.loaded t e in
      subst (λ r. Q (with_result r (λ left. with_operand left.elementary f.path values (meant scene o) (λ right. operated operator left right (λ y. gives scene y))))) (sym now.2)
      (subst (λ r. Q (with_operand t.elementary f.path values (denotation c u r) (λ right. operated operator (content t.elementary (Integer now.0)) right (λ y. gives scene y)))) (sym k_is.reference_is)
      (number_read Q t.elementary k_is.literal t.number _ k_is.number_is
      (subst (λ q. Q (operated q (content t.elementary (Integer now.0)) (content t.elementary (Integer t.number)) (λ y. gives scene y))) (sym k_is.operator_is)
      (provided_ok Q _ _ _ (type_itself t.elementary)
      (gives_ok (Operate operator o) is refl (Some Flag) (Some (truth (compared t.comparison now.0 t.number))) (on k_is.operator_is) (_, refl)
      (tested_compared c u f.path f.place operator o values (Some (truth (compared t.comparison now.0 t.number))) is (λ s g.
      let same : t ≡ s = let both_are = sym e ∙ g in cc in
      (now.0, subst (λ (x : Test). get values (under f.path x.name) ≡ Some (Integer now.0)) same now.1, ap (λ (x : Test). Some (truth (compared x.comparison now.0 x.number))) same))))))))
    where
      on : operator ≡ Comparison t.comparison → GoesOnWith spot (Some Flag)
      on same = flag_on k.variables (spot_denotation spot o) (operand_context spot o) t.comparison k.result (λ m. GoesOnWith spot (Some m)) (subst (λ q. Passes spot (Operate q o)) same p)

  -- DEFERRED OPERATIONS --

  sets_aside : (operator : Operator) (first : Option Operand) (m : Known) (x : Content) → instruction_at u.body f.place ≡ Defer operator first → IsKnown m x → IsSetAside spot operator first m → Q (put_aside scene operator first x)
  sets_aside operator None m x is h w = on_apart _ is refl refl (record { operator = operator; left = x } ∷ f.deferred) values None _ w holds (confined_nothing f.path values) a.variables (refl, h, a.deferred) tt
  sets_aside operator (Some first) m x is h w =
      reads _ _ first (λ n. GoesOn spot k.variables (Some n) (record { operator = operator; left = m } ∷ k.deferred)) _ (λ i v. refl) w (λ n y g v.
      on_apart _ is refl refl (record { operator = operator; left = x } ∷ f.deferred) values (Some y) _ v holds (confined_nothing f.path values) a.variables (refl, h, a.deferred) g)

  evaluates : (ks : List KnownDeferred) (ds : List Deferred) (m : Known) (x : Content) → instruction_at u.body f.place ≡ Evaluate → AreKnown ks ds → IsKnown m x → IsEvaluated spot ks m → Q (evaluated scene ds x)
  evaluates [] ds m x is h g w = absurd w
  evaluates (l ∷ ks) [] m x is h g w = absurd h
  evaluates (l ∷ ks) (d ∷ ds) m x is h g w =
      operated_ok Q d.operator l.left m d.left x (λ n. GoesOn spot k.variables (Some n) ks) _ h.1 g (subst (λ o. WithOperated o l.left m (λ n. GoesOn spot k.variables (Some n) ks)) h.0 w) (λ n y q t.
      on_apart _ is refl refl ds values (Some y) _ t holds (confined_nothing f.path values) a.variables h.2 q)

  -- JUMPS AND RETURNS --

  -- what is left of the result at a label
  kept_known : (condition : Condition) → IsKnownResult (result_at_target condition k.result) (kept_result condition result)
  kept_known Always = tt
  kept_known WhenTrue = known
  kept_known WhenFalse = known

  -- an instruction that does not act goes on
  passes_by : (i : Instruction) (condition : Condition) → instruction_at u.body f.place ≡ i → can_pass i ≡ true → is_apart i ≡ true → may_act condition false ≡ true → MayPass spot condition k.result → Q (goes_on scene values result)
  passes_by i Always is passes apart may w = cc
  passes_by i WhenTrue is passes apart may w = gives_apart i is passes apart k.result result w known
  passes_by i WhenFalse is passes apart may w = gives_apart i is passes apart k.result result w known

  -- the side of a jump where the result is so has what is known there
  side_ok : (holds : Bool) → ((t : Test) → test_at c u f.place ≡ Some t → result ≡ Some (truth holds)) → (after : NameMap Interval) × (side spot holds ≡ Some after) × KnowsVariables c u f.path after values
  side_ok holds outcome = by_test (test_at c u f.place) refl
    where
      by_test : (o : Option Test) → test_at c u f.place ≡ o → (after : NameMap Interval) × (narrowed o holds k.variables ≡ Some after) × KnowsVariables c u f.path after values
      by_test None e = (k.variables, refl, a.variables)
      by_test (Some t) e =
          let now = tested.compared t e in
          let same : compared t.comparison now.0 t.number ≡ holds = truths (compared t.comparison now.0 t.number) holds (sym now.2 ∙ outcome t e) in
          narrowed_knows c u f.path k.variables values a.variables t holds now.0 now.1 same

  -- a jump that does not act goes on
  jump_passes : (condition : Condition) (label : Named) → may_act condition false ≡ true → instruction_at u.body f.place ≡ Jump condition label → Decides condition false result → IsPassed spot condition → Q (goes_on scene values result)
  jump_passes Always label may is d w = cc
  jump_passes WhenTrue label may is d w =
      let s = side_ok false (λ t e. d) in
      let on = subst (λ o. WithSide o (λ after. GoesOn spot after k.result k.deferred)) s.1 w in
      on_apart (Jump WhenTrue label) is refl refl f.deferred values result _ on holds (confined_nothing f.path values) s.2 a.deferred known
  jump_passes WhenFalse label may is d w =
      let s = side_ok true (λ t e. d) in
      let on = subst (λ o. WithSide o (λ after. GoesOn spot after k.result k.deferred)) s.1 w in
      on_apart (Jump WhenFalse label) is refl refl f.deferred values result _ on holds (confined_nothing f.path values) s.2 a.deferred known

  -- the result where a jump acts
  jump_decides : (condition : Condition) (label : Named) → instruction_at u.body f.place ≡ Jump condition label → Decides condition true result → (t : Test) → test_at c u f.place ≡ Some t → result ≡ Some (truth (acts_at condition))
  jump_decides Always label is d t e = absurd (tests_conditional c u f.place label t is e)
  jump_decides WhenTrue label is d t e = d
  jump_decides WhenFalse label is d t e = d

  jumps : (condition : Condition) (label : Named) (acts : Bool) → may_act condition acts ≡ true → Decides condition acts result → instruction_at u.body f.place ≡ Jump condition label → Passes spot (Jump condition label) → Q (jumped scene condition label.name acts)
  jumps condition label false may d is w = jump_passes condition label may is d w.3
  jumps condition label true may d is w =
      let s = side_ok (acts_at condition) (jump_decides condition label is d) in
      by_label (label_place u.body label.name) refl s.0 s.2 (subst (λ o. WithSide o (λ after. LeadsTo spot (label_place u.body label.name) (knowledge after (result_at_target condition k.result) k.deferred))) s.1 w.2)
    where
      by_label : (o : Option ℕ) → label_place u.body label.name ≡ o → (after : NameMap Interval) → KnowsVariables c u f.path after values → LeadsTo spot o (knowledge after (result_at_target condition k.result) k.deferred)
          → Q (with_place o (λ place. goes_to scene place f.deferred values (kept_result condition result)))
      by_label None at after knows w = absurd w
      by_label (Some to) at after knows w =
          let falls = falls_jump own u.body positive f.place to condition label is at (order.forward u f.place to condition label a.among is at) in
          goes_ok c p order bound values f below u k a callers to f.deferred values values result _ _ w (label_inside u.body label.name to at) (omega arith) holds (confined_nothing f.path values) knows a.deferred (kept_known condition)
          (tested_at_label c u f.path label.name to values (kept_result condition result) at)

  -- the result of a function is kept
  function_kept : (s : Scalar) (place : Place) → u.kind ≡ Function s place → f.path ≡ u.name.name → IsKept c p (member_path u.name.name u.name.name) s
  function_kept s place kind path =
      let form = result_form c u s place kind in
      let some : u.name.name ≢ [] = (order.words u a.among u.name.name (ScalarForm s) form).some in
      a.kept _ s (u.name.name, ScalarForm s, form, itself _ _ refl (sym (ap (λ t. under t u.name.name) path ∙ under_member u.name.name u.name.name some)))

  returns : (condition : Condition) (acts : Bool) → may_act condition acts ≡ true → instruction_at u.body f.place ≡ Return condition → Passes spot (Return condition) → Q (returned_if scene acts)
  returns condition false may is w = passes_by _ condition is may refl may w.1
  returns condition true may is w = by_callers below callers refl
    where
      by_callers : (gs : List Frame) → CallersAgree c p values u f.unit f.path gs → below ≡ gs → Q (returned_to scene gs)
      by_callers [] agreed same =
          let costs = return_costs own u.body positive f.place condition a.within is in
          (record { holds = holds; frames = tt }, omega arith)
      by_callers (g ∷ gs) agreed same =
          let costs = return_costs own u.body positive f.place condition a.within is in
          let b = agreed.2 in
          let i = instruction_at agreed.0.body g.place in
          let later = rest_is c p order bound values g gs agreed.0 agreed.1 b agreed.5 g (g.place + 1) refl in
          let here = ap (callers_left c) same in
          let body = resumed_ok c p order annotated bound values g gs agreed.0 agreed.1 b agreed.5 u f.unit f.path i refl (can_call c agreed.0 g u f.unit f.path i agreed.3) (b.annotated.each g.place agreed.1 b.within b.stands) agreed.3 function_kept (omega arith) holds in
          rw b.named body

  -- FUNCTIONS --

  -- the further arguments of a standard function
  arguments_ok : (n : StandardFunction) (first : Known) (x : Content) → ((m : Denotation) → argument_type n x m ≡ known_argument_type n first m) → (os : List Operand) (P : List Known → Type 0) (go : List Content → Outcome)
      → WithStandardArguments spot n first os P → ((ks : List Known) (xs : List Content) → AllKnown ks xs → P ks → Q (go xs)) → Q (with_standard_arguments scene n x os go)
  arguments_ok n first x same [] P go w g = g [] [] tt w
  arguments_ok n first x same (o ∷ os) P go w g =
      reads _ _ o (λ m. WithStandardArguments spot n first os (λ ks. P (m ∷ ks))) _ (λ i v. same (meant scene o)) w (λ m y h v.
      arguments_ok n first x same os (λ ks. P (m ∷ ks)) _ v (λ ks ys hs q. g (m ∷ ks) (y ∷ ys) (h, hs) q))

  -- some arguments are known
  arguments_known : (n : StandardFunction) (first : Known) (os : List Operand) (P : List Known → Type 0) → WithStandardArguments spot n first os P → (ks : List Known) × P ks
  arguments_known n first [] P w = ([], w)
  arguments_known n first (o ∷ os) P w =
      let m = operand_known k.variables _ (spot_denotation spot o) (λ m. WithStandardArguments spot n first os (λ ks. P (m ∷ ks))) w in
      let r = arguments_known n first os (λ ks. P (m.0 ∷ ks)) m.1 in
      (m.0 ∷ r.0, r.1)

  -- but for SEL no function begins with a Boolean
  no_flag : (n : StandardFunction) (P : Known → Type 0) → (n ≡ Selected → ⊥) → (ks : List Known) → WithApplied n Flag ks P → ⊥
  no_flag Absolute P other ks w = w
  no_flag Minimum P other ks w = w
  no_flag Maximum P other ks w = w
  no_flag Limited P other ks w = w
  no_flag Selected P other ks w = other refl
  no_flag (Converted from to) P other ks w = w

  applies : (n : StandardFunction) (os : List Operand) (m : Known) (x : Content) → ((t : Denotation) → argument_type n x t ≡ known_argument_type n m t) → (i : Instruction) → instruction_at u.body f.place ≡ i → can_pass i ≡ true → is_apart i ≡ true → IsKnown m x
      → WithStandardArguments spot n m os (λ ks. WithApplied n m ks (λ r. GoesOnWith spot (Some r))) → Q (with_standard_arguments scene n x os (λ further. applied n x further (λ y. gives scene y)))
  applies n os m x same i is passes apart h w =
      arguments_ok n m x same os _ _ w (λ ks xs hs v. applied_ok Q n m x ks xs _ _ h hs v (λ r y q t. gives_apart i is passes apart (Some r) (Some y) t q))

  standard : (n : StandardFunction) (os : List Operand) (m : Known) (x : Content) (i : Instruction) → instruction_at u.body f.place ≡ i → can_pass i ≡ true → is_apart i ≡ true → IsKnown m x
      → WithStandardArguments spot n m os (λ ks. WithApplied n m ks (λ r. GoesOnWith spot (Some r))) → Q (with_standard_arguments scene n x os (λ further. applied n x further (λ y. gives scene y)))
  standard Selected os m x i is passes apart h w = applies Selected os m x (λ t. refl) i is passes apart h w
  standard Absolute os Flag x i is passes apart h w = let r = arguments_known Absolute Flag os _ w in absurd r.1
  standard Minimum os Flag x i is passes apart h w = let r = arguments_known Minimum Flag os _ w in absurd r.1
  standard Maximum os Flag x i is passes apart h w = let r = arguments_known Maximum Flag os _ w in absurd r.1
  standard Limited os Flag x i is passes apart h w = let r = arguments_known Limited Flag os _ w in absurd r.1
  standard (Converted from to) os Flag x i is passes apart h w = let r = arguments_known (Converted from to) Flag os _ w in absurd r.1
  standard Absolute os (Ranged e j) x i is passes apart h w = applies Absolute os (Ranged e j) x (λ t. ap (λ (y : Content). y.elementary) h.1) i is passes apart h w
  standard Minimum os (Ranged e j) x i is passes apart h w = applies Minimum os (Ranged e j) x (λ t. ap (λ (y : Content). y.elementary) h.1) i is passes apart h w
  standard Maximum os (Ranged e j) x i is passes apart h w = applies Maximum os (Ranged e j) x (λ t. ap (λ (y : Content). y.elementary) h.1) i is passes apart h w
  standard Limited os (Ranged e j) x i is passes apart h w = applies Limited os (Ranged e j) x (λ t. ap (λ (y : Content). y.elementary) h.1) i is passes apart h w
  standard (Converted from to) os (Ranged e j) x i is passes apart h w = applies (Converted from to) os (Ranged e j) x (λ t. ap (λ (y : Content). y.elementary) h.1) i is passes apart h w

  invokes : (function : Named) (os : List Operand) (m : Known) (x : Content) → instruction_at u.body f.place ≡ Invoke function os → IsKnown m x → IsInvoked spot (standard_function function.name) (function_named c function.name) os m
      → Q (invoked scene (standard_function function.name) (function_named c function.name) os x)
  invokes function os m x is h w = by_function (standard_function function.name) (function_named c function.name) refl refl w
    where
      by_function : (o : Option StandardFunction) (t : Option ProgramUnit) → standard_function function.name ≡ o → function_named c function.name ≡ t → IsInvoked spot o t os m → Q (invoked scene o t os x)
      by_function None None named own_one w = absurd w
      by_function None (Some v) named own_one w = own_function_ok c p order annotated bound values f below u k a callers function os v m x result is named own_one refl holds h w.0 w.1
      by_function (Some n) t named own_one w = standard n os m x _ is refl refl h w

  -- BLOCKS --

  calls : (condition : Condition) (instance : Named) (arguments : List Argument) (acts : Bool) → may_act condition acts ≡ true → instruction_at u.body f.place ≡ Call condition instance arguments → Passes spot (Call condition instance arguments)
      → Q (called_if scene instance.name arguments acts)
  calls condition instance arguments true may is w = calls_ok c p order annotated bound values f below u k a callers condition instance arguments result is refl holds w.1
  calls Always instance arguments false may is w = cc
  calls WhenTrue instance arguments false may is w = gives_apart _ is refl refl None None w.2 tt
  calls WhenFalse instance arguments false may is w = gives_apart _ is refl refl None None w.2 tt

  -- INSTRUCTIONS --

  pub executes : (i : Instruction) → instruction_at u.body f.place ≡ i → Passes spot i → Q (executed scene i)
  executes (Load negated o) is p = loads negated o is p
  executes (Store kind to) is p = result_ok Q k.result result _ _ known p (λ m x h w. stores kind to x m is h w)
  executes Not is p = negates is p
  executes (Operate operator o) is p = by_test (compared_at c u f.place) refl
    where
      by_test : (t : Option Test) → compared_at c u f.place ≡ t → Q (executed scene (Operate operator o))
      by_test None e = result_ok Q k.result result _ _ known p (λ m x h w. operates operator o m x is e h w)
      by_test (Some t) e = compares_ok operator o t is e p
  executes (Defer operator first) is p = result_ok Q k.result result _ _ known p (λ m x h w. sets_aside operator first m x is h w)
  executes Evaluate is p = result_ok Q k.result result _ _ known p (λ m x h w. evaluates k.deferred f.deferred m x is a.deferred h w)
  executes (Jump condition label) is p = deciding_ok Q condition k.result result _ known p.1 (λ acts may d. jumps condition label acts may d is p)
  executes (Return condition) is p = acting_ok Q condition k.result result _ known p.0 (λ acts may. returns condition acts may is p)
  executes (Call condition instance arguments) is p = acting_ok Q condition k.result result _ known p.0 (λ acts may. calls condition instance arguments acts may is p)
  executes (Invoke function operands) is p = result_ok Q k.result result _ _ known p (λ m x h w. invokes function operands m x is h w)
