-- Calls of own functions: their variables begin anew, their inputs have the arguments.
use Rattle.std.proofs.Common.{◌≡◌, ◌≢◌, ℕ, zero, suc, ◌+◌, ◌-◌, List, [], ◌∷◌, ◌++◌, refl, sym, ap, ◌∙◌, Some, None, Option, subst, length, append_assoc, append-nil, arith, ◌⊎◌, inl, inr}
use Rattle.std.specs.Prelude.{Contains, IsTrue}
use Rattle.il_syntax.specs.declared.tree.Config.{Config}
use Rattle.il_syntax.specs.declared.tree.Unit.{Unit as ProgramUnit}
use Rattle.il_syntax.specs.declared.tree.Scalar.{Scalar}
use Rattle.il_syntax.specs.declared.tree.Form.{Form}
use Rattle.il_syntax.specs.declared.tree.Form.TheVariants.{Scalar as ScalarForm, Array as ArrayForm, Block as BlockForm}
use Rattle.il_syntax.specs.declared.tree.Named.{Named}
use Rattle.il_syntax.specs.declared.tree.Operand.{Operand}
use Rattle.il_syntax.specs.declared.tree.Instruction.{Instruction}
use Rattle.il_syntax.specs.declared.tree.Instruction.TheVariants.{Load, Store, Not, Operate, Defer, Evaluate, Jump, Return, Call, Invoke}
use Rattle.il_statics.specs.Names.{is_function, named_forms, standard_function, unit_named, function_named}
use Rattle.il_semantics.specs.declared.value.Value.{Value}
use Rattle.il_semantics.specs.declared.value.Content.{Content}
use Rattle.base_maps.specs.NameMap.{Text, insert, with_entries}
use Rattle.il_semantics.specs.State.{Values, Frame}
use Rattle.il_semantics.specs.Values.{IsOf}
use Rattle.il_semantics.specs.Meaning.{under, member_path, fresh_values}
use Rattle.il_semantics.specs.Step.{Outcome, Scene, with_scalar, with_operand, at, meant, with_arguments, passed, rest_of, invoked_unit, begun, instruction_at}
use Rattle.il_semantics.specs.declared.known.Known.{Known}
use Rattle.il_semantics.specs.Annotation.{Spot, Knowledge, Annotated, Fits, WithScalarForm, WithOperand, FitInputs, FitsFirst, spot_denotation}
use Rattle.il_semantics.specs.Paths.{cost_of, longest_within, rest_at}
use Rattle.il_semantics_laws.specs.Agreement.{CallsBy, IsStack, Keeps, itself, element, member, IsKept, of_function, Sees, Holds, IsKnown, FrameAgrees, IsCallOf, StandsApart, CallersAgree, table_by, frame_rest, callers_left}
use Rattle.il_statics.specs.Written.{IsWord}
use Rattle.il_semantics_laws.specs.Soundness.{IsInOrder}
use Rattle.il_semantics_laws.proofs.Tested.{tested_at_entry}
use Rattle.il_semantics_laws.proofs.Costs.{left_at, falls_by}
use Rattle.il_semantics_laws.proofs.Texts.{under_is, member_is, element_is, behind, apart}
use Rattle.il_semantics_laws.proofs.Reading.{is_meant, operand_ok}
use Rattle.il_semantics_laws.proofs.Storing.{stored_ok, holds_after, put_apart, Confined, confined_nothing, frame_elsewhere, callers_elsewhere}
use Rattle.il_semantics_laws.proofs.Moving.{calls_by, stack_of, entered, enters, scene, spot, Q, own, positive, rest_is}
use Rattle.il_semantics_laws.proofs.Running.{under_member}
use Rattle.il_semantics_laws.proofs.Named.{found_unit, name_of, function_is_unit, function_word}
use Rattle.il_semantics_laws.proofs.Once.{paths_once}

-- PATHS

-- a path is neither another's nor within it
abbrev IsFree : Text → Text → Type 0
IsFree name path = (¬ (path ≡ name)) × ((rest : Text) → ¬ (path ≡ name ++ 46 ∷ rest))

free_none : (name : Text) → name ≢ [] → IsFree name []
free_none [] some = absurd (some refl)
free_none (x ∷ xs) some = (λ e. cc, λ rest e. cc)

free_word : (name word : Text) → ¬ Contains word 46 → word ≢ name → IsFree name word
free_word name word none other = (other, λ rest e. none (subst (λ (t : Text). Contains t 46) (sym e) (behind name 46 rest)))

free_instance : (name path instance : Text) → IsWord name → IsWord instance → IsFree name path → instance ≢ name → IsFree name (under path instance)
free_instance name [] instance word inner free other = free_word name instance inner.no_point other
free_instance name (x ∷ xs) instance word inner free other = (
  λ e. word.no_point (subst (λ (t : Text). Contains t 46) (sym (under_is x xs instance) ∙ e) (behind (x ∷ xs) 46 instance)),
  λ rest e. apart (x ∷ xs) instance name rest inner free.0 free.1 e,
)

-- a scalar of a variable is at the variable's path, or within it
pub keeps_within : (c : Config) (q : Text) (s : Scalar) (path : Text) (form : Form) → Keeps c q s path form → (rest : Text) × (q ≡ path ++ rest)
keeps_within c q s _ _ (itself path form is e) = ([], e ∙ sym (append-nil path))
keeps_within c q s _ _ (element path form bounds z is inside e) = (_, e ∙ element_is path z)
keeps_within c q s _ _ (member path form block word inner is has more) =
    let r = keeps_within c q s (member_path path word) inner more in
    (_, r.1 ∙ ap (λ t. t ++ r.0) (member_is path word) ∙ append_assoc path (46 ∷ word) r.0)

-- what a body at a path sees is within it
sees_within : (c : Config) (v : ProgramUnit) (path q : Text) (s : Scalar) → path ≢ [] → Sees c v path q s → (rest : Text) × (q ≡ path ++ 46 ∷ rest)
sees_within c v [] q s some sees = absurd (some refl)
sees_within c v (x ∷ xs) q s some sees =
    let r = keeps_within c q s (under (x ∷ xs) sees.0) sees.1 sees.3 in
    (_, r.1 ∙ ap (λ t. t ++ r.0) (under_is x xs sees.0) ∙ append_assoc (x ∷ xs) (46 ∷ sees.0) r.0)

-- UNITS AT WORK

-- the unit of a frame or of one below it
abbrev AtWork : (c : Config) (p : ProgramUnit) (values : Values) (v : ProgramUnit) (name path : Text) (below : List Frame) → CallersAgree c p values v name path below → ProgramUnit → Type 0
AtWork c p values v name path [] callers t = t ≡ v
AtWork c p values v name path (g ∷ gs) callers t = (t ≡ v) ⊎ AtWork c p values callers.0 g.unit g.path gs callers.5 t

-- is among those that have called one another
in_stack : (c : Config) (p : ProgramUnit) → IsInOrder c p → (values : Values) (v : ProgramUnit) (name path : Text) (below : List Frame) (callers : CallersAgree c p values v name path below) (t : ProgramUnit) → AtWork c p values v name path below callers t
    → (us : List ProgramUnit) × IsStack c p v us × Contains (v ∷ us) t
in_stack c p order values v name path [] callers t same = ([], callers.0, (0, omega arith, sym same))
in_stack c p order values v name path (g ∷ gs) callers t (inl same) = let r = stack_of c p order values v name path (g ∷ gs) callers in (r.0, r.1, (0, omega arith, sym same))
in_stack c p order values v name path (g ∷ gs) callers t (inr more) =
    let r = in_stack c p order values callers.0 g.unit g.path gs callers.5 t more in
    (callers.0 ∷ r.0, (order.uses callers.0 v g.place callers.2.among (calls_by c callers.0 g v name path (instruction_at callers.0.body g.place) callers.3), r.1), (suc r.2.0, omega (arith, r.2.1), r.2.2))

-- no frame at work is at a function's path, where the function is not at work
module _ (c : Config) (p : ProgramUnit) (order : IsInOrder c p) (function : Text) (w : ProgramUnit) (own_one : function_named c function ≡ Some w) (word : IsWord w.name.name) where
  free_by : (u : ProgramUnit) (g : Frame) (v : ProgramUnit) (name path : Text) (i : Instruction) → Contains c.units u → IsCallOf c u g v name path i → IsFree w.name.name g.path → v.name.name ≢ w.name.name → IsFree w.name.name path
  free_by u g v name path (Call condition instance arguments) among h free other =
      subst (IsFree w.name.name) (sym h.2) (free_instance w.name.name g.path instance.name word (order.words u among instance.name (BlockForm name) h.0) free (order.instances u w instance.name name function among h.0 own_one))
  free_by u g v name path (Invoke called operands) among h free other =
      let kind = (function_is_unit c called.name v h.1).1 in
      subst (IsFree w.name.name) (sym h.2) (free_word w.name.name v.name.name (function_word c p order v (found_unit c called.name v (function_is_unit c called.name v h.1).0) kind).no_point other)
  free_by u g v name path (Load negated o) among h free other = absurd h
  free_by u g v name path (Store kind to) among h free other = absurd h
  free_by u g v name path Not among h free other = absurd h
  free_by u g v name path (Operate operator o) among h free other = absurd h
  free_by u g v name path (Defer operator first) among h free other = absurd h
  free_by u g v name path Evaluate among h free other = absurd h
  free_by u g v name path (Jump condition label) among h free other = absurd h
  free_by u g v name path (Return condition) among h free other = absurd h

  all_free : (values : Values) (v : ProgramUnit) (name path : Text) (below : List Frame) (callers : CallersAgree c p values v name path below) → ((t : ProgramUnit) → AtWork c p values v name path below callers t → t.name.name ≢ w.name.name)
      → IsFree w.name.name path × ((g : Frame) → Contains below g → IsFree w.name.name g.path)
  all_free values v name path [] callers others = (subst (IsFree w.name.name) (sym callers.1) (free_none w.name.name word.some), λ g among. let low = among.1 in absurd (omega arith))
  all_free values v name path (g ∷ gs) callers others =
      let r = all_free values callers.0 g.unit g.path gs callers.5 (λ t at_work. others t (inr at_work)) in
      (free_by callers.0 g v name path (instruction_at callers.0.body g.place) callers.2.among callers.3 r.0 (others v (inl refl)), each r)
    where
      each : IsFree w.name.name g.path × ((h : Frame) → Contains gs h → IsFree w.name.name h.path) → (h : Frame) → Contains (g ∷ gs) h → IsFree w.name.name h.path
      each r h (zero, low, same) = subst (λ (x : Frame). IsFree w.name.name x.path) same r.0
      each r h (suc n, low, same) = r.1 h (n, omega arith, same)

-- CALLS

module _ (c : Config) (p : ProgramUnit) (order : IsInOrder c p) (annotated : Annotated c) (bound : ℕ) (values : Values) (f : Frame) (below : List Frame) (u : ProgramUnit) (k : Knowledge) (a : FrameAgrees c p values f u k) (callers : CallersAgree c p values u f.unit f.path below) where
  abbrev at_here : Spot
  at_here = spot c p order bound values f below u k a callers

  abbrev in_scene : Option Content → Scene
  in_scene result = scene c p order bound values f below u k a callers values result

  abbrev well : Outcome → Type 0
  well = Q c p order bound values f below u k a callers

  abbrev cost : Instruction → ℕ
  cost = own c p order bound values f below u k a callers

  -- each argument fits its input
  abbrev AllFit : List (Text × Form) → List Content → Type 0
  AllFit [] [] = Unit {0}
  AllFit (e ∷ es) (x ∷ xs) = ((s : Scalar) × (e.1 ≡ ScalarForm s) × ((m : Known) × IsKnown m x × Fits s m)) × AllFit es xs
  AllFit [] (x ∷ xs) = ⊥
  AllFit (e ∷ es) [] = ⊥

  arguments_fit : (es : List (Text × Form)) (os : List Operand) (result : Option Content) (go : List Content → Outcome) → Holds c p values → FitInputs at_here es os → ((xs : List Content) → AllFit es xs → well (go xs)) → well (with_arguments (in_scene result) es os go)
  arguments_fit [] [] result go holds w g = g [] tt
  arguments_fit [] (o ∷ os) result go holds w g = absurd w
  arguments_fit (e ∷ es) [] result go holds w g = absurd w
  arguments_fit (e ∷ es) (o ∷ os) result go holds w g = by_form e.1 refl w.0 (λ go g. arguments_fit es os result go holds w.1 g)
    where
      by_form : (form : Form) → e.1 ≡ form → WithScalarForm (Some form) (λ scalar. WithOperand k.variables scalar.elementary (spot_denotation at_here o) (λ m. Fits scalar m))
          → ((go : List Content → Outcome) → ((xs : List Content) → AllFit es xs → well (go xs)) → well (with_arguments (in_scene result) es os go))
          → well (with_scalar (Some form) (λ scalar. with_operand scalar.elementary f.path values (meant (in_scene result) o) (λ x. with_arguments (in_scene result) es os (λ xs. go (x ∷ xs)))))
      by_form (ArrayForm bounds element_type) is w more = absurd w
      by_form (BlockForm block) is w more = absurd w
      by_form (ScalarForm s) is w more =
          operand_ok well c p u f.path values holds a.kept k.variables a.variables s.elementary s.elementary (spot_denotation at_here o) (is_meant c u o.reference) (λ m. Fits s m) _ (λ i h. refl) w (λ m x h fits.
          more _ (λ xs all. g (x ∷ xs) ((s, is, (m, h, fits)), all)))

  -- values of which only those within a path have changed
  record Aside (path : Text) (now : Values) : Type 0 where
    holds : Holds c p now
    aside : Confined path values now

  -- one more
  put_aside : (path q : Text) (s : Scalar) (v : Value) (now : Values) → Aside path now → ((rest : Text) × (q ≡ path ++ 46 ∷ rest)) → IsKept c p q s → IsOf s v → Aside path (insert now q v)
  put_aside path q s v now here within kept of_it = record {
    holds = holds_after c p now q s v here.holds (paths_once c p order) kept of_it;
    aside = λ some r outside. put_apart now q r v (λ same. outside within.0 (same ∙ within.1)) ∙ here.aside some r outside;
  }

  -- a function's variables begin anew
  fresh_ok : (path : Text) (es : List (Text × Value)) → Holds c p values → ((e : Text × Value) → Contains es e → (s : Scalar) × ((rest : Text) × (e.0 ≡ path ++ 46 ∷ rest)) × IsKept c p e.0 s × IsOf s e.1) → Aside path (with_entries values es)
  fresh_ok path [] holds each = record { holds = holds; aside = confined_nothing path values }
  fresh_ok path (e ∷ es) holds each =
      let t = each e (0, omega arith, refl) in
      put_aside path e.0 t.0 e.1 (with_entries values es) (fresh_ok path es holds (λ d among. each d (suc among.0, omega (arith, among.1), among.2))) t.1 t.2 t.3

  -- the inputs have the arguments
  passed_ok : (path : Text) (es : List (Text × Form)) (xs : List Content) (now : Values) (go : Values → Outcome) → Aside path now → ((e : Text × Form) (s : Scalar) → Contains es e → e.1 ≡ ScalarForm s → IsKept c p (member_path path e.0) s) → AllFit es xs
      → ((after : Values) → Aside path after → well (go after)) → well (passed path es xs now go)
  passed_ok path [] [] now go here each all g = g now here
  passed_ok path [] (x ∷ xs) now go here each all g = absurd all
  passed_ok path (e ∷ es) [] now go here each all g = absurd all
  passed_ok path (e ∷ es) (x ∷ xs) now go here each all g =
      let fit = all.0 in
      rw fit.1 (stored_ok well now (at (member_path path e.0) fit.0) fit.2.0 x (λ after. passed path es xs after go) fit.2.1 fit.2.2 (λ of_it.
      passed_ok path es xs _ go (put_aside path (member_path path e.0) fit.0 x.value now here (e.0, member_is path e.0) (each e fit.0 (0, omega arith, refl) fit.1) of_it) (λ d s among. each d s (suc among.0, omega (arith, among.1), among.2)) all.1 g))

  -- the first argument is the current result
  first_fits : (es : List (Text × Form)) (m : Known) (x : Content) (xs : List Content) → IsKnown m x → FitsFirst es m → AllFit (rest_of es) xs → AllFit es (x ∷ xs)
  first_fits [] m x xs h w all = absurd w
  first_fits (e ∷ es) m x xs h w all = by_form e.1 refl w
    where
      by_form : (form : Form) → e.1 ≡ form → WithScalarForm (Some form) (λ s. Fits s m) → ((s : Scalar) × (e.1 ≡ ScalarForm s) × ((n : Known) × IsKnown n x × Fits s n)) × AllFit es xs
      by_form (ArrayForm bounds element_type) is w = absurd w
      by_form (BlockForm block) is w = absurd w
      by_form (ScalarForm s) is w = ((s, is, (m, h, w)), all)

  -- a call of an own function
  pub own_function_ok : (function : Named) (operands : List Operand) (v : ProgramUnit) (m : Known) (x : Content) (result : Option Content) → instruction_at u.body f.place ≡ Invoke function operands → standard_function function.name ≡ None → function_named c function.name ≡ Some v
      → left_at cost u.body f.place + callers_left c below ≡ bound → Holds c p values → IsKnown m x → FitsFirst (named_forms v.inputs) m → FitInputs at_here (rest_of (named_forms v.inputs)) operands → well (invoked_unit (in_scene result) v x operands)
  own_function_ok function operands v m x result is standard own_one exact holds h first inputs =
      arguments_fit (rest_of (named_forms v.inputs)) operands result _ holds inputs (λ xs all.
      passed_ok v.name.name (named_forms v.inputs) (x ∷ xs) (with_entries values (fresh_values c v)) _ (fresh_ok v.name.name (fresh_values c v) holds each_fresh) each_input (first_fits (named_forms v.inputs) m x xs h first all) begins)
    where
      unit_is : (unit_named c function.name ≡ Some v) × IsTrue (is_function v)
      unit_is = function_is_unit c function.name v own_one

      named : unit_named c v.name.name ≡ Some v
      named = ap (unit_named c) (name_of c function.name v unit_is.0) ∙ unit_is.0

      word : IsWord v.name.name
      word = function_word c p order v (found_unit c function.name v unit_is.0) unit_is.1

      call : CallsBy c u v (instruction_at u.body f.place)
      call = subst (CallsBy c u v) (sym is) (standard, own_one)

      stack : (us : List ProgramUnit) × IsStack c p u us × (length us ≡ length below)
      stack = stack_of c p order values u f.unit f.path below callers

      above : IsStack c p v (u ∷ stack.0)
      above = (order.uses u v f.place a.among call, stack.1)

      each_fresh : (e : Text × Value) → Contains (fresh_values c v) e → (s : Scalar) × ((rest : Text) × (e.0 ≡ v.name.name ++ 46 ∷ rest)) × IsKept c p e.0 s × IsOf s e.1
      each_fresh e among = let t = order.fresh v function.name e own_one among in (t.0, sees_within c v v.name.name e.0 t.0 word.some t.1, of_function v (u ∷ stack.0) function.name above own_one t.1, t.2)

      each_input : (e : Text × Form) (s : Scalar) → Contains (named_forms v.inputs) e → e.1 ≡ ScalarForm s → IsKept c p (member_path v.name.name e.0) s
      each_input e s among form =
          of_function v (u ∷ stack.0) function.name above own_one (e.0, ScalarForm s, order.inputs v function.name e own_one among ∙ ap Some form, itself _ _ refl (sym (under_member v.name.name e.0 word.some)))

      free : IsFree v.name.name f.path × ((g : Frame) → Contains below g → IsFree v.name.name g.path)
      free = all_free c p order function.name v own_one word values u f.unit f.path below callers (λ t at_work. let s = in_stack c p order values u f.unit f.path below callers t at_work in order.acyclic v t (u ∷ s.0) (order.uses u v f.place a.among call, s.1) s.2)

      each_free : (g : Frame) → Contains (f ∷ below) g → IsFree v.name.name g.path
      each_free g (zero, low, same) = subst (λ (t : Frame). IsFree v.name.name t.path) same free.0
      each_free g (suc n, low, same) = free.1 g (n, omega arith, same)

      begins : (now : Values) → Aside v.name.name now → well (begun (in_scene result) v.name.name v.name.name now)
      begins now aside =
          let e = enters c p v v.name.name v.name.name now annotated named aside.holds (λ q s sees. of_function v (u ∷ stack.0) function.name above own_one sees) in
          let frame = frame_elsewhere c p values now v.name.name f u k order.words word.some aside.aside free.0.0 free.0.1 a in
          let callers_now = callers_elsewhere c p values now v.name.name u f.unit f.path below order.words word.some aside.aside (λ g among. (free.1 g among).0) (λ g rest among. (free.1 g among).1 rest) callers in
          let called : IsCallOf c u f v v.name.name v.name.name (instruction_at u.body f.place) = subst (IsCallOf c u f v v.name.name v.name.name) (sym is) (standard, own_one, refl) in
          let apart_is : StandsApart v.name.name (f ∷ below) = record { some = word.some; other = λ g among. (each_free g among).0; outside = λ g rest among. (each_free g among).1 rest } in
          let low = order.shallow v (u ∷ stack.0) above in
          let level : suc (15 - suc (length below)) ≡ 15 - length below = let n = stack.2 in omega arith in
          let body : frame_rest c (suc (length below)) (entered v.name.name v.name.name) 0 ≡ longest_within (15 - length below) c v =
          ap (λ o. (rest_at (table_by (15 - suc (length below)) c o) 0 0).cost) named ∙ ap (λ n. longest_within n c v) level in
          let cost_is : cost (Invoke function operands) ≡ 1 + longest_within (15 - length below) c v = ap (cost_of (longest_within (15 - length below) c)) own_one in
          let falls = falls_by cost u.body (positive c p order bound values f below u k a callers) f.place (Invoke function operands) is refl (λ tail next. refl) in
          let rest = rest_is c p order bound values f below u k a callers f (f.place + 1) refl in (
            record { holds = aside.holds; frames = (v, e.0, e.1, e.2, (u, k, frame, called, apart_is, callers_now), tested_at_entry c v v.name.name now None) },
            omega arith,
          )
