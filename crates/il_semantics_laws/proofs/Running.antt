-- Calls of blocks: into the body of an own block and back, and through a standard one.
use Rattle.std.proofs.Common.{◌≡◌, ◌≢◌, ◌<◌, ℕ, zero, suc, ◌+◌, ◌-◌, Bool, true, false, List, [], ◌∷◌, ◌++◌, refl, sym, ap, ◌∙◌, Some, None, Option, subst, length, codes, append_assoc, append-nil, arith}
use Rattle.std.specs.Prelude.{Contains, is_some, option_map, option_and_then, ◌||◌, if◌then◌else◌, find, bytes_eq}
use Rattle.ranges_interval.specs.declared.Interval.{Interval}
use Rattle.std.proofs.Common.{length-append}
use Rattle.il_syntax.specs.declared.tree.Config.{Config}
use Rattle.il_syntax.specs.declared.tree.Unit.{Unit as ProgramUnit}
use Rattle.il_syntax.specs.declared.tree.Elementary.{Elementary}
use Rattle.il_syntax.specs.declared.tree.Elementary.TheVariants.{Bool as BoolType, Sint, Int, Dint, Usint, Uint, Udint, Time}
use Rattle.il_syntax.specs.declared.tree.Scalar.{Scalar}
use Rattle.il_syntax.specs.declared.tree.Form.{Form}
use Rattle.il_syntax.specs.declared.tree.Form.TheVariants.{Scalar as ScalarForm, Array as ArrayForm, Block as BlockForm}
use Rattle.il_syntax.specs.declared.tree.Named.{Named}
use Rattle.il_syntax.specs.declared.tree.Place.{Place}
use Rattle.il_syntax.specs.declared.tree.UnitKind.{UnitKind}
use Rattle.il_syntax.specs.declared.tree.UnitKind.TheVariants.{Function, FunctionBlock, Program}
use Rattle.il_syntax.specs.declared.tree.Condition.{Condition}
use Rattle.il_syntax.specs.declared.tree.Argument.{Argument}
use Rattle.il_syntax.specs.declared.tree.Instruction.{Instruction}
use Rattle.il_syntax.specs.declared.tree.Instruction.TheVariants.{Load, Store, Not, Operate, Defer, Evaluate, Jump, Return, Call, Invoke}
use Rattle.il_syntax.specs.ElementaryTypes.{plain, limits, LiesIn}
use Rattle.il_statics.specs.declared.names.StandardBlock.{StandardBlock}
use Rattle.il_statics.specs.Names.{standard_block, standard_variables, block_variables, is_predeclared, image_name, standard_function, is_function_block, own_block_variables, named_forms, form_named, unit_named, function_named, function_block_named, or_else}
use Rattle.il_semantics.specs.declared.value.Value.{Value}
use Rattle.il_semantics.specs.declared.value.Value.TheVariants.{Boolean, Integer}
use Rattle.il_semantics.specs.declared.value.Content.{Content}
use Rattle.base_maps.specs.NameMap.{NameMap, Text}
use Rattle.il_semantics.specs.State.{Values, Frame}
use Rattle.il_semantics.specs.Values.{IsOf}
use Rattle.il_semantics.specs.Meaning.{under, member_path, outputs_of}
use Rattle.il_semantics.specs.Step.{Outcome, Scene, goes_on, copied, standard_call, now_of, count, integer_or_zero, called_block, called, begun, gives, content, with_function_value, resumed, instruction_at}
use Rattle.il_semantics.specs.declared.known.Known.{Known}
use Rattle.il_semantics.specs.Annotation.{Spot, Knowledge, Annotated, FitArguments, IsCalled, GoesOn, after_outputs, places, Passes, IsInvoked, IsResultOf, WithKnownResult}
use Rattle.il_semantics.specs.Paths.{cost_of, block_unit, longest_within, rest_at}
use Rattle.il_semantics_laws.specs.Agreement.{CallsBy, Keeps, itself, member, IsKept, of_program, Sees, Holds, FrameAgrees, IsCallOf, StandsApart, CallersAgree, IsTested, table_by, frame_rest, callers_left}
use Rattle.il_statics.specs.Written.{IsWord}
use Rattle.il_semantics_laws.specs.Soundness.{IsInOrder}
use Rattle.il_semantics_laws.proofs.Blocks.{IsTime, words_of, AreLeft, HasCounts, leaves}
use Rattle.il_semantics_laws.proofs.Costs.{can_pass, left_at, before_end, falls_on, falls_by}
use Rattle.il_semantics_laws.proofs.Texts.{under_is}
use Rattle.il_semantics_laws.proofs.Reading.{value_ok, declared_is_known}
use Rattle.il_semantics_laws.proofs.Storing.{confined_nothing, callers_after}
use Rattle.il_semantics_laws.proofs.Moving.{stack_of, entered, enters, spot, own, positive, rest_is, goes_ok}
use Rattle.il_semantics_laws.proofs.Tested.{tested_at_entry, tested_apart}
use Rattle.il_semantics_laws.proofs.Calling.{here, good, Midway, assigned_ok, copied_ok, members_ok}

-- NAMES

-- an own block is a unit of its name
pub block_is_unit : (c : Config) (block : Text) (v : ProgramUnit) → function_block_named c block ≡ Some v → unit_named c block ≡ Some v
block_is_unit c block v e = by_unit (unit_named c block) e
  where
    by_kind : (b : Bool) (w : ProgramUnit) → (if b then Some w else None) ≡ Some v → Some w ≡ Some v
    by_kind true w e = e
    by_kind false w e = cc

    by_unit : (o : Option ProgramUnit) → option_and_then (λ u. if is_function_block u then Some u else None) o ≡ Some v → o ≡ Some v
    by_unit None e = cc
    by_unit (Some w) e = by_kind (is_function_block w) w e

-- and no standard one
pub not_predeclared : (c : Config) (block : Text) (v : ProgramUnit) → unit_named c block ≡ Some v → standard_block block ≡ None
not_predeclared c block v e = by_test (is_predeclared c block) refl e
  where
    by_block : (a b : Bool) (o : Option StandardBlock) → (a || b || is_some o) ≡ false → o ≡ None
    by_block a b None h = refl
    by_block true b (Some s) h = cc
    by_block false true (Some s) h = cc
    by_block false false (Some s) h = cc

    by_test : (b : Bool) → is_predeclared c block ≡ b → (if b then None else find (λ u. bytes_eq u.name.name block) c.units) ≡ Some v → standard_block block ≡ None
    by_test true is e = cc
    by_test false is e = by_block (is_some (image_name c block)) (is_some (standard_function block)) (standard_block block) is

-- its outputs are those that a caller sees
pub own_outputs : (c : Config) (block : Text) (v : ProgramUnit) → function_block_named c block ≡ Some v → outputs_of (block_variables c block) ≡ named_forms v.outputs
unfolding block_variables
own_outputs c block v e =
    ap (λ o. outputs_of (or_else (option_map standard_variables o) (option_map own_block_variables (function_block_named c block)))) (not_predeclared c block v (block_is_unit c block v e))
    ∙ ap (λ o. outputs_of (option_map own_block_variables o)) e

-- the variables of a standard block
pub standard_are : (c : Config) (block : Text) (b : StandardBlock) → standard_block block ≡ Some b → block_variables c block ≡ Some (standard_variables b)
unfolding block_variables
standard_are c block b e = ap (λ o. or_else (option_map standard_variables o) (option_map own_block_variables (function_block_named c block))) e

-- a name that is neither is no block's
pub neither : (c : Config) (block : Text) → standard_block block ≡ None → function_block_named c block ≡ None → block_variables c block ≡ None
unfolding block_variables
neither c block s f = ap (λ o. or_else (option_map standard_variables o) (option_map own_block_variables (function_block_named c block))) s ∙ ap (λ o. option_map own_block_variables o) f

-- PATHS

instance_some : (path instance : Text) → IsWord instance → under path instance ≢ []
instance_some [] instance word e = word.some e
instance_some (x ∷ xs) instance word e = let f = sym (under_is x xs instance) ∙ e in cc

pub under_member : (path word : Text) → path ≢ [] → under path word ≡ member_path path word
under_member [] word some = absurd (some refl)
under_member (x ∷ xs) word some = refl

-- a path within another is longer
longer : (path instance rest : Text) → IsWord instance → ¬ (path ≡ under path instance ++ rest)
longer [] [] rest word e = word.some refl
longer [] (y ∷ ys) rest word e = cc
longer (x ∷ xs) instance rest word e =
    let n = ap length (e ∙ ap (λ t. t ++ rest) (under_is x xs instance)) in
    let m = length-append ((x ∷ xs) ++ 46 ∷ instance) rest in
    let l = length-append (x ∷ xs) (46 ∷ instance) in
    omega arith

-- no frame is within an instance of the one that runs
not_within : (c : Config) (p : ProgramUnit) (values : Values) (u : ProgramUnit) (name path instance rest : Text) (f : Frame) (below : List Frame) → CallersAgree c p values u name path below → f.path ≡ path → IsWord instance → (g : Frame) → Contains (f ∷ below) g → ¬ (g.path ≡ under path instance ++ rest)
not_within c p values u name path instance rest f below callers same word g (zero, low, is) e = longer path instance rest word (sym same ∙ ap (λ (h : Frame). h.path) is ∙ e)
not_within c p values u name path instance rest f [] callers same word g (suc n, low, is) e = absurd (omega arith)
not_within c p values u name path instance rest f (b ∷ bs) callers same word g (suc n, low, is) e = by_path path callers.4 e
  where
    by_path : (path : Text) → StandsApart path (b ∷ bs) → g.path ≡ under path instance ++ rest → ⊥
    by_path [] apart e = apart.some refl
    by_path (x ∷ xs) apart e = apart.outside g (instance ++ rest) (n, omega arith, is) (e ∙ ap (λ t. t ++ rest) (under_is x xs instance) ∙ append_assoc (x ∷ xs) (46 ∷ instance) rest)

-- so a frame of an instance is apart
stands_apart : (c : Config) (p : ProgramUnit) (values : Values) (u : ProgramUnit) (instance : Text) (f : Frame) (below : List Frame) → CallersAgree c p values u f.unit f.path below → IsWord instance → StandsApart (under f.path instance) (f ∷ below)
stands_apart c p values u instance f below callers word = record {
  some = instance_some f.path instance word;
  other = λ g among e. not_within c p values u f.unit f.path instance [] f below callers refl word g among (e ∙ sym (append-nil (under f.path instance)));
  outside = λ g rest among e. not_within c p values u f.unit f.path instance (46 ∷ rest) f below callers refl word g among e;
}

-- STANDARD BLOCKS

-- a whole or time variable of an instance has a value of its type
count_in : (c : Config) (p : ProgramUnit) (values : Values) (path word : Text) (t : Elementary) → Holds c p values → IsKept c p (member_path path word) (plain t) → (t ≡ BoolType → ⊥) → LiesIn (limits t) (count values path word)
count_in c p values path word t holds kept other =
    let h = holds (member_path path word) (plain t) kept in
    subst (λ o. LiesIn (limits t) (integer_or_zero o)) (sym h.1) (by_value t h.0 h.2 other)
  where
    by_value : (t : Elementary) (v : Value) → IsOf (plain t) v → (t ≡ BoolType → ⊥) → LiesIn (limits t) (integer_or_zero (Some v))
    by_value BoolType v of_it other = absurd (other refl)
    by_value Sint (Integer z) of_it other = of_it
    by_value Int (Integer z) of_it other = of_it
    by_value Dint (Integer z) of_it other = of_it
    by_value Usint (Integer z) of_it other = of_it
    by_value Uint (Integer z) of_it other = of_it
    by_value Udint (Integer z) of_it other = of_it
    by_value Time (Integer z) of_it other = of_it
    by_value Sint (Boolean b) of_it other = absurd of_it
    by_value Int (Boolean b) of_it other = absurd of_it
    by_value Dint (Boolean b) of_it other = absurd of_it
    by_value Usint (Boolean b) of_it other = absurd of_it
    by_value Uint (Boolean b) of_it other = absurd of_it
    by_value Udint (Boolean b) of_it other = absurd of_it
    by_value Time (Boolean b) of_it other = absurd of_it

now_in : (c : Config) (p : ProgramUnit) (values : Values) → IsInOrder c p → Holds c p values → IsTime (now_of values)
now_in c p values order holds =
    let h = holds (codes "NOW") (plain Time) (of_program (codes "NOW", ScalarForm (plain Time), order.time, itself _ _ refl refl)) in
    subst (λ o. IsTime (integer_or_zero o)) (sym h.1) (by_value h.0 h.2)
  where
    by_value : (v : Value) → IsOf (plain Time) v → IsTime (integer_or_zero (Some v))
    by_value (Integer z) of_it = of_it
    by_value (Boolean b) of_it = absurd of_it

-- each of the variables that a call leaves
left_each : (b : StandardBlock) (es : List (Text × Value)) → AreLeft b es → (e : Text × Value) → Contains es e → (t : Elementary) × Contains (words_of b) (e.0, ScalarForm (plain t)) × IsOf (plain t) e.1
left_each b [] all e among = let low = among.1 in absurd (omega arith)
left_each b (d ∷ es) all e (zero, low, same) = subst (λ (d : Text × Value). (t : Elementary) × Contains (words_of b) (d.0, ScalarForm (plain t)) × IsOf (plain t) d.1) same all.0
left_each b (d ∷ es) all e (suc n, low, same) = left_each b es all.1 e (n, omega arith, same)

-- CALLS

module _ (c : Config) (p : ProgramUnit) (order : IsInOrder c p) (annotated : Annotated c) (bound : ℕ) (values : Values) (f : Frame) (below : List Frame) (u : ProgramUnit) (k : Knowledge) (a : FrameAgrees c p values f u k) (callers : CallersAgree c p values u f.unit f.path below) where
  abbrev at_here : Spot
  at_here = spot c p order bound values f below u k a callers

  abbrev in_scene : Values → Option Content → Scene
  in_scene = here c p order bound values f below u k a callers

  abbrev well : Outcome → Type 0
  well = good c p order bound values f below u k a callers

  abbrev cost : Instruction → ℕ
  cost = own c p order bound values f below u k a callers

  abbrev Middle : NameMap Interval → Values → Type 0
  Middle = Midway c p order bound values f below u k a callers

  -- the frame is within an instruction that has changed nothing
  begins_middle : Holds c p values → Middle k.variables values
  begins_middle holds = record { holds = holds; confined = confined_nothing f.path values; knows = a.variables }

  -- after a call of a block there is no result
  goes_behind : (block : Text) (arguments : List Argument) (was : Option Content) (now after : Values) → f.place + 1 < places u → left_at cost u.body (f.place + 1) + callers_left c below < bound → GoesOn at_here (after_outputs at_here block arguments k.variables) None k.deferred
      → Middle (after_outputs at_here block arguments k.variables) after → IsTested c u f.path (f.place + 1) after None → well (goes_on (in_scene now was) after None)
  goes_behind block arguments was now after inside less leads mid tested =
      goes_ok c p order bound values f below u k a callers (f.place + 1) f.deferred now after was None _ leads inside less mid.holds mid.confined mid.knows a.deferred tt tested

  -- a call of a standard block
  standard_call_ok : (instance block : Text) (arguments : List Argument) (b : StandardBlock) (was : Option Content) (then_was now : Values) → form_named c u instance ≡ Some (BlockForm block) → standard_block block ≡ Some b → f.place + 1 < places u
      → left_at cost u.body (f.place + 1) + callers_left c below < bound → FitArguments at_here block arguments → GoesOn at_here (after_outputs at_here block arguments k.variables) None k.deferred → Middle k.variables now → ((after : Values) → IsTested c u f.path (f.place + 1) after None)
      → well (called_block (in_scene then_was was) block (under f.path instance) arguments None (Some b) now)
  standard_call_ok instance block arguments b was before now form standard inside less fits leads mid tested =
      let is_block = standard_are c block b standard in
      let counts : HasCounts b now (under f.path instance) = λ word t among other.
      count_in c p now (under f.path instance) word t mid.holds (a.kept _ (plain t) (instance, BlockForm block, form, member _ _ block word (ScalarForm (plain t)) refl (standard_variables b, is_block, among) (itself _ _ refl refl))) other in
      let all = leaves b (now_of now) now (under f.path instance) (now_in c p now order mid.holds) counts in
      let each = left_each b (standard_call b (now_of now) now (under f.path instance)) all in
      copied_ok c p order bound values f below u k a callers instance block arguments was before _ k.variables (λ after. goes_on (in_scene before was) after None) form
      (members_ok c p order bound values f below u k a callers instance block (standard_call b (now_of now) now (under f.path instance)) k.variables now form (λ e among. let t = each e among in (plain t.0, (standard_variables b, is_block, t.1), t.2)) mid) fits (λ after next.
      goes_behind block arguments was before after inside less leads next (tested after))

  -- a call of an own block
  own_call_ok : (i : Instruction) (condition : Condition) (instance : Named) (block : Text) (arguments : List Argument) (v : ProgramUnit) (was : Option Content) (before now : Values) → instruction_at u.body f.place ≡ Call condition instance arguments → form_named c u instance.name ≡ Some (BlockForm block)
      → function_block_named c block ≡ Some v → left_at cost u.body f.place + callers_left c below ≡ bound → Middle k.variables now → well (begun (in_scene before was) block (under f.path instance.name) now)
  own_call_ok i condition instance block arguments v was before now is form own_block exact mid =
      let word = order.words u a.among instance.name (BlockForm block) form in
      let path = under f.path instance.name in
      let named = block_is_unit c block v own_block in
      let kept : (q : Text) (s : Scalar) → Sees c v path q s → IsKept c p q s = λ q s sees.
      a.kept q s (instance.name, BlockForm block, form, member _ _ block sees.0 sees.1 refl (order.own block v sees.0 sees.1 own_block sees.2) (subst (λ (t : Text). Keeps c q s t sees.1) (under_member path sees.0 (instance_some f.path instance.name word)) sees.3)) in
      let e = enters c p v block path now annotated named mid.holds kept in
      let frame : FrameAgrees c p now f u k = record {
        named = a.named;
        among = a.among;
        annotation = a.annotation;
        annotated = a.annotated;
        within = a.within;
        stands = a.stands;
        kept = a.kept;
        variables = mid.knows;
        deferred = a.deferred;
      } in
      let callers_now = callers_after c p values now u f.unit f.path below order.words mid.confined callers in
      let called : IsCallOf c u f v block path (instruction_at u.body f.place) = subst (IsCallOf c u f v block path) (sym is) (form, own_block, refl) in
      let stack = stack_of c p order now u f.unit f.path below callers_now in
      let low = order.shallow v (u ∷ stack.0) (order.uses u v f.place a.among (subst (CallsBy c u v) (sym is) (block, form, own_block)), stack.1) in
      let level : suc (15 - suc (length below)) ≡ 15 - length below = let n = stack.2 in omega arith in
      let body : frame_rest c (suc (length below)) (entered block path) 0 ≡ longest_within (15 - length below) c v =
      ap (λ o. (rest_at (table_by (15 - suc (length below)) c o) 0 0).cost) named ∙ ap (λ n. longest_within n c v) level in
      let cost_is : cost (Call condition instance arguments) ≡ 1 + longest_within (15 - length below) c v =
      ap (λ o. cost_of (longest_within (15 - length below) c) (block_unit c o)) form ∙ ap (cost_of (longest_within (15 - length below) c)) own_block in
      let falls = falls_by cost u.body (positive c p order bound values f below u k a callers) f.place (Call condition instance arguments) is refl (λ tail next. refl) in
      let rest = rest_is c p order bound values f below u k a callers f (f.place + 1) refl in (
        record { holds = mid.holds; frames = (v, e.0, e.1, e.2, (u, k, frame, called, stands_apart c p values u instance.name f below callers word, callers_now), tested_at_entry c v path now None) },
        omega arith,
      )

  -- a call that acts
  pub calls_ok : (condition : Condition) (instance : Named) (arguments : List Argument) (result : Option Content) → instruction_at u.body f.place ≡ Call condition instance arguments → left_at cost u.body f.place + callers_left c below ≡ bound → Holds c p values
      → IsCalled at_here arguments (form_named c u instance.name) → well (called (in_scene values result) instance.name arguments (form_named c u instance.name))
  calls_ok condition instance arguments result is exact holds w = by_form (form_named c u instance.name) refl w
    where
      inside : f.place < length u.body.steps
      inside = before_end cost u.body f.place (Call condition instance arguments) is refl

      falls : left_at cost u.body (f.place + 1) < left_at cost u.body f.place
      falls = falls_on cost u.body (positive c p order bound values f below u k a callers) f.place (Call condition instance arguments) is refl

      by_block : (block : Text) (o : Option ProgramUnit) (t : Option StandardBlock) (now : Values) → form_named c u instance.name ≡ Some (BlockForm block) → function_block_named c block ≡ o → standard_block block ≡ t
          → FitArguments at_here block arguments × GoesOn at_here (after_outputs at_here block arguments k.variables) None k.deferred → Middle k.variables now → well (called_block (in_scene values result) block (under f.path instance.name) arguments o t now)
      by_block block (Some v) t now form own_block standard w mid = own_call_ok (Call condition instance arguments) condition instance block arguments v result values now is form own_block exact mid
      by_block block None (Some b) now form own_block standard w mid =
          let low = inside in
          let less = falls in
          standard_call_ok instance.name block arguments b result values now form standard (omega arith) (omega arith) w.0 w.1 mid (λ after. tested_apart c u f.path f.place (Call condition instance arguments) after None is refl)
      by_block block None None now form own_block standard w mid = let b = order.blocks u instance.name block a.among form in let never = sym (neither c block standard own_block) ∙ b.1 in cc

      by_form : (o : Option Form) → form_named c u instance.name ≡ o → IsCalled at_here arguments o → well (called (in_scene values result) instance.name arguments o)
      by_form None form w = absurd w
      by_form (Some (ScalarForm s)) form w = absurd w
      by_form (Some (ArrayForm bounds e)) form w = absurd w
      by_form (Some (BlockForm block)) form w =
          assigned_ok c p order bound values f below u k a callers instance.name block arguments result values values _ form (begins_middle holds) w.0 (λ now mid.
          by_block block (function_block_named c block) (standard_block block) now form refl refl w mid)

  -- BACK FROM A CALL --

  -- the value of a function
  value_back : (v : ProgramUnit) (kind : UnitKind) → ((s : Scalar) (place : Place) → kind ≡ Function s place → IsKept c p (member_path v.name.name v.name.name) s) → f.place + 1 < places u → left_at cost u.body (f.place + 1) + callers_left c below < bound → Holds c p values → IsResultOf at_here kind → ((r : Option Content) → IsTested c u f.path (f.place + 1) values r)
      → well (with_function_value kind v.name.name values (λ x. gives (in_scene values None) x))
  value_back v FunctionBlock kept inside less holds w tested = absurd w
  value_back v Program kept inside less holds w tested = absurd w
  value_back v (Function s place) kept inside less holds w tested =
      value_ok well c p u f.path values holds a.kept k.variables a.variables (member_path v.name.name v.name.name) s _ (kept s place refl) (λ x there of_it.
      goes_ok c p order bound values f below u k a callers (f.place + 1) f.deferred values values None (Some (content s.elementary x)) _ w inside less holds (confined_nothing f.path values) a.variables a.deferred (declared_is_known s x of_it) (tested (Some (content s.elementary x))))

  -- the frame that has called goes on
  pub resumed_ok : (v : ProgramUnit) (name path : Text) (i : Instruction) → instruction_at u.body f.place ≡ i → can_pass i ≡ true → Passes at_here i → IsCallOf c u f v name path i → ((s : Scalar) (place : Place) → v.kind ≡ Function s place → path ≡ v.name.name → IsKept c p (member_path v.name.name v.name.name) s)
      → left_at cost u.body (f.place + 1) + callers_left c below < bound → Holds c p values → well (resumed (in_scene values None) v path i)
  resumed_ok v name path (Call condition instance arguments) is passes w h kept less holds =
      let low = before_end cost u.body f.place (Call condition instance arguments) is passes in
      let fits = subst (IsCalled at_here arguments) h.0 w.1 in
      let goes : Values → Outcome = λ after. goes_on (in_scene values None) after None in
      subst (λ (t : Text). well (copied (in_scene values None) t (named_forms v.outputs) arguments values goes)) (sym h.2)
      (subst (λ (outputs : List (Text × Form)). well (copied (in_scene values None) (under f.path instance.name) outputs arguments values goes)) (own_outputs c name v h.1)
      (copied_ok c p order bound values f below u k a callers instance.name name arguments None values values k.variables goes h.0 (begins_middle holds) fits.0 (λ after next.
      goes_behind name arguments None values after (omega arith) less fits.1 next (tested_apart c u f.path f.place (Call condition instance arguments) after None is refl))))
  resumed_ok v name path (Invoke function operands) is passes w h kept less holds = by_result k.result w
    where
      inside : f.place < length u.body.steps
      inside = before_end cost u.body f.place (Invoke function operands) is passes

      by_result : (o : Option Known) → WithKnownResult o (λ first. IsInvoked at_here (standard_function function.name) (function_named c function.name) operands first) → well (with_function_value v.kind v.name.name values (λ x. gives (in_scene values None) x))
      by_result None w = absurd w
      by_result (Some first) w =
          let own_one = subst (λ o. IsInvoked at_here None o operands first) h.1 (subst (λ o. IsInvoked at_here o (function_named c function.name) operands first) h.0 w) in
          let low = inside in
          value_back v v.kind (λ s place e. kept s place e h.2) (omega arith) less holds own_one.2 (λ r. tested_apart c u f.path f.place (Invoke function operands) values r is refl)
  resumed_ok v name path (Load negated o) is passes w h kept less holds = absurd h
  resumed_ok v name path (Store kind to) is passes w h kept less holds = absurd h
  resumed_ok v name path Not is passes w h kept less holds = absurd h
  resumed_ok v name path (Operate operator o) is passes w h kept less holds = absurd h
  resumed_ok v name path (Defer operator first) is passes w h kept less holds = absurd h
  resumed_ok v name path Evaluate is passes w h kept less holds = absurd h
  resumed_ok v name path (Jump condition label) is passes w h kept less holds = absurd h
  resumed_ok v name path (Return condition) is passes w h kept less holds = absurd h
