-- A frame goes on: with other values, after its instruction, into a body, and after a call of its own.
use Rattle.std.proofs.Common.{◌≡◌, ◌<◌, ℕ, suc, ◌+◌, ◌-◌, List, [], ◌∷◌, refl, sym, ap, ◌∙◌, Some, None, Option, subst, length, ℤ, arith}
use Rattle.std.specs.Prelude.{option_map, option_and_then}
use Rattle.il_syntax.specs.declared.tree.Subrange.{Subrange}
use Rattle.il_syntax.specs.declared.tree.Form.{Form}
use Rattle.il_statics.specs.Declarations.{declared_limits}
use Rattle.il_semantics.specs.Values.{IsOf, IsValueIn}
use Rattle.il_semantics.specs.Annotation.{Annotated, IsEntry, declared_range, form_range, range, interval}
use Rattle.il_syntax.specs.declared.tree.Config.{Config}
use Rattle.il_syntax.specs.declared.tree.Unit.{Unit as ProgramUnit}
use Rattle.il_syntax.specs.declared.tree.Scalar.{Scalar}
use Rattle.il_syntax.specs.declared.tree.Instruction.{Instruction}
use Rattle.il_syntax.specs.declared.tree.Instruction.TheVariants.{Load, Store, Not, Operate, Defer, Evaluate, Jump, Return, Call, Invoke}
use Rattle.ranges_interval.specs.declared.Interval.{Interval}
use Rattle.ranges_interval.specs.Interval.{IsIn}
use Rattle.il_syntax.specs.declared.tree.Form.TheVariants.{Scalar as ScalarForm, Array as ArrayForm, Block as BlockForm}
use Rattle.il_statics.specs.Names.{form_named, unit_named}
use Rattle.il_semantics.specs.declared.value.Value.{Value}
use Rattle.il_semantics.specs.declared.value.Value.TheVariants.{Boolean, Integer}
use Rattle.il_semantics.specs.declared.value.Content.{Content}
use Rattle.il_semantics.specs.declared.value.Deferred.{Deferred}
use Rattle.base_maps.specs.NameMap.{NameMap, Text, get}
use Rattle.il_semantics.specs.State.{Values, Frame}
use Rattle.il_semantics.specs.Meaning.{under}
use Rattle.il_semantics.specs.Step.{Outcome, Scene, goes_to, instruction_at}
use Rattle.il_semantics.specs.declared.known.KnownDeferred.{KnownDeferred}
use Rattle.il_semantics.specs.Annotation.{Knowledge, IsVariableWithin, IsDeferredWithin, Leads, Spot, places}
use Rattle.il_semantics.specs.Paths.{cost_of, callee, longest_within, rest_at}
use Rattle.il_semantics_laws.specs.Agreement.{CallsBy, IsStack, itself, IsKept, Sees, Holds, IsKnownResult, AreKnown, KnowsVariables, FrameAgrees, CallersAgree, IsCallOf, IsTested, table_by, frame_rest, callers_left}
use Rattle.il_semantics_laws.specs.Soundness.{IsInOrder, StepsWell}
use Rattle.il_semantics_laws.proofs.Named.{found_unit}
use Rattle.il_semantics_laws.proofs.Going.{in_wider, known_wider, result_wider}
use Rattle.il_semantics_laws.proofs.Costs.{left_at, costs_some}
use Rattle.il_semantics_laws.proofs.Storing.{Confined, callers_after}

-- WIDER KNOWLEDGE

deferred_wider : (ks ls : List KnownDeferred) (ds : List Deferred) → IsDeferredWithin ks ls → AreKnown ks ds → AreKnown ls ds
deferred_wider [] [] [] w h = tt
deferred_wider [] [] (d ∷ ds) w h = absurd h
deferred_wider [] (l ∷ ls) ds w h = absurd w
deferred_wider (k ∷ ks) [] ds w h = absurd w
deferred_wider (k ∷ ks) (l ∷ ls) [] w h = absurd h
deferred_wider (k ∷ ks) (l ∷ ls) (d ∷ ds) w h = (sym w.0 ∙ h.0, known_wider k.left l.left d.left w.1 h.1, deferred_wider ks ls ds w.2 h.2)

variables_wider : (c : Config) (u : ProgramUnit) (path : Text) (ks ls : NameMap Interval) (values : Values) → ((name : Text) → IsVariableWithin (get ks name) (get ls name)) → KnowsVariables c u path ks values → KnowsVariables c u path ls values
variables_wider c u path ks ls values w h name i is = by_entry (get ks name) refl (subst (λ o. IsVariableWithin (get ks name) o) is (w name))
  where
    by_entry : (o : Option Interval) → get ks name ≡ o → IsVariableWithin (get ks name) (Some i) → ((s : Scalar) × (form_named c u name ≡ Some (ScalarForm s))) × ((z : ℤ) × (get values (under path name) ≡ Some (Integer z)) × IsIn i z)
    by_entry None at v = absurd (subst (λ o. IsVariableWithin o (Some i)) at v)
    by_entry (Some j) at v = let n = h name j at in (n.0, (n.1.0, n.1.1, in_wider j i n.1.0 (subst (λ o. IsVariableWithin o (Some i)) at v) n.1.2))

-- UNITS

-- what a frame has called, its instruction calls
pub calls_by : (c : Config) (u : ProgramUnit) (g : Frame) (v : ProgramUnit) (name path : Text) (i : Instruction) → IsCallOf c u g v name path i → CallsBy c u v i
calls_by c u g v name path (Call condition instance arguments) h = (name, h.0, h.1)
calls_by c u g v name path (Invoke function operands) h = (h.0, h.1)
calls_by c u g v name path (Load negated o) h = h
calls_by c u g v name path (Store kind to) h = h
calls_by c u g v name path Not h = h
calls_by c u g v name path (Operate operator o) h = h
calls_by c u g v name path (Defer operator first) h = h
calls_by c u g v name path Evaluate h = h
calls_by c u g v name path (Jump condition label) h = h
calls_by c u g v name path (Return condition) h = h

-- the units of the frames below
pub stack_of : (c : Config) (p : ProgramUnit) → IsInOrder c p → (values : Values) (v : ProgramUnit) (name path : Text) (below : List Frame) → CallersAgree c p values v name path below → (us : List ProgramUnit) × IsStack c p v us × (length us ≡ length below)
stack_of c p order values v name path [] agreed = ([], agreed.0, refl)
stack_of c p order values v name path (g ∷ below) agreed =
    let r = stack_of c p order values agreed.0 g.unit g.path below agreed.5 in
    (agreed.0 ∷ r.0, (order.uses agreed.0 v g.place agreed.2.among (calls_by c agreed.0 g v name path (instruction_at agreed.0.body g.place) agreed.3), r.1), ap suc r.2)

-- ENTERING A BODY

-- what the annotation knows of a variable at the entry is so for a value of its declared set
entry_value : (s : Scalar) (v : Value) → IsOf s v → (i : Interval) → IsVariableWithin (range s) (Some i) → (z : ℤ) × (v ≡ Integer z) × IsIn i z
entry_value s v of_it i within = by_limits (declared_limits s) v of_it within
  where
    by_limits : (o : Option Subrange) (v : Value) → IsValueIn o v → IsVariableWithin (option_map interval o) (Some i) → (z : ℤ) × (v ≡ Integer z) × IsIn i z
    by_limits None v h w = absurd w
    by_limits (Some r) (Boolean b) h w = absurd h
    by_limits (Some r) (Integer z) h w = (z, refl, in_wider (interval r) i z w h)

entry_knows : (c : Config) (p v : ProgramUnit) (path : Text) (values : Values) (k : Knowledge) → Holds c p values → ((q : Text) (s : Scalar) → Sees c v path q s → IsKept c p q s) → IsEntry c v k → KnowsVariables c v path k.variables values
entry_knows c p v path values k holds kept entry name i is = by_form (form_named c v name) refl (subst (λ o. IsVariableWithin (declared_range c v name) o) is (entry.variables name))
  where
    by_form : (f : Option Form) → form_named c v name ≡ f → IsVariableWithin (option_and_then form_range (form_named c v name)) (Some i)
        → ((s : Scalar) × (form_named c v name ≡ Some (ScalarForm s))) × ((z : ℤ) × (get values (under path name) ≡ Some (Integer z)) × IsIn i z)
    by_form None at w = absurd (subst (λ f. IsVariableWithin (option_and_then form_range f) (Some i)) at w)
    by_form (Some (ArrayForm bounds e)) at w = absurd (subst (λ f. IsVariableWithin (option_and_then form_range f) (Some i)) at w)
    by_form (Some (BlockForm block)) at w = absurd (subst (λ f. IsVariableWithin (option_and_then form_range f) (Some i)) at w)
    by_form (Some (ScalarForm s)) at w =
        let h = holds (under path name) s (kept (under path name) s (name, ScalarForm s, at, itself _ _ refl refl)) in
        let n = entry_value s h.0 h.2 i (subst (λ f. IsVariableWithin (option_and_then form_range f) (Some i)) at w) in
        ((s, at), (n.0, h.1 ∙ ap Some n.1, n.2))

-- a frame at the entry of a body
abbrev pub entered : (name path : Text) → Frame
entered name path = record { unit = name; path = path; place = 0; deferred = [] }

pub enters : (c : Config) (p v : ProgramUnit) (name path : Text) (values : Values) → Annotated c → unit_named c name ≡ Some v → Holds c p values → ((q : Text) (s : Scalar) → Sees c v path q s → IsKept c p q s)
    → (k : Knowledge) × FrameAgrees c p values (entered name path) v k × IsKnownResult k.result None
enters c p v name path values annotated named holds kept =
    let among = found_unit c name v named in
    let a = annotated v among in
    let first = a.1.entry in (
      first.0,
      record {
        named = named;
        among = among;
        annotation = a.0;
        annotated = a.1;
        within = omega arith;
        stands = first.1;
        kept = kept;
        variables = entry_knows c p v path values first.0 holds kept first.2;
        deferred = subst (λ ds. AreKnown ds []) (sym first.2.deferred) tt;
      },
      subst (λ r. IsKnownResult r None) (sym first.2.result) tt,
    )

-- A FRAME

module _ (c : Config) (p : ProgramUnit) (order : IsInOrder c p) (bound : ℕ) (values : Values) (f : Frame) (below : List Frame) (u : ProgramUnit) (k : Knowledge) (a : FrameAgrees c p values f u k) (callers : CallersAgree c p values u f.unit f.path below) where
  abbrev pub scene : Values → Option Content → Scene
  scene now result = record { config = c; unit = u; frame = f; below = below; values = now; result = result }

  abbrev pub spot : Spot
  spot = record { config = c; unit = u; annotation = a.annotation; place = f.place; known = k }

  abbrev pub Q : Outcome → Type 0
  Q = StepsWell c p bound

  abbrev pub own : Instruction → ℕ
  own i = cost_of (longest_within (15 - length below) c) (callee c u i)

  pub positive : (i : Instruction) → 0 < own i
  positive i = costs_some (longest_within (15 - length below) c) (callee c u i)

  -- what the frame may still cost
  pub rest_is : (g : Frame) (place : ℕ) → g.unit ≡ f.unit → frame_rest c (length below) g place ≡ left_at own u.body place
  rest_is g place same = ap (λ o. (rest_at (table_by (15 - length below) c o) 0 place).cost) (ap (unit_named c) same ∙ a.named)

  -- the frame goes on at a place that costs less
  pub goes_ok : (place : ℕ) (ds : List Deferred) (now after : Values) (was r : Option Content) (next : Knowledge) → Leads a.annotation place next → place < places u → left_at own u.body place + callers_left c below < bound → Holds c p after → Confined f.path values after
      → KnowsVariables c u f.path next.variables after → AreKnown next.deferred ds → IsKnownResult next.result r → IsTested c u f.path place after r → Q (goes_to (scene now was) place ds after r)
  goes_ok place ds now after was r next leads inside less held confined knows deferred is_known tested =
      let frame : Frame = record { unit = f.unit; path = f.path; place = place; deferred = ds } in
      let agrees : FrameAgrees c p after frame u leads.0 = record {
        named = a.named;
        among = a.among;
        annotation = a.annotation;
        annotated = a.annotated;
        within = inside;
        stands = leads.1;
        kept = a.kept;
        variables = variables_wider c u f.path next.variables leads.0.variables after leads.2.variables knows;
        deferred = deferred_wider next.deferred leads.0.deferred ds leads.2.deferred deferred;
      } in
      let later = rest_is frame place refl in (
        record { holds = held; frames = (u, leads.0, agrees, result_wider next.result leads.0.result r leads.2.result is_known, callers_after c p values after u f.unit f.path below order.words confined callers, tested) },
        omega arith,
      )
