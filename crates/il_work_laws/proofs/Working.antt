-- What is left of a scan's work falls by what a step does.
use Rattle.std.proofs.Common.{◌≡◌, ◌<◌, ◌≤◌, ℕ, zero, suc, ◌+◌, ◌-◌, Bool, true, List, [], ◌∷◌, refl, sym, ap, ◌∙◌, Some, None, Option, subst, length, arith}
use Rattle.il_syntax.specs.declared.tree.Config.{Config}
use Rattle.il_syntax.specs.declared.tree.Unit.{Unit as ProgramUnit}
use Rattle.il_syntax.specs.declared.tree.Form.{Form}
use Rattle.il_syntax.specs.declared.tree.Form.TheVariants.{Scalar as ScalarForm, Array as ArrayForm, Block as BlockForm}
use Rattle.il_syntax.specs.declared.tree.Named.{Named}
use Rattle.il_syntax.specs.declared.tree.Argument.{Argument}
use Rattle.il_syntax.specs.declared.tree.Operand.{Operand}
use Rattle.il_syntax.specs.declared.tree.Operator.{Operator}
use Rattle.il_syntax.specs.declared.tree.Store.{Store as StoreKind}
use Rattle.il_syntax.specs.declared.tree.Elementary.{Elementary}
use Rattle.std.specs.Prelude.{not}
use Rattle.il_syntax.specs.declared.tree.Condition.{Condition}
use Rattle.il_syntax.specs.declared.tree.Instruction.{Instruction}
use Rattle.il_syntax.specs.declared.tree.Instruction.TheVariants.{Load, Store, Not, Operate, Defer, Evaluate, Jump, Return, Call, Invoke}
use Rattle.il_statics.specs.Names.{unit_named, function_named, function_block_named, form_named, standard_function, standard_block, named_forms}
use Rattle.il_statics.specs.declared.names.StandardFunction.{StandardFunction}
use Rattle.il_statics.specs.declared.names.StandardBlock.{StandardBlock}
use Rattle.il_statics.specs.Types.{label_place}
use Rattle.base_maps.specs.NameMap.{Text, with_entries}
use Rattle.il_semantics.specs.Meaning.{fresh_values, natural}
use Rattle.il_semantics.specs.declared.value.Content.{Content}
use Rattle.il_semantics.specs.declared.value.Deferred.{Deferred}
use Rattle.il_semantics.specs.State.{Values, Frame, State}
use Rattle.il_semantics.specs.Annotation.{Annotated, Knowledge}
use Rattle.il_semantics.specs.Paths.{Rest, rest_at, callee, block_unit, place_rest, passing}
use Rattle.il_semantics.specs.Step.{rest_of, Trap, Outcome, Next, Trapped, Stuck, Scene, instruction_at, step_in, step_of, step, goes_to, goes_on, executed, jumped, returned_to, resumed, caller_scene, called, called_block, begun, invoked, evaluated, with_unit, with_place, with_operand, meant, loaded, gives, truth, operated, stored_by, kept_result}
use Rattle.il_semantics.specs.Scan.{begins}
use Rattle.il_semantics_laws.specs.Agreement.{CallsBy, FrameAgrees, CallersAgree, FramesAgree, Agrees, left}
use Rattle.il_semantics_laws.specs.Soundness.{IsInOrder, StepsWell}
use Rattle.il_semantics_laws.proofs.Named.{function_is_unit, name_of}
use Rattle.il_semantics_laws.proofs.Costs.{can_pass, left_at, falls_on, falls_by, falls_jump, return_costs}
use Rattle.il_semantics_laws.proofs.Moving.{stack_of}
use Rattle.il_semantics_laws.proofs.Running.{block_is_unit}
use Rattle.il_semantics_laws.proofs.Scanning.{step_sound, starts}
use Rattle.il_work_laws.specs.Work.{instruction_work, step_work, work_behind, work_of, called_work, own_work, work_table, most_within, most_work, WorksWithin, ScansDoNoMore}
use Rattle.il_statics.specs.Faults.{Declaring, Typing, Broken, HasNoFault}
use Rattle.il_statics.specs.Written.{IsWritten}
use Rattle.il_semantics_laws.specs.Accepted.{IsOrdered}
use Rattle.il_semantics_laws.proofs.Premises.{in_order}
use Rattle.il_work_laws.proofs.Outcomes as every

-- WHAT IS LEFT

-- the table of a unit that may be missing, where units below it use one another so deep
abbrev table_by : ℕ → Config → Option ProgramUnit → List Rest
table_by n c None = []
table_by n c (Some u) = work_table (most_within n c) c u

-- what a frame above so many others may still do from a place on
abbrev work_rest : Config → ℕ → Frame → ℕ → ℕ
work_rest c below f place = (rest_at (table_by (15 - below) c (unit_named c f.unit)) 0 place).cost

-- what the frames that have called may still do after their calls
abbrev callers_work : Config → List Frame → ℕ
callers_work c [] = 0
callers_work c (f ∷ below) = work_rest c (length below) f (f.place + 1) + callers_work c below

-- at most so much work is left
abbrev work_left : Config → List Frame → ℕ
work_left c [] = 0
work_left c (f ∷ below) = work_rest c (length below) f f.place + callers_work c below

-- A STEP

-- what a step leads to has so much less left
abbrev Falls : Config → (now before : ℕ) → Outcome → Type 0
Falls c now before (Next t) = now + work_left c t.frames ≤ before
Falls c now before (Trapped t) = Unit {0}
Falls c now before Stuck = Unit {0}

module _ (c : Config) (p : ProgramUnit) (order : IsInOrder c p) (values : Values) (result : Option Content) (f : Frame) (below : List Frame) (u : ProgramUnit) (k : Knowledge) (a : FrameAgrees c p values f u k) (callers : CallersAgree c p values u f.unit f.path below) where
  abbrev own : Instruction → ℕ
  own i = own_work (most_within (15 - length below) c) c u i

  abbrev left_from : ℕ → ℕ
  left_from place = left_at own u.body place

  abbrev scene : Scene
  scene = record { config = c; unit = u; frame = f; below = below; values = values; result = result }

  -- the step has done the work of an instruction
  abbrev Q : Instruction → Outcome → Type 0
  Q i = Falls c (instruction_work c i) (left_from f.place + callers_work c below)

  positive : (i : Instruction) → 0 < own i
  positive i = omega arith

  -- of a frame of the same unit
  rest_is : (g : Frame) (place : ℕ) → g.unit ≡ f.unit → work_rest c (length below) g place ≡ left_from place
  rest_is g place same = ap (λ o. (rest_at (table_by (15 - length below) c o) 0 place).cost) (ap (unit_named c) same ∙ a.named)

  trapped : (i : Instruction) (t : Trap) → Q i (Trapped t)
  trapped i t = tt

  -- the frame goes on at a place from which enough less is left
  goes : (i : Instruction) (place : ℕ) (ds : List Deferred) (after : Values) (r : Option Content) → instruction_work c i + left_from place ≤ left_from f.place → Q i (goes_to scene place ds after r)
  goes i place ds after r less =
      let frame : Frame = record { unit = f.unit; path = f.path; place = place; deferred = ds } in
      let later = rest_is frame place refl in
      omega arith

  -- after an instruction is the next one, of which its own work is not left any more
  abbrev IsPassed : Instruction → Type 0
  IsPassed i = (tail : List Rest) (next : ℕ) → place_rest u.body i (own i) tail next ≡ passing (own i) tail next

  passes_on : (i : Instruction) → instruction_at u.body f.place ≡ i → can_pass i ≡ true → IsPassed i → (ds : List Deferred) (after : Values) (r : Option Content) → Q i (goes_to scene (f.place + 1) ds after r)
  passes_on i is passes alike ds after r = let e = falls_by own u.body positive f.place i is passes alike in goes i (f.place + 1) ds after r (omega arith)

  -- a body that an instruction runs begins
  begins_body : (i : Instruction) (name path : Text) (v : ProgramUnit) (now : Values) → instruction_at u.body f.place ≡ i → can_pass i ≡ true → IsPassed i → callee c u i ≡ Some v → unit_named c name ≡ Some v → CallsBy c u v i → Q i (begun scene name path now)
  begins_body i name path v now is passes alike runs named calls =
      let entered : Frame = record { unit = name; path = path; place = 0; deferred = [] } in
      let stack = stack_of c p order values u f.unit f.path below callers in
      let low = order.shallow v (u ∷ stack.0) (order.uses u v f.place a.among (subst (CallsBy c u v) (sym is) calls), stack.1) in
      let level : suc (15 - suc (length below)) ≡ 15 - length below = let n = stack.2 in omega arith in
      let body : work_rest c (suc (length below)) entered 0 ≡ most_within (15 - length below) c v =
      ap (λ o. (rest_at (table_by (15 - suc (length below)) c o) 0 0).cost) named ∙ ap (λ n. most_within n c v) level in
      let own_is : own i ≡ instruction_work c i + most_within (15 - length below) c v = ap (λ o. instruction_work c i + called_work (most_within (15 - length below) c) o) runs in
      let falls = falls_by own u.body positive f.place i is passes alike in
      let rest = rest_is f (f.place + 1) refl in
      omega arith

  -- CALLS

  calls : (condition : Condition) (instance : Named) (arguments : List Argument) → instruction_at u.body f.place ≡ Call condition instance arguments → Q (Call condition instance arguments) (called scene instance.name arguments (form_named c u instance.name))
  calls condition instance arguments is = by_form (form_named c u instance.name) refl
    where
      by_block : (block : Text) (path : Text) (o : Option ProgramUnit) (t : Option StandardBlock) (now : Values) → form_named c u instance.name ≡ Some (BlockForm block) → function_block_named c block ≡ o → Q (Call condition instance arguments) (called_block scene block path arguments o t now)
      by_block block path (Some v) t now form own_block =
          begins_body (Call condition instance arguments) block path v now is refl (λ tail next. refl) (ap (block_unit c) form ∙ own_block) (block_is_unit c block v own_block) (block, form, own_block)
      by_block block path None (Some b) now form own_block = every.of_copied (Q (Call condition instance arguments)) (trapped (Call condition instance arguments)) tt scene path _ arguments _ _ (λ after. passes_on (Call condition instance arguments) is refl (λ tail next. refl) f.deferred after None)
      by_block block path None None now form own_block = tt

      by_form : (o : Option Form) → form_named c u instance.name ≡ o → Q (Call condition instance arguments) (called scene instance.name arguments o)
      by_form None form = tt
      by_form (Some (ScalarForm s)) form = tt
      by_form (Some (ArrayForm bounds e)) form = tt
      by_form (Some (BlockForm block)) form = every.of_assigned (Q (Call condition instance arguments)) (trapped (Call condition instance arguments)) tt scene _ _ arguments values _ (λ now. by_block block _ (function_block_named c block) (standard_block block) now form refl)

  invokes : (function : Named) (operands : List Operand) (first : Content) → instruction_at u.body f.place ≡ Invoke function operands → Q (Invoke function operands) (invoked scene (standard_function function.name) (function_named c function.name) operands first)
  invokes function operands first is = by_function (standard_function function.name) (function_named c function.name) refl refl
    where
      own_one : (v : ProgramUnit) → standard_function function.name ≡ None → function_named c function.name ≡ Some v → (now : Values) → Q (Invoke function operands) (begun scene v.name.name v.name.name now)
      own_one v none is_v now =
          let unit = function_is_unit c function.name v is_v in
          let same = name_of c function.name v unit.0 in
          begins_body (Invoke function operands) v.name.name v.name.name v now is refl (λ tail next. refl) is_v (ap (unit_named c) same ∙ unit.0) (none, is_v)

      by_function : (s : Option StandardFunction) (o : Option ProgramUnit) → standard_function function.name ≡ s → function_named c function.name ≡ o → Q (Invoke function operands) (invoked scene s o operands first)
      by_function (Some s) o none is_o = every.of_standard_arguments (Q (Invoke function operands)) (trapped (Invoke function operands)) tt scene s first operands _ (λ further.
          every.of_applied (Q (Invoke function operands)) (trapped (Invoke function operands)) tt s first further _ (λ x. passes_on (Invoke function operands) is refl (λ tail next. refl) f.deferred values (Some x)))
      by_function None None none is_o = tt
      by_function None (Some v) none is_v = every.of_arguments (Q (Invoke function operands)) (trapped (Invoke function operands)) tt scene (rest_of (named_forms v.inputs)) operands _ (λ further.
          every.of_passed (Q (Invoke function operands)) (trapped (Invoke function operands)) tt v.name.name (named_forms v.inputs) (first ∷ further) (with_entries values (fresh_values c v)) _ (λ now. own_one v none is_v now))

  -- RETURNS

  resumes : (condition : Condition) (caller : Frame) (rest : List Frame) (w : ProgramUnit) (path : Text) (i : Instruction) → 0 < left_from f.place → Falls c 1 (left_from f.place + callers_work c (caller ∷ rest)) (resumed (caller_scene scene w caller rest) u path i)
  resumes condition caller rest w path (Call other instance arguments) some =
      every.of_copied (Falls c 1 (left_from f.place + callers_work c (caller ∷ rest))) (λ t. tt) tt (caller_scene scene w caller rest) path (named_forms u.outputs) arguments values _ (λ after. omega arith)
  resumes condition caller rest w path (Invoke function operands) some =
      every.of_function_value (Falls c 1 (left_from f.place + callers_work c (caller ∷ rest))) (λ t. tt) tt u.kind u.name.name values _ (λ x. omega arith)
  resumes condition caller rest w path (Load negated o) some = tt
  resumes condition caller rest w path (Store kind to) some = tt
  resumes condition caller rest w path Not some = tt
  resumes condition caller rest w path (Operate operator o) some = tt
  resumes condition caller rest w path (Defer operator first) some = tt
  resumes condition caller rest w path Evaluate some = tt
  resumes condition caller rest w path (Jump other label) some = tt
  resumes condition caller rest w path (Return other) some = tt

  returns : (condition : Condition) (bs : List Frame) → 0 < left_from f.place → Falls c 1 (left_from f.place + callers_work c bs) (returned_to scene bs)
  returns condition [] some = omega arith
  returns condition (caller ∷ rest) some = by_unit (unit_named c caller.unit)
    where
      by_unit : (o : Option ProgramUnit) → Falls c 1 (left_from f.place + callers_work c (caller ∷ rest)) (with_unit o (λ w. resumed (caller_scene scene w caller rest) u f.path (instruction_at w.body caller.place)))
      by_unit None = tt
      by_unit (Some w) = resumes condition caller rest w f.path (instruction_at w.body caller.place) some

  -- JUMPS

  jumps : (condition : Condition) (label : Named) → instruction_at u.body f.place ≡ Jump condition label → Q (Jump condition label) (jumped scene condition label.name true)
  jumps condition label is = by_place (label_place u.body label.name) refl
    where
      by_place : (o : Option ℕ) → label_place u.body label.name ≡ o → Q (Jump condition label) (with_place o (λ place. goes_to scene place f.deferred values (kept_result condition result)))
      by_place None there = tt
      by_place (Some to) there =
          let ahead = order.forward u f.place to condition label a.among is there in
          let falls = falls_jump own u.body positive f.place to condition label is there ahead in
          goes (Jump condition label) to f.deferred values (kept_result condition result) (omega arith)

  -- what doesn't act goes on at the next place
  rests_on : (i : Instruction) → instruction_at u.body f.place ≡ i → can_pass i ≡ true → instruction_work c i ≡ 1 → (r : Option Content) → Q i (goes_on scene values r)
  rests_on i is passes one r = let falls = falls_on own u.body positive f.place i is passes in goes i (f.place + 1) f.deferred values r (omega arith)

  -- AN INSTRUCTION

  -- an instruction that reads an operand
  reads : (i : Instruction) (operand : Operand) (e : Elementary) (go : Content → Outcome) → ((x : Content) → Q i (go x)) → Q i (with_operand e f.path values (meant scene operand) go)
  reads i operand e go q = every.of_operand (Q i) (trapped i) tt e f.path values (meant scene operand) go q

  loads : (negated : Bool) (operand : Operand) → instruction_at u.body f.place ≡ Load negated operand → Q (Load negated operand) (executed scene (Load negated operand))
  loads negated operand is = reads (Load negated operand) operand (natural (meant scene operand)) (λ x. loaded negated x (λ d. gives scene d)) (λ x.
      every.of_loaded (Q (Load negated operand)) (trapped (Load negated operand)) tt negated x (λ d. gives scene d) (λ d. passes_on (Load negated operand) is refl (λ tail next. refl) f.deferred values (Some d)))

  stores : (kind : StoreKind) (to : Operand) → instruction_at u.body f.place ≡ Store kind to → Q (Store kind to) (executed scene (Store kind to))
  stores kind to is = every.of_result (Q (Store kind to)) (trapped (Store kind to)) tt result _ (λ x.
      every.of_location (Q (Store kind to)) (trapped (Store kind to)) tt f.path values (meant scene to) (λ l. stored_by kind values l x (λ after. goes_on scene after result)) (λ l.
      every.of_stored_by (Q (Store kind to)) (trapped (Store kind to)) tt kind values l x _ (λ after. passes_on (Store kind to) is refl (λ tail next. refl) f.deferred after result)))

  negates : instruction_at u.body f.place ≡ Not → Q Not (executed scene Not)
  negates is = every.of_result (Q Not) (trapped Not) tt result _ (λ x.
      every.of_boolean (Q Not) (trapped Not) tt x.value (λ b. gives scene (truth (not b))) (λ b. passes_on Not is refl (λ tail next. refl) f.deferred values (Some (truth (not b)))))

  operates : (operator : Operator) (operand : Operand) → instruction_at u.body f.place ≡ Operate operator operand → Q (Operate operator operand) (executed scene (Operate operator operand))
  operates operator operand is = every.of_result (Q (Operate operator operand)) (trapped (Operate operator operand)) tt result _ (λ left.
      reads (Operate operator operand) operand left.elementary (λ right. operated operator left right (λ x. gives scene x)) (λ right.
      every.of_operated (Q (Operate operator operand)) (trapped (Operate operator operand)) tt operator left right _ (λ x. passes_on (Operate operator operand) is refl (λ tail next. refl) f.deferred values (Some x))))

  -- what is put aside
  abbrev aside : Operator → Content → List Deferred
  aside operator left = record { operator = operator; left = left } ∷ f.deferred

  defers : (operator : Operator) (first : Option Operand) → instruction_at u.body f.place ≡ Defer operator first → Q (Defer operator first) (executed scene (Defer operator first))
  defers operator None is = every.of_result (Q (Defer operator None)) (trapped (Defer operator None)) tt result _ (λ left.
      passes_on (Defer operator None) is refl (λ tail next. refl) (aside operator left) values None)
  defers operator (Some first) is = every.of_result (Q (Defer operator (Some first))) (trapped (Defer operator (Some first))) tt result _ (λ left.
      reads (Defer operator (Some first)) first (natural (meant scene first)) (λ x. goes_to scene (f.place + 1) (aside operator left) values (Some x)) (λ x.
      passes_on (Defer operator (Some first)) is refl (λ tail next. refl) (aside operator left) values (Some x)))

  evaluates : instruction_at u.body f.place ≡ Evaluate → Q Evaluate (executed scene Evaluate)
  evaluates is = every.of_result (Q Evaluate) (trapped Evaluate) tt result _ (λ right. by_deferred f.deferred right)
    where
      by_deferred : (ds : List Deferred) (right : Content) → Q Evaluate (evaluated scene ds right)
      by_deferred [] right = tt
      by_deferred (d ∷ ds) right = every.of_operated (Q Evaluate) (trapped Evaluate) tt d.operator d.left right _ (λ x. passes_on Evaluate is refl (λ tail next. refl) ds values (Some x))

  executes : (i : Instruction) → instruction_at u.body f.place ≡ i → Q i (executed scene i)
  executes (Load negated operand) is = loads negated operand is
  executes (Store kind to) is = stores kind to is
  executes Not is = negates is
  executes (Operate operator operand) is = operates operator operand is
  executes (Defer operator first) is = defers operator first is
  executes Evaluate is = evaluates is
  executes (Jump condition label) is = every.of_acting (Q (Jump condition label)) (trapped (Jump condition label)) tt condition result _ (jumps condition label is) (λ may. rests_on (Jump condition label) is may refl result)
  executes (Return condition) is =
      let some = return_costs own u.body positive f.place condition (let h = a.within in omega arith) is in
      every.of_acting (Q (Return condition)) (trapped (Return condition)) tt condition result _ (returns condition below some) (λ may. rests_on (Return condition) is may refl result)
  executes (Call condition instance arguments) is = every.of_acting (Q (Call condition instance arguments)) (trapped (Call condition instance arguments)) tt condition result _ (calls condition instance arguments is) (λ may. passes_on (Call condition instance arguments) is refl (λ tail next. refl) f.deferred values None)
  executes (Invoke function operands) is = every.of_result (Q (Invoke function operands)) (trapped (Invoke function operands)) tt result _ (λ first. invokes function operands first is)

-- A SCAN

step_falls : (c : Config) (p : ProgramUnit) → IsInOrder c p → (values : Values) (result : Option Content) (fs : List Frame) → FramesAgree c p values result fs → Falls c (step_work c fs) (work_left c fs) (step_of c values result fs)
step_falls c p order values result [] agree = tt
step_falls c p order values result (f ∷ below) agree =
    let u = agree.0 in
    let here = executes c p order values result f below u agree.1 agree.2 agree.4 (instruction_at u.body f.place) refl in
    let room = ap (λ n. n + callers_work c below) (rest_is c p order values result f below u agree.1 agree.2 agree.4 f f.place refl) in
    rw agree.2.named (subst (λ n. Falls c (instruction_work c (instruction_at u.body f.place)) n (step_in c values result f below u)) (sym room) here)

falls : (c : Config) (p : ProgramUnit) → IsInOrder c p → (s : State) → Agrees c p s → Falls c (step_work c s.frames) (work_left c s.frames) (step c s)
unfolding step
falls c p order s agrees = step_falls c p order s.values s.result s.frames agrees.frames

-- after the end there is none
over : (c : Config) (n : ℕ) (s : State) → s.frames ≡ [] → step_work c s.frames + work_behind (work_of n c) (step c s) ≤ work_left c s.frames
unfolding step
over c n s ended = rw ended (omega arith)

works : (c : Config) (p : ProgramUnit) → IsInOrder c p → Annotated c → (n : ℕ) (s : State) → Agrees c p s → work_of n c s ≤ work_left c s.frames
works c p order annotated zero s agrees = omega arith
works c p order annotated (suc n) s agrees = by_frames s.frames refl (λ t well. works c p order annotated n t well)
  where
    by_outcome : (o : Outcome) (before : ℕ) → ((t : State) → Agrees c p t → work_of n c t ≤ work_left c t.frames) → StepsWell c p before o → Falls c (step_work c s.frames) (work_left c s.frames) o → step_work c s.frames + work_behind (work_of n c) o ≤ work_left c s.frames
    by_outcome (Next t) before later well falls = let more = later t well.0 in omega arith
    by_outcome (Trapped t) before later well falls = absurd well
    by_outcome Stuck before later well falls = absurd well

    by_frames : (fs : List Frame) → s.frames ≡ fs → ((t : State) → Agrees c p t → work_of n c t ≤ work_left c t.frames) → step_work c s.frames + work_behind (work_of n c) (step c s) ≤ work_left c s.frames
    by_frames [] is later = over c n s is
    by_frames (f ∷ below) is later = by_outcome (step c s) (left c s.frames) later (step_sound c p order annotated s agrees (λ ended. let bad : f ∷ below ≡ [] = sym is ∙ ended in cc)) (falls c p order s agrees)

-- no scan does more than the table says
pub scans_work_within : (c : Config) (p : ProgramUnit) → Annotated c → IsInOrder c p → WorksWithin c p
unfolding begins most_work
scans_work_within c p annotated order variables given holds n =
    let start = starts c p annotated order variables given holds in
    let all = works c p order annotated n (begins p variables given) start.agrees in
    let whole = ap (λ o. (rest_at (table_by 15 c o) 0 0).cost) order.named in
    omega arith

-- of a configuration in which no rule is broken, and whose instructions have ranges
pub scans_do_no_more : (c : Config) → IsWritten c → HasNoFault (Broken Declaring c) → HasNoFault (Broken Typing c) → IsOrdered c → Annotated c → ScansDoNoMore c
scans_do_no_more c written declared typed ordered annotated p named = scans_work_within c p annotated (in_order c p (record { written = written; declared = declared; typed = typed; ordered = ordered; program = named }))
