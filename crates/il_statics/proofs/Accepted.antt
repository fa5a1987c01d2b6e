-- A configuration that breaks no rule: the program LD V, ADD 1, ST V with V : INT.
use Rattle.std.specs.Prelude.{◌≡◌, ◌≢◌, ℕ, zero, suc, ◌+◌, ◌<◌, ◌≤◌, pos, ◌≤ℤ◌, Bool, true, false, IsTrue, IsFalse, List, [], ◌∷◌, ◌++◌, length, sum_by, map, option_map, if◌then◌else◌, Option, Some, None, codes, bytes_eq, refl, Contains}
use Rattle.std.proofs.Common.{arith, ap, sym, subst, ◌∙◌}
use Rattle.std.proofs.lemmas.Int.{ints}
use Rattle.il_syntax.specs.declared.tree.Config.{Config}
use Rattle.il_syntax.specs.declared.tree.Unit.{Unit as ProgramUnit}
use Rattle.il_syntax.specs.declared.tree.Step.{Step}
use Rattle.il_syntax.specs.declared.tree.Declaration.{Declaration}
use Rattle.il_syntax.specs.declared.tree.Named.{Named}
use Rattle.il_syntax.specs.declared.tree.Place.{Place}
use Rattle.il_syntax.specs.declared.tree.Initial.{Initial}
use Rattle.il_syntax.specs.declared.tree.Elementary.{Elementary}
use Rattle.il_syntax.specs.declared.tree.Elementary.TheVariants.{Int}
use Rattle.il_syntax.specs.declared.tree.Reference.TheVariants.{Literal as OfLiteral, Variable as OfVariable}
use Rattle.il_syntax.specs.declared.tree.Literal.TheVariants.{Bare}
use Rattle.il_syntax.specs.declared.tree.Arithmetic.TheVariants.{Add}
use Rattle.il_syntax.specs.declared.tree.Operator.TheVariants.{Arithmetic as ArithmeticOperator}
use Rattle.il_syntax.specs.declared.tree.Store.TheVariants.{Plain}
use Rattle.il_syntax.specs.declared.tree.Instruction.TheVariants.{Store as StoreInto, Operate, Invoke}
use Rattle.il_statics.specs.declared.names.Origin.{Origin}
use Rattle.il_statics.specs.declared.names.Origin.TheVariants.{Local as AsVariable, External as AsExternal}
use Rattle.il_statics.specs.declared.names.Role.{Role}
use Rattle.il_statics.specs.declared.names.Role.TheVariants.{Car as CarRole}
use Rattle.il_statics.specs.Names.{Variable, Spelling, is_predeclared, program_named, task_role, program_role, image_name, standard_function, standard_block, meaning}
use Rattle.il_statics.specs.Declarations.{IsAgain, IsTypeBroken, IsInitialBroken, IsNameBroken, IsExternal, IsDuplicate, predeclared_unit, second_unit, predeclared_variable, variable_as_unit, second_variable, second_label, predeclared_global, global_as_unit, second_global, second_task, second_program_line, IsUnknown, unknown_type, unknown_global, unknown_name, IsInitialOutside, initial_outside as outside, size_outside, IsBadTask, foreign_task, unknown_task, second_line, unknown_program, other_role, missing_task, missing_line, unused_program, HasOtherType, type_misplaced, initial_of_other_type, external_differs, name_of_other_type, type_numbers, name_numbers, unit_names, labels_of, names_of_units, names_of_tasks, is_within}
use Rattle.il_statics.specs.Faults.{duplicate, unknown, empty_range, initial_outside, bad_task, other_type, Declaring, Typing, of_instruction, unknown_label as of_unknown_label, backward_jump, two_writers as of_two_writers, unreached as of_unreached, Ordering, recursive as of_recursive, long_chain as of_long_chain, too_many_slots as of_slots, HasNoFault, Broken}
use Rattle.il_statics.specs.Order.{Uses, calls, declares, IsChain, UsesThrough, recursive, long_chain, of_task, of_globals, AreFunctionsOf, unit_slots, function_slots, block_slots}
use Rattle.il_syntax.specs.declared.tree.Operand.{Operand}
use Rattle.il_syntax.specs.declared.tree.Form.TheVariants.{Block as OfBlock}
use Rattle.il_statics.specs.Types.{typing_numbers, type_after, reference_type, type_along, Deferred, AllGive, IsResultAt, StandsAt, JumpsAt, Follows, onward, Leads, IsReached, IsExternalOf, unknown_label, backward, two_writers, unreached}
use Rattle.il_statics.proofs.Passes.{result_is}
use Rattle.il_statics.proofs.Rows.{follows-up, leads-up, one_step, after_load, label_there, no_name, one_instruction, named, declared, step, operand, load, int, program, frame, only, not_both}

abbrev counting_program : ProgramUnit
counting_program =
    program 10 (codes "C") (declared (named 20 (codes "V") ∷ []) 21 int None ∷ []) [] (step 30 (load 31 (OfVariable (codes "V"))) ∷ step 40 (Operate (ArithmeticOperator Add) (operand 41 (OfLiteral (Bare (pos 1))))) ∷ step 50 (StoreInto Plain (operand 51 (OfVariable (codes "V")))) ∷ [])

abbrev counting : Config
counting = frame (counting_program ∷ [])

abbrev counting_initial : Option Initial
counting_initial = None

-- an empty list contains nothing
none_in : {X : Type 0} (x : X) → Contains [] x → ⊥
none_in x (k, low, e) = omega arith

pub three : {X : Type 0} (P : X → Type 0) (x y w z : X) → P x → P y → P w → Contains (x ∷ y ∷ w ∷ []) z → P z
three P x y w z first second third (zero, low, e) = subst P e first
three P x y w z first second third (suc zero, low, e) = subst P e second
three P x y w z first second third (suc (suc zero), low, e) = subst P e third
three P x y w z first second third (suc (suc (suc k)), low, e) = absurd (omega arith)

too_short : {X : Type 0} (before after : List X) (y : X) → [] ≡ before ++ y ∷ after → ⊥
too_short [] after y e = let n = ap length e in omega arith
too_short (b ∷ before) after y e = let n = ap length e in omega arith

-- all but the first
abbrev tail_of : {X : Type 0} → List X → List X
tail_of [] = []
tail_of (h ∷ t) = t

-- in a list of one nothing is again
again_in_one : {X : Type 0} (name : X → Spelling) (x y : X) → IsAgain name (x ∷ []) y → ⊥
again_in_one name x y ([], after, e, c) = none_in (name y) c
again_in_one name x y (b ∷ before, after, e, c) = too_short before after y (ap tail_of e)

again_in_none : {X : Type 0} (name : X → Spelling) (y : X) → IsAgain name [] y → ⊥
again_in_none name y (before, after, e, c) = too_short before after y e

-- a unit of the configuration is its program
of_program : (P : ProgramUnit → Type 0) (unit : ProgramUnit) → P counting_program → Contains counting.units unit → P unit
of_program P unit here among = only P counting_program unit here among

no_type_broken : (number : ℕ) (place : Place) → IsTypeBroken counting number place → ⊥
unfolding type_numbers
no_type_broken number place (t, among, broken, at) =
    only (λ w. Contains (type_numbers counting w.0 w.1.form) number → ⊥) _ t (λ c. none_in number c) among broken

no_initial_broken : (number : ℕ) (place : Place) → IsInitialBroken counting number place → ⊥
no_initial_broken number place (d, initial, among, there, broken, at) =
    only (λ e. e.initial ≡ Some initial → ⊥) _ d (λ e. no_initial initial e) among there
  where
    no_initial : (i : Initial) → counting_initial ≡ Some i → ⊥
    no_initial i e = cc

no_name_broken : (number : ℕ) (place : Place) → IsNameBroken counting number place → ⊥
unfolding name_numbers meaning image_name standard_function standard_block
no_name_broken number place (unit, s, among, listed, broken, at) =
    of_program (λ u. Contains u.body.steps s → Contains (name_numbers counting u s.instruction) number → ⊥) unit (λ l. three (λ w. Contains (name_numbers counting counting_program w.instruction) number → ⊥) _ _ _ s (none_in number) (none_in number) (none_in number) l) among listed broken

no_external : (d : Declaration) (n : Named) → IsExternal counting d n → ⊥
no_external d n e = of_program (λ u. Contains u.externals d → ⊥) e.unit (none_in d) e.written e.listed

not_duplicate : (place : Place) → IsDuplicate counting place → ⊥
unfolding image_name standard_function standard_block
not_duplicate place (predeclared_unit unit among pre at) = of_program (λ u. IsTrue (is_predeclared counting u.name.name) → ⊥) unit (λ t. not_both _ t refl) among pre
not_duplicate place (second_unit unit again at) = again_in_one (λ u. u.name.name) counting_program unit again
not_duplicate place (predeclared_variable unit n among listed pre at) =
    of_program (λ u. Contains (unit_names u) n → ⊥) unit (λ l. only (λ m. IsTrue (is_predeclared counting m.name) → ⊥) _ n (λ t. not_both _ t refl) l pre) among listed
not_duplicate place (variable_as_unit unit n among listed same at) =
    of_program (λ u. Contains (unit_names u) n → ⊥) unit (λ l. only (λ m. Contains (names_of_units counting) m.name → ⊥) _ n (λ c. only (λ w. w ≡ codes "V" → ⊥) (codes "C") _ (λ e. not_both (bytes_eq (codes "C") (codes "V")) (ap (λ w. bytes_eq w (codes "V")) e) refl) c refl) l same) among listed
not_duplicate place (second_variable unit n among again at) = of_program (λ u. IsAgain (λ m. m.name) (unit_names u) n → ⊥) unit (again_in_one (λ m. m.name) _ n) among again
not_duplicate place (second_label unit n among again at) = of_program (λ u. IsAgain (λ m. m.name) (labels_of u.body) n → ⊥) unit (again_in_none (λ m. m.name) n) among again
not_duplicate place (predeclared_global n among pre at) = none_in n among
not_duplicate place (global_as_unit n among same at) = none_in n among
not_duplicate place (second_global n again at) = again_in_none (λ m. m.name) n again
not_duplicate place (second_task task again at) = again_in_one (λ t. t.name.name) _ task again
not_duplicate place (second_program_line line again at) = again_in_one (λ l. l.name.name) _ line again

not_unknown : (place : Place) → IsUnknown counting place → ⊥
not_unknown place (unknown_type t) = no_type_broken 21 place t
not_unknown place (unknown_global d n e none at) = no_external d n e
not_unknown place (unknown_name n) = no_name_broken 21 place n

not_outside : (place : Place) → IsInitialOutside counting place → ⊥
not_outside place (outside i) = no_initial_broken 23 place i
not_outside place (size_outside s among out at) = three (λ t. IsFalse (is_within t.1 t.0.value) → ⊥) _ _ _ s (λ f. not_both _ refl f) (λ f. not_both _ refl f) (λ f. not_both _ refl f) among out

-- a role is not missing, nor a unit
abbrev no_role : Option Role
no_role = None

abbrev no_unit : Option ProgramUnit
no_unit = None

role_there : Some CarRole ≡ no_role → ⊥
role_there e = cc

unit_there : (u : ProgramUnit) → Some u ≡ no_unit → ⊥
unit_there u e = cc

-- the group has one car
car_one : (k : ℕ) → 1 ≤ k → pos k ≤ℤ pos 1 → k ≡ 1
car_one k low high = omega (arith, ints)

not_bad_task : (place : Place) → IsBadTask counting place → ⊥
unfolding image_name standard_function standard_block
not_bad_task place (foreign_task task among none at) = only (λ t. task_role counting.cars.value t.name.name ≡ None → ⊥) _ task role_there among none
not_bad_task place (unknown_task line among none at) = only (λ l. ¬ Contains (names_of_tasks counting) l.task.name → ⊥) _ line (λ h. h (0, omega arith, refl)) among none
not_bad_task place (second_line line again at) = again_in_one (λ l. l.task.name) _ line again
not_bad_task place (unknown_program line among none at) = only (λ l. program_named counting l.program.name ≡ None → ⊥) _ line (unit_there counting_program) among none
not_bad_task place (other_role line role among has other at) =
    only (λ l. task_role counting.cars.value l.task.name ≡ Some role → program_role counting l.program.name counting.programs ≢ Some role → ⊥) _ line (λ e h. h e) among has other
not_bad_task place (missing_task k low high none at) =
    let one : k ≡ 1 = car_one k low high in
    none _ (0, omega arith, refl) (ap Some (sym one))
not_bad_task place (missing_line task among none at) = only (λ t. ¬ Contains (map (λ l. l.task.name) counting.programs) t.name.name → ⊥) _ task (λ h. h (0, omega arith, refl)) among none
not_bad_task place (unused_program unit among is none at) = of_program (λ u. ¬ Contains (map (λ l. l.program.name) counting.programs) u.name.name → ⊥) unit (λ h. h (0, omega arith, refl)) among none

not_other_type : (place : Place) → HasOtherType counting place → ⊥
not_other_type place (type_misplaced t) = no_type_broken 25 place t
not_other_type place (initial_of_other_type i) = no_initial_broken 25 place i
not_other_type place (external_differs d n form e there differs at) = no_external d n e
not_other_type place (name_of_other_type n) = no_name_broken 25 place n

-- no rule of declarations is broken
pub counting-declared : HasNoFault (Broken Declaring counting)
counting-declared number place (duplicate e d) = not_duplicate place d
counting-declared number place (unknown e u) = not_unknown place u
counting-declared number place (empty_range e r) = no_type_broken 22 place r
counting-declared number place (initial_outside e i) = not_outside place i
counting-declared number place (bad_task e t) = not_bad_task place t
counting-declared number place (other_type e t) = not_other_type place t

-- TYPES

abbrev no_step : Option Step
no_step = None

beyond : (k : ℕ) (s : Step) → StandsAt counting_program.body (suc (suc (suc k))) s → ⊥
beyond k s e = go e
  where
    go : no_step ≡ Some s → ⊥
    go e = cc

-- the one way to the last instruction
to_last : (path : List ℕ) → Leads counting_program.body 0 path 2 → path ≡ 1 ∷ 2 ∷ []
to_last [] l = absurd (omega arith)
to_last (a ∷ []) l =
    let one = after_load counting_program.body 0 _ refl refl a l.0 in
    let two = l.1 in
    absurd (omega arith)
to_last (a ∷ b ∷ []) l =
    let one : a ≡ 1 = after_load counting_program.body 0 _ refl refl a l.0 in
    let two : b ≡ 2 = l.1.1 in
    cc
to_last (a ∷ b ∷ c ∷ path) l =
    let one = after_load counting_program.body 0 _ refl refl a l.0 in
    let two = after_load counting_program.body 1 _ refl refl b (subst (λ n. Follows counting_program.body n b) one l.1.0) in
    let up = follows-up counting_program.body b c l.1.1.0 in
    let on = leads-up counting_program.body c path 2 l.1.1.1 in
    absurd (omega arith)

at_second : AllGive counting counting_program 1 Int
unfolding type_after reference_type meaning image_name
at_second =
    record { reached = (1 ∷ [], (onward _ refl refl refl, refl)); each = λ path l. subst (λ p. type_along counting counting_program 0 p None ≡ Some Int) (sym (one_step _ 0 path l)) refl }

at_third : AllGive counting counting_program 2 Int
unfolding type_after reference_type meaning image_name
at_third =
    record { reached = (1 ∷ 2 ∷ [], (onward _ refl refl refl, (onward _ refl refl refl, refl))); each = λ path l. subst (λ p. type_along counting counting_program 0 p None ≡ Some Int) (sym (to_last path l)) refl }

-- the instructions break nothing
fits : (number at : ℕ) (s : Step) (before : Option Elementary) (deferred : Option Deferred) → StandsAt counting_program.body at s → IsResultAt counting counting_program at before → Contains (typing_numbers counting counting_program s.instruction before deferred) number → ⊥
unfolding typing_numbers reference_type meaning image_name
fits number zero s before deferred stands result broken =
    none_in number (subst (λ i. Contains (typing_numbers counting counting_program i before deferred) number) (sym (one_instruction _ s stands)) broken)
fits number (suc zero) s before deferred stands result broken =
    let is = result_is counting counting_program 1 Int at_second before result in
    none_in number (subst (λ b. Contains (typing_numbers counting counting_program (Operate (ArithmeticOperator Add) (operand 41 (OfLiteral (Bare (pos 1))))) b deferred) number) is (subst (λ i. Contains (typing_numbers counting counting_program i before deferred) number) (sym (one_instruction _ s stands)) broken))
fits number (suc (suc zero)) s before deferred stands result broken =
    let is = result_is counting counting_program 2 Int at_third before result in
    none_in number (subst (λ b. Contains (typing_numbers counting counting_program (StoreInto Plain (operand 51 (OfVariable (codes "V")))) b deferred) number) is (subst (λ i. Contains (typing_numbers counting counting_program i before deferred) number) (sym (one_instruction _ s stands)) broken))
fits number (suc (suc (suc k))) s before deferred stands result broken = beyond k s stands

no_jump : (at : ℕ) (s : Step) (label : Named) → JumpsAt counting_program.body at s label → ⊥
no_jump zero s label jump = no_name label.name (label_there counting_program.body 0 s label _ refl jump)
no_jump (suc zero) s label jump = no_name label.name (label_there counting_program.body 1 s label _ refl jump)
no_jump (suc (suc zero)) s label jump = no_name label.name (label_there counting_program.body 2 s label _ refl jump)
no_jump (suc (suc (suc k))) s label jump = beyond k s jump.stands

abbrev no_origin_there : Option Origin
no_origin_there = None

not_external : (b : Bool) (v : Variable) → v.origin ≡ AsVariable → option_map (λ w. w.origin) (if b then Some v else None) ≡ Some AsExternal → ⊥
not_external true v is e = variable_external (sym (ap Some is) ∙ e)
  where
    variable_external : Some AsVariable ≡ Some AsExternal → ⊥
    variable_external e = cc
not_external false v is e = no_origin e
  where
    no_origin : no_origin_there ≡ Some AsExternal → ⊥
    no_origin e = cc

reached_there : (at : ℕ) (s : Step) → StandsAt counting_program.body at s → IsReached counting_program.body at
reached_there zero s stands = ([], refl)
reached_there (suc zero) s stands = at_second.reached
reached_there (suc (suc zero)) s stands = at_third.reached
reached_there (suc (suc (suc k))) s stands = absurd (beyond k s stands)

-- no rule of types is broken
pub counting-typed : HasNoFault (Broken Typing counting)
counting-typed number place (of_instruction t) =
    of_program (λ u. StandsAt u.body t.at t.step → IsResultAt counting u t.at t.before → Contains (typing_numbers counting u t.step.instruction t.before t.deferred) number → ⊥) t.unit (fits number t.at t.step t.before t.deferred) t.is_step.written t.is_step.stands t.result t.broken
counting-typed number place (of_unknown_label e (unknown_label unit at s label jump none is)) =
    of_program (λ u. JumpsAt u.body at s label → ⊥) unit (no_jump at s label) jump.written jump.jumps
counting-typed number place (backward_jump e (backward unit at to s label jump known up is)) =
    of_program (λ u. JumpsAt u.body at s label → ⊥) unit (no_jump at s label) jump.written jump.jumps
counting-typed number place (of_two_writers e (two_writers name first second unit among stores first_store one two differs)) =
    of_program (λ u. IsExternalOf u name → ⊥) unit (not_external (bytes_eq (codes "V") name) _ refl) among stores.external
counting-typed number place (of_unreached e (unreached unit at s is_step not_reached is)) =
    of_program (λ u. StandsAt u.body at s → ¬ IsReached u.body at → ⊥) unit (λ stands h. h (reached_there at s stands)) is_step.written is_step.stands not_reached

-- ORDER

one_form : (d : Declaration) (name : Spelling) → d.declared.form ≡ int → d.declared.form ≡ OfBlock name → ⊥
one_form d name i b = go (sym i ∙ b)
  where
    go : int ≡ OfBlock name → ⊥
    go e = cc

-- the program uses nothing
no_uses : (used : ProgramUnit) → Uses counting counting_program used → ⊥
no_uses used (calls s function operands listed is known) =
    three (λ w. w.instruction ≡ Invoke function operands → ⊥) _ _ _ s (λ e. loads function operands e) (λ e. adds function operands e) (λ e. stores function operands e) listed is
  where
    loads : (f : Named) (os : List Operand) → load 31 (OfVariable (codes "V")) ≡ Invoke f os → ⊥
    loads f os e = cc

    adds : (f : Named) (os : List Operand) → Operate (ArithmeticOperator Add) (operand 41 (OfLiteral (Bare (pos 1)))) ≡ Invoke f os → ⊥
    adds f os e = cc

    stores : (f : Named) (os : List Operand) → StoreInto Plain (operand 51 (OfVariable (codes "V"))) ≡ Invoke f os → ⊥
    stores f os e = cc
no_uses used (declares d name listed is known) = only (λ e. e.declared.form ≡ OfBlock name → ⊥) _ d (one_form (declared (named 20 (codes "V") ∷ []) 21 int None) name refl) listed is

reaches_none : (between : List ProgramUnit) (other : ProgramUnit) → UsesThrough counting counting_program between other → ⊥
reaches_none [] other u = no_uses other u
reaches_none (next ∷ between) other u = no_uses next u.0

short_chain : (chain : List ProgramUnit) → IsChain counting counting_program chain → 16 < length (counting_program ∷ chain) → ⊥
short_chain [] c long = omega arith
short_chain (next ∷ chain) c long = no_uses next c.0

some_unit : (a b : ProgramUnit) → Some a ≡ Some b → a ≡ b
some_unit a b e = cc

few_slots : (functions : List ProgramUnit) → AreFunctionsOf counting counting_program functions → 4096 < unit_slots counting counting_program + sum_by (function_slots counting) functions → ⊥
few_slots [] are many = omega arith
few_slots (f ∷ functions) are many = let there = are.each 0 f (omega arith) in reaches_none there.1.0 f there.1.1

-- no rule of order is broken
pub counting-ordered : HasNoFault (Broken Ordering counting)
unfolding image_name standard_function standard_block block_slots
counting-ordered number place (of_recursive e (recursive unit among reaches is)) = of_program (λ u. UsesThrough counting u reaches.0 u → ⊥) unit (reaches_none reaches.0 counting_program) among reaches.1
counting-ordered number place (of_long_chain e (long_chain unit chain among is_chain none_twice long is)) =
    of_program (λ u. IsChain counting u chain → 16 < length (u ∷ chain) → ⊥) unit (short_chain chain) among is_chain long
counting-ordered number place (of_slots e (of_task line program functions among known are many is)) =
    only (λ l. program_named counting l.program.name ≡ Some program → ⊥) _ line (λ p. subst (λ u. AreFunctionsOf counting u functions → 4096 < unit_slots counting u + sum_by (function_slots counting) functions → ⊥) (some_unit counting_program program p) (few_slots functions) are many) among known
counting-ordered number place (of_slots e (of_globals many is)) = absurd (omega arith)
