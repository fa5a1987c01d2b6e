-- A configuration that is sound, so that the laws' premises can be met: one car, two floors, one slot, and a program with an empty body.
use Rattle.std.proofs.Common.{◌≡◌, ◌≢◌, ℕ, zero, suc, ◌<◌, ◌≤◌, ◌≤ℤ◌, pos, Bool, true, false, cond, List, [], ◌∷◌, ◌++◌, map, length, refl, sym, ap, ◌∙◌, subst, Some, None, Option, Contains, codes, slice_get, arith}
use Rattle.std.proofs.lemmas.Int.{ints}
use Rattle.std.proofs.lemmas.Slice.Eq.{bytes_eq-Decides}
use Rattle.std.specs.Ordering.{eq_by_cmp}
use Rattle.std.specs.Prelude.{IsTrue, IsFalse, find, bytes_eq, not, option_map, option_and_then, if◌then◌else◌}
use Rattle.il_syntax.specs.declared.tree.Config.{Config}
use Rattle.il_syntax.specs.declared.tree.Declaration.{Declaration}
use Rattle.il_syntax.specs.declared.tree.Named.{Named}
use Rattle.il_syntax.specs.declared.tree.Place.{Place}
use Rattle.il_syntax.specs.declared.tree.Step.{Step}
use Rattle.il_syntax.specs.declared.tree.Form.{Form}
use Rattle.il_syntax.specs.declared.tree.Unit.{Unit as ProgramUnit}
use Rattle.ranges_interval.specs.declared.Interval.{Interval}
use Rattle.ranges_interval.specs.Interval.{IsWithin}
use Rattle.il_statics.specs.declared.names.Role.{Role}
use Rattle.il_statics.specs.declared.names.Role.TheVariants.{Car as CarRole}
use Rattle.il_statics.specs.Names.{Variable, ImageName, is_seen_by, image_of, is_predeclared, is_program, program_named, task_role, program_role, image_name, standard_function, standard_block, meaning, MeansVariable, MeansUnit, MeansStandard, meant_variable, outer_meaning, unit_named, or_else}
use Rattle.il_statics.specs.Declarations.{IsAgain, IsTypeBroken, IsInitialBroken, IsNameBroken, IsExternal, IsDuplicate, predeclared_unit, second_unit, predeclared_variable, variable_as_unit, second_variable, second_label, predeclared_global, global_as_unit, second_global, second_task, second_program_line, IsUnknown, unknown_type, unknown_global, unknown_name, IsInitialOutside, initial_outside as outside, size_outside, IsBadTask, foreign_task, unknown_task, second_line, unknown_program, other_role, missing_task, missing_line, unused_program, HasOtherType, type_misplaced, initial_of_other_type, external_differs, name_of_other_type, unit_names, labels_of, names_of_tasks, is_within}
use Rattle.il_statics.specs.Faults.{duplicate, unknown, empty_range, initial_outside, bad_task, other_type, Declaring, Typing, of_instruction, unknown_label as of_unknown_label, backward_jump, two_writers as of_two_writers, unreached as of_unreached, recursive as of_recursive, long_chain as of_long_chain, too_many_slots as of_slots, HasNoFault, Broken}
use Rattle.il_statics.specs.Order.{Uses, calls, declares, IsChain, UsesThrough, recursive, long_chain}
use Rattle.il_statics.specs.Types.{StandsAt, unknown_label, backward, two_writers, unreached}
use Rattle.il_statics.specs.Written.{IsWord, IsWritten}
use Rattle.il_statics.proofs.Rows.{program, frame, only, not_both}
use Rattle.base_maps.specs.NameMap.{NameMap, Text, order, get, insert, empty, get-empty, get-insert}
use Rattle.il_semantics.specs.Step.{instruction_at}
use Rattle.il_semantics.specs.Annotation.{Knowledge, knowledge, Annotation, IsVariableWithin, IsEntry, IsAnnotated, Annotated, Passes, form_range, declared_range}
use Rattle.il_semantics_laws.specs.Accepted.{IsOrdered}
use Rattle.il_semantics_laws.proofs.Lists.{in_nothing, found_in}
use Rattle.il_semantics_laws.proofs.Texts.{same_text, text_itself}
use Rattle.il_statics.proofs.Every.{all_of, contains_all, first_of_two, second_of_two}
use Rattle.il_semantics_laws.proofs.Words.{are_apart_by, images_apart, word_by}
use Rattle.group_laws.specs.Accepted.{IsSound}
use Rattle.group_laws.specs.Runs.{RunsWell}
use Rattle.group_laws.proofs.Accepted.{accepted_runs_well}
use Rattle.il_statics.proofs.Accepted.{three}

abbrev body : ProgramUnit
body = program 10 (codes "C") [] [] []

abbrev idle : Config
idle = frame (body ∷ [])

-- LISTS OF ONE AND OF NONE

one : (P : ProgramUnit → Type 0) (u : ProgramUnit) → P body → Contains idle.units u → P u
one P u here among = only P body u here among

too_short : {X : Type 0} (before after : List X) (y : X) → [] ≡ before ++ y ∷ after → ⊥
too_short [] after y e = let n = ap length e in omega arith
too_short (b ∷ before) after y e = let n = ap length e in omega arith

abbrev tail_of : {X : Type 0} → List X → List X
tail_of [] = []
tail_of (h ∷ t) = t

again_in_one : {X : Type 0} (name : X → Text) (x y : X) → IsAgain name (x ∷ []) y → ⊥
again_in_one name x y ([], after, e, c) = in_nothing (name y) c
again_in_one name x y (b ∷ before, after, e, c) = too_short before after y (ap tail_of e)

again_in_none : {X : Type 0} (name : X → Text) (y : X) → IsAgain name [] y → ⊥
again_in_none name y (before, after, e, c) = too_short before after y e

-- DECLARATIONS

no_type_broken : (number : ℕ) (place : Place) → IsTypeBroken idle number place → ⊥
no_type_broken number place (t, among, broken, at) = in_nothing t among

no_initial_broken : (number : ℕ) (place : Place) → IsInitialBroken idle number place → ⊥
no_initial_broken number place (d, initial, among, there, broken, at) = in_nothing d among

no_name_broken : (number : ℕ) (place : Place) → IsNameBroken idle number place → ⊥
no_name_broken number place (unit, s, among, listed, broken, at) = one (λ u. Contains u.body.steps s → ⊥) unit (in_nothing s) among listed

no_external : (d : Declaration) (n : Named) → IsExternal idle d n → ⊥
no_external d n e = one (λ u. Contains u.externals d → ⊥) e.unit (in_nothing d) e.written e.listed

not_duplicate : (place : Place) → IsDuplicate idle place → ⊥
unfolding image_name standard_function standard_block
not_duplicate place (predeclared_unit unit among pre at) = one (λ u. IsTrue (is_predeclared idle u.name.name) → ⊥) unit (λ t. not_both _ t refl) among pre
not_duplicate place (second_unit unit again at) = again_in_one (λ u. u.name.name) body unit again
not_duplicate place (predeclared_variable unit n among listed pre at) = one (λ u. Contains (unit_names u) n → ⊥) unit (in_nothing n) among listed
not_duplicate place (variable_as_unit unit n among listed same at) = one (λ u. Contains (unit_names u) n → ⊥) unit (in_nothing n) among listed
not_duplicate place (second_variable unit n among again at) = one (λ u. IsAgain (λ m. m.name) (unit_names u) n → ⊥) unit (again_in_none (λ m. m.name) n) among again
not_duplicate place (second_label unit n among again at) = one (λ u. IsAgain (λ m. m.name) (labels_of u.body) n → ⊥) unit (again_in_none (λ m. m.name) n) among again
not_duplicate place (predeclared_global n among pre at) = in_nothing n among
not_duplicate place (global_as_unit n among same at) = in_nothing n among
not_duplicate place (second_global n again at) = again_in_none (λ m. m.name) n again
not_duplicate place (second_task task again at) = again_in_one (λ t. t.name.name) _ task again
not_duplicate place (second_program_line line again at) = again_in_one (λ l. l.name.name) _ line again

not_unknown : (place : Place) → IsUnknown idle place → ⊥
not_unknown place (unknown_type t) = no_type_broken 21 place t
not_unknown place (unknown_global d n e none at) = no_external d n e
not_unknown place (unknown_name n) = no_name_broken 21 place n

not_outside : (place : Place) → IsInitialOutside idle place → ⊥
not_outside place (outside i) = no_initial_broken 23 place i
not_outside place (size_outside s among out at) = three (λ t. IsFalse (is_within t.1 t.0.value) → ⊥) _ _ _ s (λ f. not_both _ refl f) (λ f. not_both _ refl f) (λ f. not_both _ refl f) among out

abbrev no_role : Option Role
no_role = None

abbrev no_unit : Option ProgramUnit
no_unit = None

role_there : Some CarRole ≡ no_role → ⊥
role_there e = cc

unit_there : (u : ProgramUnit) → Some u ≡ no_unit → ⊥
unit_there u e = cc

car_one : (k : ℕ) → 1 ≤ k → pos k ≤ℤ pos 1 → k ≡ 1
car_one k low high = omega (arith, ints)

not_bad_task : (place : Place) → IsBadTask idle place → ⊥
unfolding image_name standard_function standard_block
not_bad_task place (foreign_task task among none at) = only (λ t. task_role idle.cars.value t.name.name ≡ None → ⊥) _ task role_there among none
not_bad_task place (unknown_task line among none at) = only (λ l. ¬ Contains (names_of_tasks idle) l.task.name → ⊥) _ line (λ h. h (0, omega arith, refl)) among none
not_bad_task place (second_line line again at) = again_in_one (λ l. l.task.name) _ line again
not_bad_task place (unknown_program line among none at) = only (λ l. program_named idle l.program.name ≡ None → ⊥) _ line (unit_there body) among none
not_bad_task place (other_role line role among has other at) = only (λ l. task_role idle.cars.value l.task.name ≡ Some role → program_role idle l.program.name idle.programs ≢ Some role → ⊥) _ line (λ e h. h e) among has other
not_bad_task place (missing_task k low high none at) = let same : k ≡ 1 = car_one k low high in none _ (0, omega arith, refl) (ap Some (sym same))
not_bad_task place (missing_line task among none at) = only (λ t. ¬ Contains (map (λ l. l.task.name) idle.programs) t.name.name → ⊥) _ task (λ h. h (0, omega arith, refl)) among none
not_bad_task place (unused_program unit among is none at) = one (λ u. ¬ Contains (map (λ l. l.program.name) idle.programs) u.name.name → ⊥) unit (λ h. h (0, omega arith, refl)) among none

not_other_type : (place : Place) → HasOtherType idle place → ⊥
not_other_type place (type_misplaced t) = no_type_broken 25 place t
not_other_type place (initial_of_other_type i) = no_initial_broken 25 place i
not_other_type place (external_differs d n form e there differs at) = no_external d n e
not_other_type place (name_of_other_type n) = no_name_broken 25 place n

is_declared : HasNoFault (Broken Declaring idle)
is_declared number place (duplicate e d) = not_duplicate place d
is_declared number place (unknown e u) = not_unknown place u
is_declared number place (empty_range e r) = no_type_broken 22 place r
is_declared number place (initial_outside e i) = not_outside place i
is_declared number place (bad_task e t) = not_bad_task place t
is_declared number place (other_type e t) = not_other_type place t

-- TYPES AND ORDER

none_stands : (at : ℕ) (s : Step) → StandsAt body.body at s → ⊥
none_stands at s e = cc

is_typed : HasNoFault (Broken Typing idle)
is_typed number place (of_instruction t) = one (λ u. StandsAt u.body t.at t.step → ⊥) t.unit (none_stands t.at t.step) t.is_step.written t.is_step.stands
is_typed number place (of_unknown_label e (unknown_label unit at s label jump none is)) = one (λ u. StandsAt u.body at s → ⊥) unit (none_stands at s) jump.written jump.jumps.stands
is_typed number place (backward_jump e (backward unit at to s label jump known up is)) = one (λ u. StandsAt u.body at s → ⊥) unit (none_stands at s) jump.written jump.jumps.stands
is_typed number place (of_two_writers e (two_writers name first second unit among stores first_store one_task two_task differs)) = one (λ u. Contains u.body.steps stores.step → ⊥) unit (in_nothing stores.step) among stores.written
is_typed number place (of_unreached e (unreached unit at s is_step not_reached is)) = one (λ u. StandsAt u.body at s → ⊥) unit (none_stands at s) is_step.written is_step.stands

no_uses : (used : ProgramUnit) → Uses idle body used → ⊥
no_uses used (calls s function operands listed is known) = in_nothing s listed
no_uses used (declares d name listed is known) = in_nothing d listed

reaches_none : (between : List ProgramUnit) (other : ProgramUnit) → UsesThrough idle body between other → ⊥
reaches_none [] other u = no_uses other u
reaches_none (next ∷ between) other u = no_uses next u.0

short_chain : (chain : List ProgramUnit) → IsChain idle body chain → 16 < length (body ∷ chain) → ⊥
short_chain [] c long = omega arith
short_chain (next ∷ chain) c long = no_uses next c.0

is_ordered : IsOrdered idle
is_ordered number place other (of_recursive e (recursive unit among reaches is)) = one (λ u. UsesThrough idle u reaches.0 u → ⊥) unit (reaches_none reaches.0 body) among reaches.1
is_ordered number place other (of_long_chain e (long_chain unit chain among is_chain none_twice long is)) = one (λ u. IsChain idle u chain → 16 < length (u ∷ chain) → ⊥) unit (short_chain chain) among is_chain long
is_ordered number place other (of_slots e s) = other e

is_written : IsWritten idle
is_written = record {
  headings = λ u among. one (λ w. IsWord w.name.name) u (word_by (codes "C") refl) among;
  names = λ u n among. one (λ w. Contains (unit_names w) n → IsWord n.name) u (λ has. absurd (in_nothing n has)) among;
  globals = λ n among. absurd (in_nothing n among);
  externals = λ u among. one (λ w. is_program w ≡ false → w.externals ≡ []) u (λ other. refl) among;
  literals = λ d i e z among some is. absurd (in_nothing d among);
}

-- THE ANNOTATION

-- the range of an image name that a car's program sees
abbrev range_in : ImageName → Option Interval
range_in i = if is_seen_by (Some CarRole) i.audience then form_range i.variable.form else None

abbrev with_range : Option Interval → Text → NameMap Interval → NameMap Interval
with_range None name m = m
with_range (Some r) name m = insert m name r

abbrev ranges_of : List ImageName → NameMap Interval
ranges_of [] = empty
ranges_of (i ∷ is) = with_range (range_in i) i.variable.name (ranges_of is)

abbrev range_by : Option ImageName → Option Interval
range_by o = option_and_then range_in o

-- the map has under each name the range of the image name
ranges_are : (is : List ImageName) (name : Text) → are_apart_by (λ (i : ImageName). i.variable.name) is ≡ true → get (ranges_of is) name ≡ range_by (find (λ (i : ImageName). bytes_eq i.variable.name name) is)
ranges_are [] name apart = get-empty name
ranges_are (i ∷ is) name apart = by_name (bytes_eq i.variable.name name) refl (range_in i) refl (ranges_are is name (second_of_two (all_of _ is) _ apart))
  where
    rest : Option ImageName
    rest = find (λ (j : ImageName). bytes_eq j.variable.name name) is

    -- no other has the name
    no_rest : i.variable.name ≡ name → (o : Option ImageName) → rest ≡ o → range_by rest ≡ None
    no_rest same None none = ap range_by none
    no_rest same (Some j) some =
        let r = found_in (λ (k : ImageName). bytes_eq k.variable.name name) is j some in
        let other = contains_all (λ (k : ImageName). not (bytes_eq i.variable.name k.variable.name)) is j (first_of_two _ _ apart) r.0 in
        let one_name = (bytes_eq-Decides i.variable.name j.variable.name).1 (same ∙ sym ((bytes_eq-Decides j.variable.name name).0 r.1)) in
        let never : false ≡ true = ap not (sym one_name) ∙ other in cc

    inserted : (r : Interval) (b : Bool) → eq_by_cmp order name i.variable.name ≡ b → get (insert (ranges_of is) i.variable.name r) name ≡ cond b (Some r) (get (ranges_of is) name)
    inserted r b e = get-insert (ranges_of is) i.variable.name r name ∙ ap (λ t. cond t (Some r) (get (ranges_of is) name)) e

    other_text : bytes_eq i.variable.name name ≡ false → (b : Bool) → eq_by_cmp order name i.variable.name ≡ b → b ≡ false
    other_text differs true e = let never : true ≡ false = sym ((bytes_eq-Decides i.variable.name name).1 (sym (same_text name i.variable.name e))) ∙ differs in cc
    other_text differs false e = refl

    by_name : (b : Bool) → bytes_eq i.variable.name name ≡ b → (o : Option Interval) → range_in i ≡ o → get (ranges_of is) name ≡ range_by rest → get (with_range (range_in i) i.variable.name (ranges_of is)) name ≡ range_by (cond b (Some i) rest)
    by_name true is_same None range more = ap (λ o. get (with_range o i.variable.name (ranges_of is)) name) range ∙ more ∙ no_rest ((bytes_eq-Decides i.variable.name name).0 is_same) rest refl ∙ sym range
    by_name true is_same (Some r) range more =
        let same = (bytes_eq-Decides i.variable.name name).0 is_same in
        ap (λ o. get (with_range o i.variable.name (ranges_of is)) name) range ∙ inserted r true (ap (λ t. eq_by_cmp order t i.variable.name) (sym same) ∙ text_itself i.variable.name) ∙ sym range
    by_name false differs None range more = ap (λ o. get (with_range o i.variable.name (ranges_of is)) name) range ∙ more
    by_name false differs (Some r) range more = ap (λ o. get (with_range o i.variable.name (ranges_of is)) name) range ∙ inserted r false (other_is (other_text differs)) ∙ more
      where
        other_is : ((b : Bool) → eq_by_cmp order name i.variable.name ≡ b → b ≡ false) → eq_by_cmp order name i.variable.name ≡ false
        other_is h = h (eq_by_cmp order name i.variable.name) refl

abbrev images : List ImageName
images = image_of idle.cars.value idle.floors.value idle.slots.value

-- the range of a name in the body
range_is : (name : Text) → declared_range idle body name ≡ range_by (image_name idle name)
unfolding meaning
range_is name = by_image (image_name idle name)
  where
    by_global : (o : Option ProgramUnit) (b : Bool) → option_and_then form_range (option_map (λ (v : Variable). v.form) (meant_variable (or_else (option_map MeansUnit o) (if b then Some MeansStandard else None)))) ≡ None
    by_global (Some u) b = refl
    by_global None true = refl
    by_global None false = refl

    by_sight : (f : Form) (v : Variable) → v.form ≡ f → (b : Bool) → option_and_then form_range (option_map (λ (v : Variable). v.form) (meant_variable (if b then Some (MeansVariable v) else None))) ≡ (if b then form_range v.form else None)
    by_sight f v is true = refl
    by_sight f v is false = refl

    by_image : (o : Option ImageName) → option_and_then form_range (option_map (λ (v : Variable). v.form) (meant_variable (outer_meaning idle body name o))) ≡ range_by o
    by_image None = by_global (unit_named idle name) (is_predeclared idle name)
    by_image (Some i) = by_sight i.variable.form i.variable refl (is_seen_by (program_role idle (codes "C") idle.programs) i.audience)

abbrev entry : Knowledge
entry = knowledge (ranges_of images) None []

interval_itself : (i : Interval) → IsWithin i i
interval_itself i = (omega (arith, ints), omega (arith, ints))

variable_itself : (o : Option Interval) → IsVariableWithin o o
variable_itself None = tt
variable_itself (Some i) = interval_itself i

found_range : (name : Text) → declared_range idle body name ≡ get (ranges_of images) name
unfolding image_name
found_range name = range_is name ∙ sym (ranges_are images name (images_apart idle.cars.value idle.floors.value idle.slots.value))

is_entry : IsEntry idle body entry
is_entry = record { variables = λ name. subst (IsVariableWithin (declared_range idle body name)) (found_range name) (variable_itself (declared_range idle body name)); result = refl; deferred = refl }

annotation : Annotation
annotation = Some entry ∷ []

is_annotated : Annotated idle
is_annotated u among = one (λ w. (a : Annotation) × IsAnnotated idle w a) u (Some entry ∷ [], record { entry = (entry, refl, is_entry); each = each }) among
  where
    each : (place : ℕ) (k : Knowledge) → place < 1 → slice_get (Some entry ∷ []) place ≡ Some (Some k) → Passes (record { config = idle; unit = body; annotation = Some entry ∷ []; place = place; known = k }) (instruction_at body.body place)
    each zero k low is = (tt, tt)
    each (suc n) k low is = absurd (omega arith)

-- SOUND

is_sound : IsSound idle
is_sound = record { written = is_written; declared = is_declared; typed = is_typed; ordered = is_ordered; annotated = is_annotated }

pub idle_runs_well : RunsWell idle
idle_runs_well = accepted_runs_well idle is_sound
