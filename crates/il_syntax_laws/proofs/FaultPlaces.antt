-- Each rule is broken at a place of the tree.
use Rattle.std.proofs.Common.{◌≡◌, ℕ, List, [], ◌∷◌, ◌++◌, sym, subst, Some}
use Rattle.std.specs.Prelude.{Contains, flat_map}
use Rattle.il_syntax.specs.declared.tree.Place.{Place}
use Rattle.il_syntax.specs.declared.tree.Named.{Named}
use Rattle.il_syntax.specs.declared.tree.Initial.{Initial}
use Rattle.il_syntax.specs.declared.tree.Declaration.{Declaration}
use Rattle.il_syntax.specs.declared.tree.WrittenType.{WrittenType}
use Rattle.il_syntax.specs.declared.tree.Step.{Step}
use Rattle.il_syntax.specs.declared.tree.UnitKind.{UnitKind}
use Rattle.il_syntax.specs.declared.tree.UnitKind.TheVariants.{Function, FunctionBlock, Program}
use Rattle.il_syntax.specs.declared.tree.Unit.{Unit as ProgramUnit}
use Rattle.il_syntax.specs.declared.tree.Size.{Size}
use Rattle.il_syntax.specs.declared.tree.Subrange.{Subrange}
use Rattle.il_syntax.specs.declared.tree.Task.{Task}
use Rattle.il_syntax.specs.declared.tree.ProgramLine.{ProgramLine}
use Rattle.il_syntax.specs.declared.tree.Config.{Config}
use Rattle.il_statics.specs.Names.{Spelling}
use Rattle.il_statics.specs.Declarations.{Admitted, ScalarsAlone, ScalarsAndArrays, admitted_variables, types_in, result_types, unit_types, written_types, unit_declarations, all_declarations, names_in, unit_names, labels_of, sizes_of, IsTypeBroken, IsInitialBroken, IsNameBroken, IsAgain, IsExternal, IsDuplicate, predeclared_unit, second_unit, predeclared_variable, variable_as_unit, second_variable, second_label, predeclared_global, global_as_unit, second_global, second_task, second_program_line, IsUnknown, unknown_type, unknown_global, unknown_name, IsInitialOutside, initial_outside as outside, size_outside, IsBadTask, foreign_task, unknown_task, second_line, unknown_program, other_role, missing_task, missing_line, unused_program, HasOtherType, type_misplaced, initial_of_other_type, external_differs, name_of_other_type}
use Rattle.il_statics.specs.Types.{HasUnknownLabel, unknown_label as label_unknown, JumpsBackward, backward, IsUnreached, unreached as never_reached, HasTwoWriters, two_writers as written_twice}
use Rattle.il_statics.specs.Order.{recursive as reaches_itself, long_chain as chain_too_long, of_task, of_globals}
use Rattle.il_statics.specs.Faults.{BreaksDeclarations, duplicate, unknown, empty_range, initial_outside, bad_task, other_type, BreaksTypes, of_instruction, unknown_label, backward_jump, two_writers, unreached, BreaksOrder, recursive, long_chain, too_many_slots, Phase, Declaring, Typing, Ordering, Broken}
use Rattle.il_syntax_laws.specs.Places.{name_places, initial_places, declaration_places, step_places, body_places, result_places, inner_places, unit_places, globals_places, task_places, line_places, instruction_places, resource_places, places, BreaksAtPlaces}
use Rattle.il_syntax_laws.proofs.Members.{none_in, first_in, later_in, image_in, left_in, right_in, given_in, of_both, of_given, of_mapped, standing_in, middle_in}

-- a place of a list, where another equals it
at_equal : (ps : List Place) (p q : Place) → p ≡ q → Contains ps q → Contains ps p
at_equal ps p q e h = subst (Contains ps) (sym e) h

-- PARTS OF A UNIT

-- a place of a part of a unit's inside
in_inputs : (u : ProgramUnit) (p : Place) → Contains (flat_map declaration_places u.inputs) p → Contains (inner_places u) p
in_inputs u p h = left_in (flat_map declaration_places u.inputs) _ p h

in_outputs : (u : ProgramUnit) (p : Place) → Contains (flat_map declaration_places u.outputs) p → Contains (inner_places u) p
in_outputs u p h = right_in (flat_map declaration_places u.inputs) _ p (left_in (flat_map declaration_places u.outputs) _ p h)

in_variables : (u : ProgramUnit) (p : Place) → Contains (flat_map declaration_places u.variables) p → Contains (inner_places u) p
in_variables u p h =
    right_in (flat_map declaration_places u.inputs) _ p (right_in (flat_map declaration_places u.outputs) _ p (left_in (flat_map declaration_places u.variables) _ p h))

in_externals : (u : ProgramUnit) (p : Place) → Contains (flat_map declaration_places u.externals) p → Contains (inner_places u) p
in_externals u p h =
    right_in (flat_map declaration_places u.inputs) _ p (right_in (flat_map declaration_places u.outputs) _ p (right_in (flat_map declaration_places u.variables) _ p
    (left_in (flat_map declaration_places u.externals) _ p h)))

in_body : (u : ProgramUnit) (p : Place) → Contains (body_places u.body) p → Contains (inner_places u) p
in_body u p h =
    right_in (flat_map declaration_places u.inputs) _ p (right_in (flat_map declaration_places u.outputs) _ p (right_in (flat_map declaration_places u.variables) _ p
    (right_in (flat_map declaration_places u.externals) _ p h)))

-- a place inside a unit
inside : (u : ProgramUnit) (p : Place) → Contains (inner_places u) p → Contains (unit_places u) p
inside u p h = later_in u.place (u.name.place ∷ (result_places u.kind ++ inner_places u)) p (later_in u.name.place (result_places u.kind ++ inner_places u) p (right_in (result_places u.kind) (inner_places u) p h))

-- a place of a unit
in_unit : (c : Config) (u : ProgramUnit) (p : Place) → Contains c.units u → Contains (unit_places u) p → Contains (places c) p
in_unit c u p h g = left_in (flat_map unit_places c.units) _ p (given_in unit_places c.units u p h g)

-- a unit's heading
at_heading : (c : Config) (u : ProgramUnit) (p : Place) → Contains c.units u → p ≡ u.place → Contains (places c) p
at_heading c u p h e = at_equal (places c) p u.place e (in_unit c u u.place h (first_in u.place (u.name.place ∷ (result_places u.kind ++ inner_places u))))

-- a name, the type and the initial value of a declaration
of_name : (d : Declaration) (n : Named) → Contains d.names n → Contains (declaration_places d) n.place
of_name d n h = left_in (flat_map name_places d.names) _ n.place (given_in name_places d.names n n.place h (first_in n.place []))

of_type : (d : Declaration) → Contains (declaration_places d) d.declared.place
of_type d = right_in (flat_map name_places d.names) _ d.declared.place (first_in d.declared.place _)

of_initial : (d : Declaration) (i : Initial) → d.initial ≡ Some i → Contains (declaration_places d) i.place
of_initial d i e =
    right_in (flat_map name_places d.names) _ i.place (later_in d.declared.place _ i.place (subst (λ o. Contains (initial_places o) i.place) (sym e) (first_in i.place [])))

-- PARTS OF A CONFIGURATION

-- the places from the globals, the tasks and the programs on
abbrev from_programs : Config → List Place
from_programs c = flat_map line_places c.programs ++ c.end_resource ∷ []

abbrev from_tasks : Config → List Place
from_tasks c = flat_map task_places c.tasks ++ from_programs c

abbrev from_globals : Config → List Place
from_globals c = flat_map declaration_places c.globals ++ from_tasks c

-- the sizes
in_sizes : (c : Config) (p : Place) → Contains (c.cars.place ∷ c.floors.place ∷ c.slots.place ∷ resource_places c) p → Contains (places c) p
in_sizes c p h = right_in (flat_map unit_places c.units) (c.cars.place ∷ c.floors.place ∷ c.slots.place ∷ resource_places c) p h

-- what follows the sizes
in_resource : (c : Config) (p : Place) → Contains (resource_places c) p → Contains (places c) p
in_resource c p h =
    in_sizes c p (later_in c.cars.place (c.floors.place ∷ c.slots.place ∷ resource_places c) p (later_in c.floors.place (c.slots.place ∷ resource_places c) p (later_in c.slots.place (resource_places c) p h)))

-- what follows the globals
behind_globals : (c : Config) (p : Place) → Contains (from_tasks c) p → Contains (places c) p
behind_globals c p h = in_resource c p (right_in (globals_places c.globals_place) (from_globals c) p (right_in (flat_map declaration_places c.globals) (from_tasks c) p h))

-- a TASK line
at_task : (c : Config) (t : Task) (p : Place) → Contains c.tasks t → p ≡ t.place → Contains (places c) p
at_task c t p h e =
    at_equal (places c) p t.place e (behind_globals c t.place (left_in (flat_map task_places c.tasks) (from_programs c) t.place (given_in task_places c.tasks t t.place h (first_in t.place (t.name.place ∷ [])))))

-- a PROGRAM line
at_line : (c : Config) (l : ProgramLine) (p : Place) → Contains c.programs l → p ≡ l.place → Contains (places c) p
at_line c l p h e =
    at_equal (places c) p l.place e (behind_globals c l.place (right_in (flat_map task_places c.tasks) (from_programs c) l.place
    (left_in (flat_map line_places c.programs) (c.end_resource ∷ []) l.place (given_in line_places c.programs l l.place h (first_in l.place (l.name.place ∷ l.task.place ∷ l.program.place ∷ []))))))

-- END_RESOURCE
at_end : (c : Config) (p : Place) → p ≡ c.end_resource → Contains (places c) p
at_end c p e =
    at_equal (places c) p c.end_resource e (behind_globals c c.end_resource (right_in (flat_map task_places c.tasks) (from_programs c) c.end_resource
    (right_in (flat_map line_places c.programs) (c.end_resource ∷ []) c.end_resource (first_in c.end_resource []))))

-- the word of the globals
at_word : (c : Config) (p : Place) → c.globals_place ≡ Some p → Contains (places c) p
at_word c p e = in_resource c p (left_in (globals_places c.globals_place) (from_globals c) p (subst (λ o. Contains (globals_places o) p) (sym e) (first_in p [])))

-- a size's number
at_size : (c : Config) (s : Size × Subrange) (p : Place) → Contains (sizes_of c) s → p ≡ s.0.place → Contains (places c) p
at_size c s p h e =
    at_equal (places c) p s.0.place e (in_sizes c s.0.place
    (left_in (c.cars.place ∷ c.floors.place ∷ c.slots.place ∷ []) (resource_places c) s.0.place (image_in (λ (x : Size × Subrange). x.0.place) (sizes_of c) s h)))

-- what holds of each declaration of a unit with a fact
by_list : (u : ProgramUnit) (p : Place) (F : Declaration → Type 0) → ((d : Declaration) → F d → Contains (declaration_places d) p) → (d : Declaration) → Contains (unit_declarations u) d → F d → Contains (inner_places u) p
by_list u p F has =
    let P : Declaration → Type 0 = λ d. F d → Contains (inner_places u) p in
    of_both P ((u.inputs ++ u.outputs) ++ u.variables) u.externals
    (of_both P (u.inputs ++ u.outputs) u.variables
    (of_both P u.inputs u.outputs
    (λ d h f. in_inputs u p (given_in declaration_places u.inputs d p h (has d f)))
    (λ d h f. in_outputs u p (given_in declaration_places u.outputs d p h (has d f))))
    (λ d h f. in_variables u p (given_in declaration_places u.variables d p h (has d f))))
    (λ d h f. in_externals u p (given_in declaration_places u.externals d p h (has d f)))

-- the globals
in_globals : (c : Config) (p : Place) → Contains (flat_map declaration_places c.globals) p → Contains (places c) p
in_globals c p h =
    in_resource c p (right_in (globals_places c.globals_place) (from_globals c) p (left_in (flat_map declaration_places c.globals) (from_tasks c) p h))

-- the same of a configuration
by_declaration : (c : Config) (p : Place) (F : Declaration → Type 0) → ((d : Declaration) → F d → Contains (declaration_places d) p) → (d : Declaration) → Contains (all_declarations c) d → F d → Contains (places c) p
by_declaration c p F has =
    let P : Declaration → Type 0 = λ d. F d → Contains (places c) p in
    of_both P (flat_map unit_declarations c.units) c.globals
    (of_given P unit_declarations c.units (λ u h d g f. in_unit c u p h (inside u p (by_list u p F has d g f))))
    (λ d h f. in_globals c p (given_in declaration_places c.globals d p h (has d f)))

-- a name of a declaration of a unit
named_in : (u : ProgramUnit) (d : Declaration) (m : Named) → Contains (unit_declarations u) d → Contains d.names m → Contains (inner_places u) m.place
named_in u d m h l = by_list u m.place (λ e. Contains e.names m) (λ e k. of_name e m k) d h l

-- a name that a unit declares
at_name : (c : Config) (u : ProgramUnit) (n : Named) (p : Place) → Contains c.units u → Contains (unit_names u) n → p ≡ n.place → Contains (places c) p
at_name c u n p h g e =
    at_equal (places c) p n.place e (in_unit c u n.place h (inside u n.place
    (of_given (λ (m : Named). Contains (inner_places u) m.place) (λ d. d.names) (unit_declarations u) (λ d k m l. named_in u d m k l) n g)))

-- a global's name
at_global : (c : Config) (n : Named) (p : Place) → Contains (names_in c.globals) n → p ≡ n.place → Contains (places c) p
at_global c n p h e =
    at_equal (places c) p n.place e (in_globals c n.place
    (of_given (λ (m : Named). Contains (flat_map declaration_places c.globals) m.place) (λ d. d.names) c.globals (λ d k m l. given_in declaration_places c.globals d m.place k (of_name d m l)) n h))

-- an instruction's operator
at_step : (c : Config) (u : ProgramUnit) (s : Step) (p : Place) → Contains c.units u → Contains u.body.steps s → p ≡ s.place → Contains (places c) p
at_step c u s p h g e =
    at_equal (places c) p s.place e (in_unit c u s.place h (inside u s.place (in_body u s.place
    (left_in (flat_map step_places u.body.steps) (flat_map name_places u.body.last_labels ++ u.body.end ∷ []) s.place
    (given_in step_places u.body.steps s s.place g (right_in (flat_map name_places s.labels) (s.place ∷ instruction_places s.instruction) s.place (first_in s.place (instruction_places s.instruction))))))))

-- a label
at_label : (c : Config) (u : ProgramUnit) (n : Named) (p : Place) → Contains c.units u → Contains (labels_of u.body) n → p ≡ n.place → Contains (places c) p
at_label c u n p h g e =
    let P : Named → Type 0 = λ m. Contains (body_places u.body) m.place in
    let steps = flat_map step_places u.body.steps in
    let last = flat_map name_places u.body.last_labels in
    let of_step = λ (s : Step) (k : Contains u.body.steps s) (m : Named) (l : Contains s.labels m).
    left_in steps (last ++ u.body.end ∷ []) m.place (given_in step_places u.body.steps s m.place k
    (left_in (flat_map name_places s.labels) (s.place ∷ instruction_places s.instruction) m.place (given_in name_places s.labels m m.place l (first_in m.place [])))) in
    let of_end = λ (m : Named) (l : Contains u.body.last_labels m).
    right_in steps (last ++ u.body.end ∷ []) m.place (left_in last (u.body.end ∷ []) m.place (given_in name_places u.body.last_labels m m.place l (first_in m.place []))) in
    at_equal (places c) p n.place e (in_unit c u n.place h (inside u n.place (in_body u n.place
    (of_both P (flat_map (λ s. s.labels) u.body.steps) u.body.last_labels (of_given P (λ s. s.labels) u.body.steps of_step) of_end n g))))

-- THE RULES

-- what is again is there
again_in : {A : Type 0} (name : A → Spelling) (xs : List A) (x : A) → IsAgain name xs x → Contains xs x
again_in name xs x (before, after, e, c) = subst (λ l. Contains l x) (sym e) (middle_in before after x)

-- a type that a function's heading writes
of_result : (u : ProgramUnit) (t : Admitted × WrittenType) → Contains (result_types u.kind) t → Contains (unit_places u) t.1.place
of_result u t h =
    let rest = right_in (u.place ∷ u.name.place ∷ []) (result_places u.kind ++ inner_places u) t.1.place in
    rest (left_in (result_places u.kind) (inner_places u) t.1.place (go u.kind t h))
  where
    go : (k : UnitKind) (t : Admitted × WrittenType) → Contains (result_types k) t → Contains (result_places k) t.1.place
    go (Function scalar place) t h = image_in (λ (x : Admitted × WrittenType). x.1.place) (result_types (Function scalar place)) t h
    go FunctionBlock t h = absurd (none_in t h)
    go Program t h = absurd (none_in t h)

-- a type that a unit writes
unit_type_place : (u : ProgramUnit) (t : Admitted × WrittenType) → Contains (unit_types u) t → Contains (unit_places u) t.1.place
unit_type_place u =
    let P : Admitted × WrittenType → Type 0 = λ t. Contains (unit_places u) t.1.place in
    let one = λ (admitted : Admitted) (ds : List Declaration) (in_list : (p : Place) → Contains (flat_map declaration_places ds) p → Contains (inner_places u) p).
    of_mapped P (λ d. (admitted, d.declared)) ds (λ d h. inside u d.declared.place (in_list d.declared.place (given_in declaration_places ds d d.declared.place h (of_type d)))) in
    let inputs = types_in ScalarsAlone u.inputs in
    let outputs = types_in ScalarsAlone u.outputs in
    let variables = types_in (admitted_variables u.kind) u.variables in
    let externals = types_in ScalarsAndArrays u.externals in
    of_both P (((result_types u.kind ++ inputs) ++ outputs) ++ variables) externals
    (of_both P ((result_types u.kind ++ inputs) ++ outputs) variables
    (of_both P (result_types u.kind ++ inputs) outputs
    (of_both P (result_types u.kind) inputs (λ t h. of_result u t h) (one ScalarsAlone u.inputs (in_inputs u)))
    (one ScalarsAlone u.outputs (in_outputs u)))
    (one (admitted_variables u.kind) u.variables (in_variables u)))
    (one ScalarsAndArrays u.externals (in_externals u))

-- a type that a configuration writes
written_place : (c : Config) (t : Admitted × WrittenType) → Contains (written_types c) t → Contains (places c) t.1.place
written_place c =
    let P : Admitted × WrittenType → Type 0 = λ t. Contains (places c) t.1.place in
    of_both P (flat_map unit_types c.units) (types_in ScalarsAndArrays c.globals)
    (of_given P unit_types c.units (λ u h t g. in_unit c u t.1.place h (unit_type_place u t g)))
    (of_mapped P (λ d. (ScalarsAndArrays, d.declared)) c.globals (λ d h. in_globals c d.declared.place (given_in declaration_places c.globals d d.declared.place h (of_type d))))

-- a broken type
type_place : (c : Config) (n : ℕ) (p : Place) → IsTypeBroken c n p → Contains (places c) p
type_place c n p (t, h, b, e) = at_equal (places c) p t.1.place e (written_place c t h)

-- a broken initial value
initial_place : (c : Config) (n : ℕ) (p : Place) → IsInitialBroken c n p → Contains (places c) p
initial_place c n p (d, i, h, e, b, is) = at_equal (places c) p i.place is (by_declaration c i.place (λ x. x.initial ≡ Some i) (λ x f. of_initial x i f) d h e)

-- broken names of an instruction
name_place : (c : Config) (n : ℕ) (p : Place) → IsNameBroken c n p → Contains (places c) p
name_place c n p (u, s, h, g, b, e) = at_step c u s p h g e

-- an external
external_declared : (c : Config) (d : Declaration) (n : Named) (p : Place) → IsExternal c d n → Contains (declaration_places d) p → Contains (places c) p
external_declared c d n p x h = in_unit c x.unit p x.written (inside x.unit p (in_externals x.unit p (given_in declaration_places x.unit.externals d p x.listed h)))

duplicate_place : (c : Config) (p : Place) → IsDuplicate c p → Contains (places c) p
duplicate_place c p (predeclared_unit u h t e) = at_heading c u p h e
duplicate_place c p (second_unit u a e) = at_heading c u p (again_in (λ v. v.name.name) c.units u a) e
duplicate_place c p (predeclared_variable u n h g t e) = at_name c u n p h g e
duplicate_place c p (variable_as_unit u n h g t e) = at_name c u n p h g e
duplicate_place c p (second_variable u n h a e) = at_name c u n p h (again_in (λ m. m.name) (unit_names u) n a) e
duplicate_place c p (second_label u n h a e) = at_label c u n p h (again_in (λ m. m.name) (labels_of u.body) n a) e
duplicate_place c p (predeclared_global n h t e) = at_global c n p h e
duplicate_place c p (global_as_unit n h t e) = at_global c n p h e
duplicate_place c p (second_global n a e) = at_global c n p (again_in (λ m. m.name) (names_in c.globals) n a) e
duplicate_place c p (second_task t a e) = at_task c t p (again_in (λ x. x.name.name) c.tasks t a) e
duplicate_place c p (second_program_line l a e) = at_line c l p (again_in (λ x. x.name.name) c.programs l a) e

unknown_place : (c : Config) (p : Place) → IsUnknown c p → Contains (places c) p
unknown_place c p (unknown_type h) = type_place c 21 p h
unknown_place c p (unknown_global d n x none e) = at_equal (places c) p n.place e (external_declared c d n n.place x (of_name d n x.named))
unknown_place c p (unknown_name h) = name_place c 21 p h

outside_place : (c : Config) (p : Place) → IsInitialOutside c p → Contains (places c) p
outside_place c p (outside h) = initial_place c 23 p h
outside_place c p (size_outside s h t e) = at_size c s p h e

task_place : (c : Config) (p : Place) → IsBadTask c p → Contains (places c) p
task_place c p (foreign_task t h none e) = at_task c t p h e
task_place c p (unknown_task l h none e) = at_line c l p h e
task_place c p (second_line l a e) = at_line c l p (again_in (λ x. x.task.name) c.programs l a) e
task_place c p (unknown_program l h none e) = at_line c l p h e
task_place c p (other_role l r h role other e) = at_line c l p h e
task_place c p (missing_task k low high none e) = at_end c p e
task_place c p (missing_line t h none e) = at_end c p e
task_place c p (unused_program u h is none e) = at_heading c u p h e

other_type_place : (c : Config) (p : Place) → HasOtherType c p → Contains (places c) p
other_type_place c p (type_misplaced h) = type_place c 25 p h
other_type_place c p (initial_of_other_type h) = initial_place c 25 p h
other_type_place c p (external_differs d n f x global other e) = at_equal (places c) p d.declared.place e (external_declared c d n d.declared.place x (of_type d))
other_type_place c p (name_of_other_type h) = name_place c 25 p h

declarations_place : (c : Config) → BreaksAtPlaces c (λ n p. BreaksDeclarations c n p)
declarations_place c n p (duplicate e h) = duplicate_place c p h
declarations_place c n p (unknown e h) = unknown_place c p h
declarations_place c n p (empty_range e h) = type_place c 22 p h
declarations_place c n p (initial_outside e h) = outside_place c p h
declarations_place c n p (bad_task e h) = task_place c p h
declarations_place c n p (other_type e h) = other_type_place c p h

label_place : (c : Config) (p : Place) → HasUnknownLabel c p → Contains (places c) p
label_place c p (label_unknown u at s l j none e) = at_step c u s p j.written (standing_in u.body.steps at s j.jumps.stands) e

backward_place : (c : Config) (p : Place) → JumpsBackward c p → Contains (places c) p
backward_place c p (backward u at to s l j found up e) = at_step c u s p j.written (standing_in u.body.steps at s j.jumps.stands) e

unreached_place : (c : Config) (p : Place) → IsUnreached c p → Contains (places c) p
unreached_place c p (never_reached u at s h none e) = at_step c u s p h.written (standing_in u.body.steps at s h.stands) e

writers_place : (c : Config) (p : Place) → HasTwoWriters c p → Contains (places c) p
writers_place c p (written_twice name first second u h stores is_first one two other) = at_step c u stores.step p h stores.written stores.is_place

types_place : (c : Config) → BreaksAtPlaces c (λ n p. BreaksTypes c n p)
types_place c n p (of_instruction h) = at_step c h.unit h.step p h.is_step.written (standing_in h.unit.body.steps h.at h.step h.is_step.stands) h.is_place
types_place c n p (unknown_label e h) = label_place c p h
types_place c n p (backward_jump e h) = backward_place c p h
types_place c n p (two_writers e h) = writers_place c p h
types_place c n p (unreached e h) = unreached_place c p h

order_place : (c : Config) → BreaksAtPlaces c (λ n p. BreaksOrder c n p)
order_place c n p (recursive e (reaches_itself u h r is)) = at_heading c u p h is
order_place c n p (long_chain e (chain_too_long u chain h is once long at)) = at_heading c u p h at
order_place c n p (too_many_slots e (of_task l u functions h program are many at)) = at_line c l p h at
order_place c n p (too_many_slots e (of_globals many at)) = at_word c p at

pub broken_place : (phase : Phase) (c : Config) → BreaksAtPlaces c (λ n p. Broken phase c n p)
broken_place Declaring c = declarations_place c
broken_place Typing c = types_place c
broken_place Ordering c = order_place c
