-- Rules of declarations that are broken.
use Rattle.std.proofs.Common.{◌≡◌, ℕ, [], ◌∷◌, refl, arith, ap, sym, subst, ◌∙◌, true, false}
use Rattle.std.specs.Prelude.{◌≢◌, bytes_eq, codes, Some}
use lib.Signed.{le_z_yes}
use Rattle.il_syntax.specs.declared.tree.Task.{Task}
use Rattle.il_syntax.specs.declared.tree.Elementary.TheVariants as elementary
use Rattle.il_statics.specs.declared.names.Role.TheVariants.{Group as GroupRole}
use Rattle.il_statics.specs.Names.{Spelling, car_number, image_name, standard_function, standard_block, block_variables, meaning}
use Rattle.il_statics.specs.Declarations.{type_numbers, name_numbers, predeclared_unit as unit_predeclared, second_unit, predeclared_variable as variable_predeclared, variable_as_unit as named_as_unit, second_label, predeclared_global as global_predeclared, global_as_unit as global_named_as_unit, second_global, second_task, second_program_line, unknown_type as type_unknown, unknown_global, unknown_name as name_unknown, size_outside, unknown_task as task_unknown, second_line, unknown_program as program_unknown, other_role, missing_task, missing_line as line_missing, unused_program as program_unused, type_misplaced, external_differs}
use Rattle.il_statics.specs.Types.{scalar_type}
use Rattle.il_statics.specs.Faults.{Broken, Declaring, duplicate, unknown, empty_range, initial_outside, bad_task, other_type}
use Rattle.il_statics.proofs.Passes.{only_one}
use Rattle.il_statics.proofs.Rows.{not_both}
use Rattle.il_witnesses.specs.Trees.{place, named}
use Rattle.il_witnesses.specs.Cases.{predeclared_unit, two_units, two_units_b, variable_as_unit, predeclared_variable, label_twice, two_globals, global_as_unit, predeclared_global, task_twice, line_twice, unknown_type, external_of_none, unknown_name, empty_subrange, wrong_element, no_cars, unknown_task, two_lines, unknown_program, two_roles, missing_car, missing_line, unused_program, boolean_subrange, other_external, array_input}

-- two names with different bytes
pub differ : (a b : Spelling) → bytes_eq a b ≡ false → bytes_eq a a ≡ true → a ≢ b
differ a b apart same e = not_both (bytes_eq a b) (subst (λ x. bytes_eq a x ≡ true) e same) apart

-- 20

pub predeclared_unit-row : Broken Declaring predeclared_unit 20 (place 0 1)
unfolding image_name standard_function standard_block
predeclared_unit-row = duplicate refl (unit_predeclared _ (0, omega arith, refl) refl refl)

pub two_units-row : Broken Declaring two_units 20 (place 67 6)
two_units-row = duplicate refl (second_unit two_units_b (_ ∷ [], _ ∷ [], refl, (0, omega arith, refl)) refl)

pub variable_as_unit-row : Broken Declaring variable_as_unit 20 (place 14 2)
variable_as_unit-row = duplicate refl (named_as_unit _ (named 14 2 (codes "F")) (0, omega arith, refl) (0, omega arith, refl) (1, omega arith, refl) refl)

pub predeclared_variable-row : Broken Declaring predeclared_variable 20 (place 14 2)
unfolding image_name standard_function standard_block
predeclared_variable-row = duplicate refl (variable_predeclared _ (named 14 2 (codes "TON")) (0, omega arith, refl) (0, omega arith, refl) refl refl)

pub label_twice-row : Broken Declaring label_twice 20 (place 18 3)
label_twice-row = duplicate refl (second_label _ (named 18 3 (codes "L")) (0, omega arith, refl) (named 10 2 (codes "L") ∷ [], [], refl, (0, omega arith, refl)) refl)

pub two_globals-row : Broken Declaring two_globals 20 (place 140 5)
two_globals-row = duplicate refl (second_global (named 140 5 (codes "G")) (named 131 5 (codes "G") ∷ [], [], refl, (0, omega arith, refl)) refl)

pub global_as_unit-row : Broken Declaring global_as_unit 20 (place 131 5)
global_as_unit-row = duplicate refl (global_named_as_unit (named 131 5 (codes "C")) (0, omega arith, refl) (0, omega arith, refl) refl)

pub predeclared_global-row : Broken Declaring predeclared_global 20 (place 131 5)
unfolding image_name standard_function standard_block
predeclared_global-row = duplicate refl (global_predeclared (named 131 5 (codes "RUNLIMIT")) (0, omega arith, refl) refl refl)

pub task_twice-row : Broken Declaring task_twice 20 (place 186 7)
task_twice-row = duplicate refl (second_task _ (_ ∷ [], [], refl, (0, omega arith, refl)) refl)

pub line_twice-row : Broken Declaring line_twice 20 (place 260 9)
line_twice-row = duplicate refl (second_program_line _ (_ ∷ [], [], refl, (0, omega arith, refl)) refl)

-- 21

pub unknown_type-row : Broken Declaring unknown_type 21 (place 85 7)
unfolding type_numbers block_variables image_name standard_function standard_block
unknown_type-row = unknown refl (type_unknown (_, (2, omega arith, refl), (0, omega arith, refl), refl))

pub external_of_none-row : Broken Declaring external_of_none 21 (place 23 2)
external_of_none-row =
    unknown refl (unknown_global _ (named 23 2 (codes "G")) (record { unit = _; written = (0, omega arith, refl); listed = (0, omega arith, refl); named = (0, omega arith, refl) }) refl refl)

pub unknown_name-row : Broken Declaring unknown_name 21 (place 10 2)
unfolding name_numbers meaning image_name standard_function standard_block
unknown_name-row = unknown refl (name_unknown (_, _, (0, omega arith, refl), (0, omega arith, refl), (0, omega arith, refl), refl))

-- 22

pub empty_subrange-row : Broken Declaring empty_subrange 22 (place 18 2)
unfolding type_numbers
empty_subrange-row = empty_range refl (_, (0, omega arith, refl), (0, omega arith, refl), refl)

pub wrong_element-row : Broken Declaring wrong_element 22 (place 85 7)
unfolding type_numbers
wrong_element-row = empty_range refl (_, (2, omega arith, refl), (0, omega arith, refl), refl)

-- 23

pub no_cars-row : Broken Declaring no_cars 23 (place 72 4)
no_cars-row = initial_outside refl (size_outside _ (0, omega arith, refl) refl refl)

-- 24

pub unknown_task-row : Broken Declaring unknown_task 24 (place 186 7)
unknown_task-row = bad_task refl (task_unknown _ (0, omega arith, refl) (λ c. differ (codes "CAR2") (codes "CAR1") refl refl (only_one _ _ c)) refl)

pub two_lines-row : Broken Declaring two_lines 24 (place 212 8)
two_lines-row = bad_task refl (second_line _ (_ ∷ [], [], refl, (0, omega arith, refl)) refl)

pub unknown_program-row : Broken Declaring unknown_program 24 (place 260 9)
unfolding image_name standard_function standard_block
unknown_program-row = bad_task refl (program_unknown _ (1, omega arith, refl) refl refl)

pub two_roles-row : Broken Declaring two_roles 24 (place 261 9)
two_roles-row = bad_task refl (other_role _ GroupRole (1, omega arith, refl) refl (λ e. cc) refl)

-- two numbers
apart : (a b : ℕ) → Some a ≡ Some b → a ≡ b
apart a b e = cc

pub missing_car-row : Broken Declaring missing_car 24 (place 212 8)
missing_car-row =
    bad_task refl (missing_task 2 (omega arith) (le_z_yes tt) (λ task among e. let same = apart 1 2 (ap (λ (t : Task). car_number t.name.name) (sym (only_one _ task among)) ∙ e) in omega (arith, same)) refl)

pub missing_line-row : Broken Declaring missing_line 24 (place 258 9)
missing_line-row = bad_task refl (line_missing _ (1, omega arith, refl) (λ c. differ (codes "GROUP") (codes "CAR1") refl refl (only_one _ _ c)) refl)

pub unused_program-row : Broken Declaring unused_program 24 (place 0 1)
unused_program-row = bad_task refl (program_unused _ (0, omega arith, refl) refl (λ c. differ (codes "D") (codes "C") refl refl (only_one _ _ c)) refl)

-- 25

pub boolean_subrange-row : Broken Declaring boolean_subrange 25 (place 85 7)
unfolding type_numbers
boolean_subrange-row = other_type refl (type_misplaced (_, (2, omega arith, refl), (0, omega arith, refl), refl))

-- two types
dint_int : Some elementary.Dint ≡ Some elementary.Int → ⊥
dint_int e = cc

pub other_external-row : Broken Declaring other_external 25 (place 27 2)
other_external-row =
    other_type refl (external_differs _ (named 23 2 (codes "G")) _ (record { unit = _; written = (0, omega arith, refl); listed = (0, omega arith, refl); named = (0, omega arith, refl) }) refl (λ e. dint_int (ap scalar_type e)) refl)

pub array_input-row : Broken Declaring array_input 25 (place 31 2)
unfolding type_numbers
array_input-row = other_type refl (type_misplaced (_, (0, omega arith, refl), (0, omega arith, refl), refl))
