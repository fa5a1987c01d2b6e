-- Rules of types and of order that are broken.
use Rattle.std.proofs.Common.{◌≡◌, ℕ, ◌≤◌, List, [], ◌∷◌, refl, arith, ap, sym, subst, ◌∙◌, true}
use Rattle.std.specs.Prelude.{Option, codes, Some, None, Contains}
use Rattle.il_syntax.specs.declared.tree.Place.{Place}
use Rattle.il_syntax.specs.declared.tree.Step.{Step}
use Rattle.il_syntax.specs.declared.tree.Body.{Body}
use Rattle.il_syntax.specs.declared.tree.Unit.{Unit as ProgramUnit}
use Rattle.il_syntax.specs.declared.tree.Config.{Config}
use Rattle.il_syntax.specs.declared.tree.Elementary.{Elementary}
use Rattle.il_syntax.specs.declared.tree.Elementary.TheVariants.{Int}
use Rattle.il_syntax.specs.declared.tree.Condition.TheVariants.{Always}
use Rattle.il_syntax.specs.declared.tree.Instruction.TheVariants.{Jump, Return}
use Rattle.il_statics.specs.Names.{image_name, standard_function, standard_block, meaning}
use Rattle.il_statics.specs.Types.{typing_numbers, type_after, type_along, opener, label_place, reference_type, goes_on, StandsAt, Follows, onward, jumped, Leads, IsResultAt, stored_names, StoresAt, unknown_label as label_unknown, unreached as never_reached, two_writers as written_twice}
use Rattle.il_statics.specs.Order.{calls, recursive as reaches_itself}
use Rattle.il_statics.specs.Faults.{Broken, Typing, Ordering, of_instruction, unknown_label as of_unknown_label, unreached, two_writers as of_two_writers, recursive}
use Rattle.il_statics.proofs.Passes.{only_one}
use Rattle.il_statics.proofs.Rows.{one_step, not_both, one_instruction, both}
use Rattle.il_witnesses.specs.Trees.{place, named}
use Rattle.il_witnesses.specs.Cases.{negated_number, negated_number_unit, added_boolean, added_boolean_unit, great_literal, great_literal_unit, no_result, no_result_unit, written_input, written_input_a, unknown_label, unknown_label_c, calls_itself, calls_itself_a, one_argument, one_argument_unit, two_writers, two_writers_unit, behind_return, behind_return_c}
use Rattle.il_witnesses.proofs.DeclarationRows.{differ}

-- no type
abbrev no_type : Option Elementary
no_type = None

none_some : (given : Elementary) → no_type ≡ Some given → ⊥
none_some given e = cc

-- at the first instruction there is no result
at_first : (config : Config) (unit : ProgramUnit) → IsResultAt config unit 0 None
at_first config unit given all = none_some given (all.each [] refl)

-- after a first instruction that leaves a type and goes on there is that type
behind_first : (config : Config) (unit : ProgramUnit) (step : Step) (given : Elementary) → StandsAt unit.body 0 step → goes_on step.instruction ≡ true → type_along config unit 0 (1 ∷ []) None ≡ Some given → IsResultAt config unit 1 (Some given)
behind_first config unit step given stands on gives = record {
  reached = (1 ∷ [], (onward step stands on refl, refl));
  each = λ path l. subst (λ p. type_along config unit 0 p None ≡ Some given) (sym (one_step unit.body 0 path l)) gives;
}

-- 30

pub negated_number-row : Broken Typing negated_number 30 (place 10 2)
unfolding typing_numbers opener
negated_number-row =
    of_instruction (record { unit = negated_number_unit; at = 0; step = _; before = None; deferred = None; is_step = record { written = (0, omega arith, refl); stands = refl }; result = at_first negated_number negated_number_unit; waits = refl; broken = (0, omega arith, refl); is_place = refl })

pub added_boolean-row : Broken Typing added_boolean 30 (place 15 3)
unfolding typing_numbers opener type_after
added_boolean-row =
    of_instruction (record { unit = added_boolean_unit; at = 1; step = _; before = Some Int; deferred = None; is_step = record { written = (0, omega arith, refl); stands = refl }; result = behind_first added_boolean added_boolean_unit _ Int refl refl refl; waits = refl; broken = (0, omega arith, refl); is_place = refl })

-- 31

pub great_literal-row : Broken Typing great_literal 31 (place 15 3)
unfolding typing_numbers opener type_after
great_literal-row =
    of_instruction (record { unit = great_literal_unit; at = 1; step = _; before = Some Int; deferred = None; is_step = record { written = (0, omega arith, refl); stands = refl }; result = behind_first great_literal great_literal_unit _ Int refl refl refl; waits = refl; broken = (0, omega arith, refl); is_place = refl })

-- 32

pub no_result-row : Broken Typing no_result 32 (place 10 2)
unfolding typing_numbers opener
no_result-row =
    of_instruction (record { unit = no_result_unit; at = 0; step = _; before = None; deferred = None; is_step = record { written = (0, omega arith, refl); stands = refl }; result = at_first no_result no_result_unit; waits = refl; broken = (0, omega arith, refl); is_place = refl })

-- 33

pub written_input-row : Broken Typing written_input 33 (place 49 4)
unfolding typing_numbers opener type_after reference_type meaning image_name
written_input-row =
    of_instruction (record { unit = written_input_a; at = 1; step = _; before = Some Int; deferred = None; is_step = record { written = (0, omega arith, refl); stands = refl }; result = behind_first written_input written_input_a _ Int refl refl refl; waits = refl; broken = (0, omega arith, refl); is_place = refl })

-- 34

pub unknown_label-row : Broken Typing unknown_label 34 (place 345 14)
unfolding label_place
unknown_label-row =
    of_unknown_label refl (label_unknown unknown_label_c 0 _ (named 349 14 (codes "L")) (record { written = (2, omega arith, refl); jumps = record { stands = refl; condition = Always; jumps = refl } }) refl refl)

-- 37

pub one_argument-row : Broken Typing one_argument 37 (place 15 3)
unfolding typing_numbers opener type_after standard_function
one_argument-row =
    of_instruction (record { unit = one_argument_unit; at = 1; step = _; before = Some Int; deferred = None; is_step = record { written = (0, omega arith, refl); stands = refl }; result = behind_first one_argument one_argument_unit _ Int refl refl refl; waits = refl; broken = (0, omega arith, refl); is_place = refl })

-- 38

stores_late : (other : Place) → StoresAt two_writers_unit (codes "G") other → 45 ≤ other.offset
stores_late other s =
    let late = both (λ (t : Step). Contains (stored_names t.instruction) (codes "G") → 45 ≤ t.place.offset) _ _ s.step (λ c. absurd (omega (arith, c.1))) (λ c. omega arith) s.written s.stores in
    let here : other.offset ≡ s.step.place.offset = ap (λ (p : Place). p.offset) s.is_place in
    omega arith

pub two_writers-row : Broken Typing two_writers 38 (place 45 4)
unfolding image_name standard_function standard_block
two_writers-row =
    let stores : StoresAt two_writers_unit (codes "G") (place 45 4) = record { external = refl; step = _; written = (1, omega arith, refl); stores = (0, omega arith, refl); is_place = refl } in
    of_two_writers refl (written_twice (codes "G") (codes "CAR1") (codes "CAR2") two_writers_unit (0, omega arith, refl) stores
    (λ unit other among st. stores_late other (subst (λ u. StoresAt u (codes "G") other) (only_one _ unit among) st))
    (record { line = _; unit = two_writers_unit; place = place 45 4; listed = (0, omega arith, refl); of_task = refl; of_program = refl; stores = stores })
    (record { line = _; unit = two_writers_unit; place = place 45 4; listed = (1, omega arith, refl); of_task = refl; of_program = refl; stores = stores })
    (differ (codes "CAR1") (codes "CAR2") refl refl))

-- 39

-- nothing follows a return
return_ends : (body : Body) (there : Step) (to : ℕ) → StandsAt body 0 there → there.instruction ≡ Return Always → Follows body 0 to → ⊥
return_ends body there to stands is (onward s st on next) =
    not_both (goes_on s.instruction) on (ap goes_on (sym (one_instruction there s (sym stands ∙ st)) ∙ is))
return_ends body there to stands is (jumped s label jump known up) =
    let same : Return Always ≡ Jump jump.condition label = sym is ∙ one_instruction there s (sym stands ∙ jump.stands) ∙ jump.jumps in
    absurd cc

pub behind_return-row : Broken Typing behind_return 39 (place 352 15)
behind_return-row =
    unreached refl (never_reached behind_return_c 1 _ (record { written = (2, omega arith, refl); stands = refl }) (λ r. no_way r.0 r.1) refl)
  where
    no_way : (path : List ℕ) → Leads behind_return_c.body 0 path 1 → ⊥
    no_way [] e = omega arith
    no_way (next ∷ path) l = return_ends behind_return_c.body _ next refl refl l.0

-- 36

pub calls_itself-row : Broken Ordering calls_itself 36 (place 0 1)
unfolding image_name standard_function standard_block
calls_itself-row =
    recursive refl (reaches_itself calls_itself_a (0, omega arith, refl) ([], calls _ (named 49 4 (codes "G")) [] (1, omega arith, refl) refl refl) refl)
