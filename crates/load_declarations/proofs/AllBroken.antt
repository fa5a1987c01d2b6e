-- What the parts find is what the rules of declarations say.
use Rattle.std.proofs.Common.{◌≡◌, ◌≢◌, ◌⊎◌, inl, inr, ℕ, ◌≤◌, Bool, true, false, ◌||◌, List, ◌++◌, refl, sym, ap, ◌∙◌, subst, Some, arith}
use Rattle.std.specs.Prelude.{Contains, flat_map}
use Rattle.std.proofs.lemmas.List.Elements.{Contains-append_left, Contains-append_right, Contains-append_cases}
use Rattle.il_syntax.specs.declared.tree.Config.{Config}
use Rattle.il_syntax.specs.declared.tree.Unit.{Unit as ProgramUnit}
use Rattle.il_syntax.specs.declared.tree.UnitKind.{UnitKind}
use Rattle.il_syntax.specs.declared.tree.UnitKind.TheVariants.{Function, FunctionBlock, Program}
use Rattle.il_syntax.specs.declared.tree.Declaration.{Declaration}
use Rattle.il_syntax.specs.declared.tree.Named.{Named}
use Rattle.il_syntax.specs.declared.tree.Place.{Place}
use Rattle.il_syntax.specs.declared.tree.Task.{Task}
use Rattle.il_syntax.specs.declared.tree.ProgramLine.{ProgramLine}
use Rattle.il_syntax.specs.declared.tree.WrittenType.{WrittenType}
use Rattle.il_syntax.specs.declared.tree.Form.{Form}
use Rattle.il_syntax.specs.declared.tree.Form.TheVariants.{Scalar as OfScalar, Array as OfArray, Block as OfBlock}
use Rattle.il_statics.specs.Names.{is_one_of, is_predeclared, block_variables}
use Rattle.il_statics.specs.Declarations as rule
use Rattle.il_statics.specs.Declarations.{Admitted, ScalarsAlone, ScalarsAndArrays, admitted_variables, types_in, result_types, unit_types, written_types, type_numbers, subrange_numbers, initial_numbers, name_numbers, unit_declarations, all_declarations, names_in, unit_names, labels_of, names_of_units, global_form, IsTypeBroken, IsInitialBroken, IsNameBroken, IsAgain, IsDuplicate, IsUnknown, IsInitialOutside, IsBadTask, HasOtherType, IsExternal}
use Rattle.il_statics.specs.Faults as broken
use Rattle.il_statics.specs.Faults.{BreaksDeclarations, IsNoLater, same_place}
use Rattle.il_statics.specs.Least.{Either}
use Rattle.il_statics.proofs.Least.{Covered, no_later-refl}
use Rattle.load_declarations.specs.Places.{Among}
use Rattle.load_declarations.specs.Written.{Misdeclared}
use Rattle.load_declarations.specs.Externals.{Differs, BreaksExternal}
use Rattle.load_declarations.specs.Taken.{InLists, TakenName, TakenNames, TakenInUnit}
use Rattle.load_declarations.specs.TaskRules as task
use Rattle.load_declarations.specs.TaskRules.{TaskBreaks, BreaksLine, IsUnusedOf}
use Rattle.load_declarations.specs.Units.{BreaksResult, BreaksLists, UnitBreaks}
use Rattle.load_declarations.specs.Whole.{GlobalsBreak, SecondNames, TasksBreak, AllBreak}
use Rattle.load_declarations.proofs.Members.{none_in, one_in, in_map, from_map, in_flat, from_flat}
use Rattle.load_declarations.proofs.Numbers.{type_cases, initial_cases, name_cases, instance_breaks}
use Rattle.load_declarations.proofs.Againness.{again_found, found_again}
use Rattle.load_declarations.proofs.Lists.{in_one_of, one_of_in}

-- THE RULES FROM NUMBERS

-- a broken type
type_is : (config : Config) (n : ℕ) (p : Place) → IsTypeBroken config n p → BreaksDeclarations config n p
type_is config n p h =
    elim (type_cases config h.0.0 h.0.1.form n h.2) [
      | inl e ↦ broken.unknown e (rule.unknown_type (subst (λ k. IsTypeBroken config k p) e h))
      | inr (inl e) ↦ broken.empty_range e (subst (λ k. IsTypeBroken config k p) e h)
      | inr (inr e) ↦ broken.other_type e (rule.type_misplaced (subst (λ k. IsTypeBroken config k p) e h))
    ]

-- a broken initial value
initial_is : (config : Config) (n : ℕ) (p : Place) → IsInitialBroken config n p → BreaksDeclarations config n p
initial_is config n p h =
    elim (initial_cases h.0.declared.form h.1.literal n h.4) [
      | inl e ↦ broken.initial_outside e (rule.initial_outside (subst (λ k. IsInitialBroken config k p) e h))
      | inr e ↦ broken.other_type e (rule.initial_of_other_type (subst (λ k. IsInitialBroken config k p) e h))
    ]

-- a broken name
name_is : (config : Config) (n : ℕ) (p : Place) → IsNameBroken config n p → BreaksDeclarations config n p
name_is config n p h =
    elim (name_cases config h.0 h.1.instruction n h.4) [
      | inl e ↦ broken.unknown e (rule.unknown_name (subst (λ k. IsNameBroken config k p) e h))
      | inr e ↦ broken.other_type e (rule.name_of_other_type (subst (λ k. IsNameBroken config k p) e h))
    ]

-- LISTS

-- what one of four lists has
in_first : {A : Type 0} (a b c d : List A) (x : A) → Contains a x → Contains (a ++ b ++ c ++ d) x
in_first a b c d x h = Contains-append_left (a ++ b ++ c) d x (Contains-append_left (a ++ b) c x (Contains-append_left a b x h))

in_second : {A : Type 0} (a b c d : List A) (x : A) → Contains b x → Contains (a ++ b ++ c ++ d) x
in_second a b c d x h = Contains-append_left (a ++ b ++ c) d x (Contains-append_left (a ++ b) c x (Contains-append_right a b x h))

in_third : {A : Type 0} (a b c d : List A) (x : A) → Contains c x → Contains (a ++ b ++ c ++ d) x
in_third a b c d x h = Contains-append_left (a ++ b ++ c) d x (Contains-append_right (a ++ b) c x h)

in_fourth : {A : Type 0} (a b c d : List A) (x : A) → Contains d x → Contains (a ++ b ++ c ++ d) x
in_fourth a b c d x h = Contains-append_right (a ++ b ++ c) d x h

in_four : {A : Type 0} (a b c d : List A) (x : A) → Contains (a ++ b ++ c ++ d) x → Contains a x ⊎ (Contains b x ⊎ (Contains c x ⊎ Contains d x))
in_four a b c d x h = elim (Contains-append_cases (a ++ b ++ c) d x h) [
  | inl i ↦ elim (Contains-append_cases (a ++ b) c x i) [ inl j ↦ elim (Contains-append_cases a b x j) [ inl k ↦ inl k | inr k ↦ inr (inl k) ] | inr j ↦ inr (inr (inl j)) ]
  | inr i ↦ inr (inr (inr i))
]

-- the faults of a unit's declarations, by the declaration
to_lists : (H : Declaration → ℕ → Place → Type 0) (u : ProgramUnit) (n : ℕ) (p : Place) (d : Declaration) → Contains (unit_declarations u) d → H d n p → InLists H u n p
to_lists H u n p d c h = elim (in_four u.inputs u.outputs u.variables u.externals d c) [ inl k ↦ inl (d, k, h) | inr (inl k) ↦ inr (inl (d, k, h)) | inr (inr (inl k)) ↦ inr (inr (inl (d, k, h))) | inr (inr (inr k)) ↦ inr (inr (inr (d, k, h))) ]

from_lists : (H : Declaration → ℕ → Place → Type 0) (u : ProgramUnit) (n : ℕ) (p : Place) → InLists H u n p → (d : Declaration) × Contains (unit_declarations u) d × H d n p
from_lists H u n p (inl h) = (h.0, in_first u.inputs u.outputs u.variables u.externals h.0 h.1, h.2)
from_lists H u n p (inr (inl h)) = (h.0, in_second u.inputs u.outputs u.variables u.externals h.0 h.1, h.2)
from_lists H u n p (inr (inr (inl h))) = (h.0, in_third u.inputs u.outputs u.variables u.externals h.0 h.1, h.2)
from_lists H u n p (inr (inr (inr h))) = (h.0, in_fourth u.inputs u.outputs u.variables u.externals h.0 h.1, h.2)

-- FROM THE PARTS

-- a fault of a written type
abbrev TypeFault : Config → Admitted × WrittenType → ℕ → Place → Type 0
TypeFault config t n p = Contains (type_numbers config t.0 t.1.form) n × (p ≡ t.1.place)

-- a declaration of a list whose types are written
declared_is : (config : Config) (a : Admitted) (d : Declaration) (n : ℕ) (p : Place) → Contains (written_types config) (a, d.declared) → Contains (all_declarations config) d → Misdeclared config a d n p → BreaksDeclarations config n p
declared_is config a d n p types all (inl h) = type_is config n p ((a, d.declared), types, h.0, h.1)
declared_is config a d n p types all (inr h) = initial_is config n p (d, h.0, all, h.1, h.2, h.3)

-- the types and declarations of a unit are the configuration's
unit_type : (config : Config) (u : ProgramUnit) (t : Admitted × WrittenType) → Contains config.units u → Contains (unit_types u) t → Contains (written_types config) t
unit_type config u t c h = Contains-append_left (flat_map unit_types config.units) (types_in ScalarsAndArrays config.globals) t (in_flat unit_types config.units u t c h)

unit_declaration : (config : Config) (u : ProgramUnit) (d : Declaration) → Contains config.units u → Contains (unit_declarations u) d → Contains (all_declarations config) d
unit_declaration config u d c h = Contains-append_left (flat_map unit_declarations config.units) config.globals d (in_flat unit_declarations config.units u d c h)

-- the written types of a unit, list by list
abbrev written : ProgramUnit → List (Admitted × WrittenType)
written u = result_types u.kind ++ types_in ScalarsAlone u.inputs ++ types_in ScalarsAlone u.outputs ++ types_in (admitted_variables u.kind) u.variables

in_types : (a : Admitted) (ds : List Declaration) (d : Declaration) → Contains ds d → Contains (types_in a ds) (a, d.declared)
in_types a ds d c = in_map (λ (x : Declaration). (a, x.declared)) ds d c

-- a function's result
result_is : (config : Config) (u : ProgramUnit) (n : ℕ) (p : Place) → Contains config.units u → BreaksResult u.kind n p → BreaksDeclarations config n p
unfolding type_numbers
result_is config u n p c h = go u.kind refl h
  where
    go : (k : UnitKind) → u.kind ≡ k → BreaksResult k n p → BreaksDeclarations config n p
    go (Function scalar place) is b =
        type_is config n p (
          (ScalarsAlone, record { place = place; form = OfScalar scalar }),
          unit_type config u _ c (Contains-append_left (written u) (types_in ScalarsAndArrays u.externals) _ (in_first (result_types u.kind) (types_in ScalarsAlone u.inputs) (types_in ScalarsAlone u.outputs) (types_in (admitted_variables u.kind) u.variables) _
              (subst (λ x. Contains (result_types x) (ScalarsAlone, record { place = place; form = OfScalar scalar })) (sym is) (0, omega arith, refl)))),
          b.0,
          b.1,
        )
    go FunctionBlock is b = absurd b
    go Program is b = absurd b

-- a unit's lists
lists_are : (config : Config) (u : ProgramUnit) (n : ℕ) (p : Place) → Contains config.units u → BreaksLists config u n p → BreaksDeclarations config n p
lists_are config u n p c (inl h) = declared_is config ScalarsAlone h.0 n p (unit_type config u _ c (Contains-append_left (written u) (types_in ScalarsAndArrays u.externals) _ (in_second (result_types u.kind) (types_in ScalarsAlone u.inputs) (types_in ScalarsAlone u.outputs) (types_in (admitted_variables u.kind) u.variables) _ (in_types ScalarsAlone u.inputs h.0 h.1)))) (unit_declaration config u h.0 c (in_first u.inputs u.outputs u.variables u.externals h.0 h.1)) h.2
lists_are config u n p c (inr (inl h)) = declared_is config ScalarsAlone h.0 n p (unit_type config u _ c (Contains-append_left (written u) (types_in ScalarsAndArrays u.externals) _ (in_third (result_types u.kind) (types_in ScalarsAlone u.inputs) (types_in ScalarsAlone u.outputs) (types_in (admitted_variables u.kind) u.variables) _ (in_types ScalarsAlone u.outputs h.0 h.1)))) (unit_declaration config u h.0 c (in_second u.inputs u.outputs u.variables u.externals h.0 h.1)) h.2
lists_are config u n p c (inr (inr (inl h))) = declared_is config (admitted_variables u.kind) h.0 n p (unit_type config u _ c (Contains-append_left (written u) (types_in ScalarsAndArrays u.externals) _ (in_fourth (result_types u.kind) (types_in ScalarsAlone u.inputs) (types_in ScalarsAlone u.outputs) (types_in (admitted_variables u.kind) u.variables) _ (in_types (admitted_variables u.kind) u.variables h.0 h.1)))) (unit_declaration config u h.0 c (in_third u.inputs u.outputs u.variables u.externals h.0 h.1)) h.2
lists_are config u n p c (inr (inr (inr h))) = declared_is config ScalarsAndArrays h.0 n p (unit_type config u _ c (Contains-append_right (written u) (types_in ScalarsAndArrays u.externals) _ (in_types ScalarsAndArrays u.externals h.0 h.1))) (unit_declaration config u h.0 c (in_fourth u.inputs u.outputs u.variables u.externals h.0 h.1)) h.2

-- another type
differs_is : (form other : Form) → Differs form other → form ≢ other
differs_is (OfScalar s) other h = h
differs_is (OfArray b e) other h = h
differs_is (OfBlock name) other h = absurd h

-- externals
external_is : (config : Config) (u : ProgramUnit) (n : ℕ) (p : Place) → Contains config.units u → (d : Declaration) → Contains u.externals d → (m : Named) → Contains d.names m → BreaksExternal config d m n p → BreaksDeclarations config n p
external_is config u n p c d listed m named (inl h) = broken.unknown h.1 (rule.unknown_global d m (record { unit = u; written = c; listed = listed; named = named }) h.0 h.2)
external_is config u n p c d listed m named (inr h) = broken.other_type h.1 (rule.external_differs d m h.0.0 (record { unit = u; written = c; listed = listed; named = named }) h.0.1 (differs_is d.declared.form h.0.0 h.0.2) h.2)

-- a taken name
either_true : (a b : Bool) → (a || b) ≡ true → (a ≡ true) ⊎ (b ≡ true)
either_true true b h = inl refl
either_true false b h = inr h

taken_is : (config : Config) (u : ProgramUnit) (n : ℕ) (p : Place) → Contains config.units u → (m : Named) → Contains (unit_names u) m → TakenName config m n p → BreaksDeclarations config n p
taken_is config u n p c m named h =
    elim (either_true (is_predeclared config m.name) (is_one_of (names_of_units config) m.name) h.0) [
      | inl t ↦ broken.duplicate h.1 (rule.predeclared_variable u m c named t h.2)
      | inr t ↦ broken.duplicate h.1 (rule.variable_as_unit u m c named (one_of_in (names_of_units config) m.name t) h.2)
    ]

taken_unit : (config : Config) (u : ProgramUnit) (n : ℕ) (p : Place) → Contains config.units u → TakenInUnit config u n p → BreaksDeclarations config n p
taken_unit config u n p c (inl h) = broken.duplicate h.1 (rule.predeclared_unit u c h.0 h.2)
taken_unit config u n p c (inr h) = let d = from_lists (TakenNames config) u n p h in taken_is config u n p c d.2.0 (in_flat (λ (x : Declaration). x.names) (unit_declarations u) d.0 d.2.0 d.1 d.2.1) d.2.2

-- a unit
unit_is : (config : Config) (u : ProgramUnit) (n : ℕ) (p : Place) → Contains config.units u → UnitBreaks config u n p → BreaksDeclarations config n p
unit_is config u n p c (inl (inl (inl h))) = result_is config u n p c h
unit_is config u n p c (inl (inl (inr h))) = lists_are config u n p c h
unit_is config u n p c (inl (inr (inl h))) = external_is config u n p c h.0 h.1 h.2.0 h.2.1 h.2.2
unit_is config u n p c (inl (inr (inr (inl h)))) = taken_unit config u n p c h
unit_is config u n p c (inl (inr (inr (inr h)))) = name_is config n p (u, h.0, c, h.1, h.2.0, h.2.1)
unit_is config u n p c (inr (inl h)) = let r = found_again (λ (m : Named). m.name) (λ m. m.place) 20 (unit_names u) n p h in broken.duplicate r.2 (rule.second_variable u r.0 c r.1 r.3)
unit_is config u n p c (inr (inr h)) = let r = found_again (λ (m : Named). m.name) (λ m. m.place) 20 (labels_of u.body) n p h in broken.duplicate r.2 (rule.second_label u r.0 c r.1 r.3)

-- globals
globals_are : (config : Config) (n : ℕ) (p : Place) → GlobalsBreak config n p → BreaksDeclarations config n p
globals_are config n p (inl h) = declared_is config ScalarsAndArrays h.0 n p (Contains-append_right (flat_map unit_types config.units) (types_in ScalarsAndArrays config.globals) _ (in_types ScalarsAndArrays config.globals h.0 h.1)) (Contains-append_right (flat_map unit_declarations config.units) config.globals h.0 h.1) h.2
globals_are config n p (inr (inl h)) =
    elim (either_true (is_predeclared config h.2.0.name) (is_one_of (names_of_units config) h.2.0.name) h.2.2.0) [
      | inl t ↦ broken.duplicate h.2.2.1 (rule.predeclared_global h.2.0 (in_flat (λ (x : Declaration). x.names) config.globals h.0 h.2.0 h.1 h.2.1) t h.2.2.2)
      | inr t ↦ broken.duplicate h.2.2.1 (rule.global_as_unit h.2.0 (in_flat (λ (x : Declaration). x.names) config.globals h.0 h.2.0 h.1 h.2.1) (one_of_in (names_of_units config) h.2.0.name t) h.2.2.2)
    ]
globals_are config n p (inr (inr h)) = let r = found_again (λ (m : Named). m.name) (λ m. m.place) 20 (names_in config.globals) n p h in broken.duplicate r.2 (rule.second_global r.0 r.1 r.3)

-- second names
second_are : (config : Config) (n : ℕ) (p : Place) → SecondNames config n p → BreaksDeclarations config n p
second_are config n p (inl h) = let r = found_again (λ (u : ProgramUnit). u.name.name) (λ u. u.place) 20 config.units n p h in broken.duplicate r.2 (rule.second_unit r.0 r.1 r.3)
second_are config n p (inr (inl h)) = let r = found_again (λ (t : Task). t.name.name) (λ t. t.place) 20 config.tasks n p h in broken.duplicate r.2 (rule.second_task r.0 r.1 r.3)
second_are config n p (inr (inr h)) = let r = found_again (λ (l : ProgramLine). l.name.name) (λ l. l.place) 20 config.programs n p h in broken.duplicate r.2 (rule.second_program_line r.0 r.1 r.3)

-- tasks
line_is : (config : Config) (l : ProgramLine) (n : ℕ) (p : Place) → Contains config.programs l → BreaksLine config l → n ≡ 24 → p ≡ l.place → BreaksDeclarations config n p
line_is config l n p c (task.unknown_task h) e at = broken.bad_task e (rule.unknown_task l c h at)
line_is config l n p c (task.unknown_program h) e at = broken.bad_task e (rule.unknown_program l c h at)
line_is config l n p c (task.other_role_given h) e at = broken.bad_task e (rule.other_role l h.0 c h.1 h.2 at)

tasks_are : (config : Config) (n : ℕ) (p : Place) → TasksBreak config n p → BreaksDeclarations config n p
tasks_are config n p (inl (t, c, inl h)) = broken.bad_task h.1 (rule.foreign_task t c h.0 h.2)
tasks_are config n p (inl (t, c, inr h)) = broken.bad_task h.1 (rule.missing_line t c h.0 h.2)
tasks_are config n p (inr (inl h)) = line_is config h.0 n p h.1 h.2.0 h.2.1 h.2.2
tasks_are config n p (inr (inr (inl h))) = broken.bad_task h.2.1 (rule.unused_program h.0 h.1 h.2.0.0 h.2.0.1 h.2.2)
tasks_are config n p (inr (inr (inr (inl h)))) = broken.bad_task h.1 (rule.missing_task h.0.0 h.0.1 h.0.2 h.0.3 h.2)
tasks_are config n p (inr (inr (inr (inr h)))) = let r = found_again (λ (l : ProgramLine). l.task.name) (λ l. l.place) 24 config.programs n p h in broken.bad_task r.2 (rule.second_line r.0 r.1 r.3)

-- all parts
pub is_broken : (config : Config) (n : ℕ) (p : Place) → AllBreak config n p → BreaksDeclarations config n p
is_broken config n p (inl (inl h)) = broken.initial_outside h.2.1 (rule.size_outside h.0 h.1 h.2.0 h.2.2)
is_broken config n p (inl (inr h)) = unit_is config h.0 n p h.1 h.2
is_broken config n p (inr (inl h)) = globals_are config n p h
is_broken config n p (inr (inr (inl h))) = second_are config n p h
is_broken config n p (inr (inr (inr h))) = tasks_are config n p h

-- TO THE PARTS

-- a fault of a unit
of_unit : (config : Config) (u : ProgramUnit) (n : ℕ) (p : Place) → Contains config.units u → UnitBreaks config u n p → AllBreak config n p
of_unit config u n p c h = inl (inr (u, c, h))

-- a fault of a list's written types
listed_type : (config : Config) (a : Admitted) (ds : List Declaration) (t : Admitted × WrittenType) (n : ℕ) (p : Place) → Contains (types_in a ds) t → TypeFault config t n p → Among (Misdeclared config a) ds n p
listed_type config a ds t n p c h = let m = from_map (λ (x : Declaration). (a, x.declared)) ds t c in (m.0, m.1, inl (subst (λ x. TypeFault config x n p) (sym m.2) h))

-- of a function's result
result_type : (config : Config) (kind : UnitKind) (t : Admitted × WrittenType) (n : ℕ) (p : Place) → Contains (result_types kind) t → TypeFault config t n p → BreaksResult kind n p
unfolding type_numbers
result_type config (Function scalar place) t n p c h = subst (λ x. TypeFault config x n p) (sym (one_in (ScalarsAlone, record { place = place; form = OfScalar scalar }) t c)) h
result_type config FunctionBlock t n p c h = absurd (none_in t c)
result_type config Program t n p c h = absurd (none_in t c)

-- of a unit
unit_type_in : (config : Config) (u : ProgramUnit) (t : Admitted × WrittenType) (n : ℕ) (p : Place) → Contains (unit_types u) t → TypeFault config t n p → Either (BreaksResult u.kind) (BreaksLists config u) n p
unit_type_in config u t n p c h =
    elim (Contains-append_cases (written u) (types_in ScalarsAndArrays u.externals) t c) [
      | inl i ↦ elim (in_four (result_types u.kind) (types_in ScalarsAlone u.inputs) (types_in ScalarsAlone u.outputs) (types_in (admitted_variables u.kind) u.variables) t i) [
        | inl k ↦ inl (result_type config u.kind t n p k h)
        | inr (inl k) ↦ inr (inl (listed_type config ScalarsAlone u.inputs t n p k h))
        | inr (inr (inl k)) ↦ inr (inr (inl (listed_type config ScalarsAlone u.outputs t n p k h)))
        | inr (inr (inr k)) ↦ inr (inr (inr (inl (listed_type config (admitted_variables u.kind) u.variables t n p k h))))
      ]
      | inr i ↦ inr (inr (inr (inr (listed_type config ScalarsAndArrays u.externals t n p i h))))
    ]

-- a broken type
from_type : (config : Config) (n : ℕ) (p : Place) → IsTypeBroken config n p → AllBreak config n p
from_type config n p (t, c, h, at) =
    elim (Contains-append_cases (flat_map unit_types config.units) (types_in ScalarsAndArrays config.globals) t c) [
      | inl i ↦ of_one (from_flat unit_types config.units t i)
      | inr i ↦ inr (inl (inl (listed_type config ScalarsAndArrays config.globals t n p i (h, at))))
    ]
  where
    of_one : (u : ProgramUnit) × Contains config.units u × Contains (unit_types u) t → AllBreak config n p
    of_one r = of_unit config r.0 n p r.1 (inl (inl (unit_type_in config r.0 t n p r.2 (h, at))))

-- a broken initial value
from_initial : (config : Config) (n : ℕ) (p : Place) → IsInitialBroken config n p → AllBreak config n p
from_initial config n p (d, i, c, is, h, at) =
    elim (Contains-append_cases (flat_map unit_declarations config.units) config.globals d c) [
      | inl k ↦ of_one (from_flat unit_declarations config.units d k)
      | inr k ↦ inr (inl (inl (d, k, inr (i, is, h, at))))
    ]
  where
    of_lists : (u : ProgramUnit) → Contains (unit_declarations u) d → BreaksLists config u n p
    of_lists u k = elim (in_four u.inputs u.outputs u.variables u.externals d k) [
      | inl j ↦ inl (d, j, inr (i, is, h, at))
      | inr (inl j) ↦ inr (inl (d, j, inr (i, is, h, at)))
      | inr (inr (inl j)) ↦ inr (inr (inl (d, j, inr (i, is, h, at))))
      | inr (inr (inr j)) ↦ inr (inr (inr (d, j, inr (i, is, h, at))))
    ]

    of_one : (u : ProgramUnit) × Contains config.units u × Contains (unit_declarations u) d → AllBreak config n p
    of_one r = of_unit config r.0 n p r.1 (inl (inl (inr (of_lists r.0 r.2))))

-- a broken name
from_name : (config : Config) (n : ℕ) (p : Place) → IsNameBroken config n p → AllBreak config n p
from_name config n p (u, s, c, k, h, at) = of_unit config u n p c (inl (inr (inr (inr (s, k, (h, at))))))

-- one of two tests
or_left : (a b : Bool) → a ≡ true → (a || b) ≡ true
or_left a b h = ap (λ x. x || b) h

or_right : (a b : Bool) → b ≡ true → (a || b) ≡ true
or_right true b h = refl
or_right false b h = h

-- a taken name
of_taken : (config : Config) (u : ProgramUnit) (n : ℕ) (p : Place) → Contains config.units u → (m : Named) → Contains (unit_names u) m → TakenName config m n p → AllBreak config n p
of_taken config u n p c m named h = let d = from_flat (λ (x : Declaration). x.names) (unit_declarations u) m named in of_unit config u n p c (inl (inr (inr (inl (inr (to_lists (TakenNames config) u n p d.0 d.1 (m, d.2, h)))))))

-- a taken name of a global
of_global : (config : Config) (n : ℕ) (p : Place) (m : Named) → Contains (names_in config.globals) m → TakenName config m n p → AllBreak config n p
of_global config n p m named h = let d = from_flat (λ (x : Declaration). x.names) config.globals m named in inr (inl (inr (inl (d.0, d.1, (m, d.2, h)))))

-- a duplicate
from_duplicate : (config : Config) (n : ℕ) (p : Place) → n ≡ 20 → IsDuplicate config p → AllBreak config n p
from_duplicate config n p e (rule.predeclared_unit u c t at) = of_unit config u n p c (inl (inr (inr (inl (inl (t, e, at))))))
from_duplicate config n p e (rule.second_unit u again at) = inr (inr (inl (inl (again_found (λ (x : ProgramUnit). x.name.name) (λ x. x.place) 20 config.units u n p again e at))))
from_duplicate config n p e (rule.predeclared_variable u m c named t at) = of_taken config u n p c m named (or_left (is_predeclared config m.name) (is_one_of (names_of_units config) m.name) t, e, at)
from_duplicate config n p e (rule.variable_as_unit u m c named t at) = of_taken config u n p c m named (or_right (is_predeclared config m.name) (is_one_of (names_of_units config) m.name) (in_one_of (names_of_units config) m.name t), e, at)
from_duplicate config n p e (rule.second_variable u m c again at) = of_unit config u n p c (inr (inl (again_found (λ (x : Named). x.name) (λ x. x.place) 20 (unit_names u) m n p again e at)))
from_duplicate config n p e (rule.second_label u m c again at) = of_unit config u n p c (inr (inr (again_found (λ (x : Named). x.name) (λ x. x.place) 20 (labels_of u.body) m n p again e at)))
from_duplicate config n p e (rule.predeclared_global m named t at) = of_global config n p m named (or_left (is_predeclared config m.name) (is_one_of (names_of_units config) m.name) t, e, at)
from_duplicate config n p e (rule.global_as_unit m named t at) = of_global config n p m named (or_right (is_predeclared config m.name) (is_one_of (names_of_units config) m.name) (in_one_of (names_of_units config) m.name t), e, at)
from_duplicate config n p e (rule.second_global m again at) = inr (inl (inr (inr (again_found (λ (x : Named). x.name) (λ x. x.place) 20 (names_in config.globals) m n p again e at))))
from_duplicate config n p e (rule.second_task t again at) = inr (inr (inl (inr (inl (again_found (λ (x : Task). x.name.name) (λ x. x.place) 20 config.tasks t n p again e at)))))
from_duplicate config n p e (rule.second_program_line l again at) = inr (inr (inl (inr (inr (again_found (λ (x : ProgramLine). x.name.name) (λ x. x.place) 20 config.programs l n p again e at)))))

-- a wrong task
from_task : (config : Config) (n : ℕ) (p : Place) → n ≡ 24 → IsBadTask config p → TasksBreak config n p
from_task config n p e (rule.foreign_task t c none at) = inl (t, c, inl (none, e, at))
from_task config n p e (rule.unknown_task l c never at) = inr (inl (l, c, (task.unknown_task never, e, at)))
from_task config n p e (rule.second_line l again at) = inr (inr (inr (inr (again_found (λ (x : ProgramLine). x.task.name) (λ x. x.place) 24 config.programs l n p again e at))))
from_task config n p e (rule.unknown_program l c none at) = inr (inl (l, c, (task.unknown_program none, e, at)))
from_task config n p e (rule.other_role l r c is differs at) = inr (inl (l, c, (task.other_role_given (r, is, differs), e, at)))
from_task config n p e (rule.missing_task k low high none at) = inr (inr (inr (inl ((k, low, high, none), e, at))))
from_task config n p e (rule.missing_line t c never at) = inl (t, c, inr (never, e, at))
from_task config n p e (rule.unused_program u c is never at) = inr (inr (inl (u, c, ((is, never), e, at))))

-- what is found itself
exactly : (config : Config) (n : ℕ) (p : Place) → AllBreak config n p → Covered (AllBreak config) n p
exactly config n p h = (n, p, h, no_later-refl n p)

-- an external's type
from_external : (config : Config) (n : ℕ) (p : Place) → n ≡ 25 → (d : Declaration) (m : Named) (form : Form) → IsExternal config d m → global_form config m.name ≡ Some form → d.declared.form ≢ form → p ≡ d.declared.place → Covered (AllBreak config) n p
unfolding type_numbers
from_external config n p e d m form x is differs at = go d.declared.form refl
  where
    own : Differs d.declared.form form → Covered (AllBreak config) n p
    own h = exactly config n p (of_unit config x.unit n p x.written (inl (inr (inl (d, x.listed, (m, x.named, inr ((form, is, h), e, at)))))))

    same : (f : Form) → d.declared.form ≡ f → Differs f form → Differs d.declared.form form
    same f k h = subst (λ g. Differs g form) (sym k) h

    broken_type : (k : ℕ) → Contains (type_numbers config ScalarsAndArrays d.declared.form) k → k ≤ 25 → Covered (AllBreak config) n p
    broken_type k h low =
        (k, d.declared.place, of_unit config x.unit k d.declared.place x.written (inl (inl (inr (inr (inr (inr (d, x.listed, inl (h, refl)))))))), same_place (ap (λ q. q.offset) (sym at)) (subst (λ j. k ≤ j) (sym e) low))

    go : (f : Form) → d.declared.form ≡ f → Covered (AllBreak config) n p
    go (OfScalar s) k = own (same (OfScalar s) k (λ h. differs (k ∙ h)))
    go (OfArray b s) k = own (same (OfArray b s) k (λ h. differs (k ∙ h)))
    go (OfBlock name) k = elim (instance_breaks ScalarsAndArrays (block_variables config name) refl) [
      | inl h ↦ broken_type 21 (subst (λ g. Contains (type_numbers config ScalarsAndArrays g) 21) (sym k) h) (omega arith)
      | inr h ↦ broken_type 25 (subst (λ g. Contains (type_numbers config ScalarsAndArrays g) 25) (sym k) h) (omega arith)
    ]

-- an unknown name
from_unknown : (config : Config) (n : ℕ) (p : Place) → n ≡ 21 → IsUnknown config p → AllBreak config n p
from_unknown config n p e (rule.unknown_type h) = subst (λ k. AllBreak config k p) (sym e) (from_type config 21 p h)
from_unknown config n p e (rule.unknown_global d m x none at) = of_unit config x.unit n p x.written (inl (inr (inl (d, x.listed, (m, x.named, inl (none, e, at))))))
from_unknown config n p e (rule.unknown_name h) = subst (λ k. AllBreak config k p) (sym e) (from_name config 21 p h)

-- another type
from_other : (config : Config) (n : ℕ) (p : Place) → n ≡ 25 → HasOtherType config p → Covered (AllBreak config) n p
from_other config n p e (rule.type_misplaced h) = exactly config n p (subst (λ k. AllBreak config k p) (sym e) (from_type config 25 p h))
from_other config n p e (rule.initial_of_other_type h) = exactly config n p (subst (λ k. AllBreak config k p) (sym e) (from_initial config 25 p h))
from_other config n p e (rule.external_differs d m form x is differs at) = from_external config n p e d m form x is differs at
from_other config n p e (rule.name_of_other_type h) = exactly config n p (subst (λ k. AllBreak config k p) (sym e) (from_name config 25 p h))

-- a size or an initial value
from_outside : (config : Config) (n : ℕ) (p : Place) → n ≡ 23 → IsInitialOutside config p → AllBreak config n p
from_outside config n p e (rule.initial_outside h) = subst (λ k. AllBreak config k p) (sym e) (from_initial config 23 p h)
from_outside config n p e (rule.size_outside s c h at) = inl (inl (s, c, (h, e, at)))

-- each broken rule is found, or an earlier one
pub broken_is : (config : Config) (n : ℕ) (p : Place) → BreaksDeclarations config n p → Covered (AllBreak config) n p
broken_is config n p (broken.duplicate e h) = exactly config n p (from_duplicate config n p e h)
broken_is config n p (broken.unknown e h) = exactly config n p (from_unknown config n p e h)
broken_is config n p (broken.empty_range e h) = exactly config n p (subst (λ k. AllBreak config k p) (sym e) (from_type config 22 p h))
broken_is config n p (broken.initial_outside e h) = exactly config n p (from_outside config n p e h)
broken_is config n p (broken.bad_task e h) = exactly config n p (inr (inr (inr (from_task config n p e h))))
broken_is config n p (broken.other_type e h) = from_other config n p e h
