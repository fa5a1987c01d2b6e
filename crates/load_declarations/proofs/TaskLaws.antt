-- Tasks and PROGRAM lines: what is found is what is broken.
use Rattle.std.proofs.Common.{◌≡◌, ℕ, Bool, true, false, not, ◌||◌, ◌&&◌, List, refl, sym, ap, ◌∙◌, Option, Some, None, is_some, option_map}
use Rattle.std.specs.Prelude.{Contains, ℤ}
use Rattle.il_syntax.specs.declared.tree.Config.{Config}
use Rattle.il_syntax.specs.declared.tree.ProgramLine.{ProgramLine}
use Rattle.il_syntax.specs.declared.tree.Unit.{Unit as ProgramUnit}
use Rattle.base_maps.specs.NameMap.{NameMap, get}
use Rattle.il_statics.specs.declared.names.Role.TheVariants.{Car as CarRole, Group as GroupRole}
use Rattle.il_statics.specs.Names as rule
use Rattle.il_statics.specs.Names.{Spelling, is_one_of, is_program, program_named, program_role, task_role}
use Rattle.il_statics.specs.Declarations.{names_of_tasks}
use Rattle.il_statics.specs.declared.names.Role.{Role}
use Rattle.load_scope.specs.Views.{program_number}
use Rattle.load_scope.proofs.Laws.{program_there}
use Rattle.load_declarations.specs.TaskRules.{IsSet, BreaksLine, unknown_task, unknown_program, other_role_given, IsUnusedOf, other_role, has_other_role, is_wrong_line}
use Rattle.load_declarations.proofs.Lists.{not_in, in_none}

-- no role
pub none_is : {A : Type 0} (o : Option A) → not (is_some o) ≡ true → o ≡ None
none_is None e = refl
none_is (Some x) e = let bad : false ≡ true = e in cc

pub is_none_of : {A : Type 0} (o : Option A) → o ≡ None → not (is_some o) ≡ true
is_none_of o e = ap (λ x. not (is_some x)) e

-- a task of no role
pub no_role : (config seen : Config) (cars : ℤ) (name key : Spelling) (r : Option Role) (none : Bool) → seen ≡ config → cars ≡ seen.cars.value → key ≡ name → r ≡ task_role cars key → is_some r ≡ not none → none ≡ not (is_some (task_role config.cars.value name))
no_role config seen cars name key r none same value named found there =
    back none ∙ ap not (sym there ∙ ap is_some found ∙ ap (λ z. is_some (task_role z key)) (value ∙ ap (λ k. k.cars.value) same) ∙ ap (λ k. is_some (task_role config.cars.value k)) named)
  where
    back : (b : Bool) → b ≡ not (not b)
    back true = refl
    back false = refl

-- a name that a set doesn't have
pub set_not_in : {X : Type 0} (names : List Spelling) (set : NameMap X) (q key : Spelling) (h : Bool) → h ≡ is_some (get set key) → key ≡ q → IsSet names set → not h ≡ true → ¬ Contains names q
set_not_in names set q key h is same all e = not_in names q (ap not (sym (is ∙ ap (λ k. is_some (get set k)) same ∙ all q)) ∙ e)

pub set_in_none : {X : Type 0} (names : List Spelling) (set : NameMap X) (q key : Spelling) (h : Bool) → h ≡ is_some (get set key) → key ≡ q → IsSet names set → (¬ Contains names q) → not h ≡ true
set_in_none names set q key h is same all never = ap not (is ∙ ap (λ k. is_some (get set k)) same ∙ all q) ∙ in_none names q never

-- another role
role_differs : (a b : Option Role) → other_role a b ≡ true → (role : Role) × (a ≡ Some role) × (b ≡ Some role → ⊥)
role_differs None b e = let bad : false ≡ true = e in cc
role_differs (Some CarRole) None e = (CarRole, refl, λ h. let bad : None ≡ Some CarRole = h in cc)
role_differs (Some CarRole) (Some CarRole) e = let bad : false ≡ true = e in cc
role_differs (Some CarRole) (Some GroupRole) e = (CarRole, refl, λ h. let bad : Some GroupRole ≡ Some CarRole = h in cc)
role_differs (Some GroupRole) None e = (GroupRole, refl, λ h. let bad : None ≡ Some GroupRole = h in cc)
role_differs (Some GroupRole) (Some CarRole) e = (GroupRole, refl, λ h. let bad : Some CarRole ≡ Some GroupRole = h in cc)
role_differs (Some GroupRole) (Some GroupRole) e = let bad : false ≡ true = e in cc

differs_role : (a b : Option Role) (role : Role) → a ≡ Some role → (b ≡ Some role → ⊥) → other_role a b ≡ true
differs_role None b role e other = let bad : None ≡ Some role = e in cc
differs_role (Some CarRole) None role e other = refl
differs_role (Some CarRole) (Some CarRole) role e other = absurd (other e)
differs_role (Some CarRole) (Some GroupRole) role e other = refl
differs_role (Some GroupRole) None role e other = refl
differs_role (Some GroupRole) (Some CarRole) role e other = refl
differs_role (Some GroupRole) (Some GroupRole) role e other = absurd (other e)

-- a wrong PROGRAM line
pub line_breaks : (config : Config) (line : ProgramLine) → is_wrong_line config line ≡ true → BreaksLine config line
line_breaks config line e = go (not (is_one_of (names_of_tasks config) line.task.name)) refl (program_named config line.program.name) refl e
  where
    go : (a : Bool) → not (is_one_of (names_of_tasks config) line.task.name) ≡ a → (o : Option ProgramUnit) → program_named config line.program.name ≡ o → (a || not (is_some o) || has_other_role config line) ≡ true → BreaksLine config line
    go true is o named h = unknown_task (not_in (names_of_tasks config) line.task.name is)
    go false is None named h = unknown_program named
    go false is (Some u) named h = other_role_given (role_differs (task_role config.cars.value line.task.name) (program_role config line.program.name config.programs) h)

pub breaks_line : (config : Config) (line : ProgramLine) → BreaksLine config line → is_wrong_line config line ≡ true
breaks_line config line (unknown_task never) = ap (λ b. b || not (is_some (program_named config line.program.name)) || has_other_role config line) (in_none (names_of_tasks config) line.task.name never)
breaks_line config line (unknown_program none) = ap (λ o. not (is_one_of (names_of_tasks config) line.task.name) || not (is_some o) || has_other_role config line) none ∙ middle (not (is_one_of (names_of_tasks config) line.task.name)) (has_other_role config line)
  where
    middle : (a c : Bool) → (a || true || c) ≡ true
    middle true c = refl
    middle false c = refl
breaks_line config line (other_role_given other) = ap (λ b. not (is_one_of (names_of_tasks config) line.task.name) || not (is_some (program_named config line.program.name)) || b) (differs_role (task_role config.cars.value line.task.name) (program_role config line.program.name config.programs) other.0 other.1 other.2) ∙ last (not (is_one_of (names_of_tasks config) line.task.name)) (not (is_some (program_named config line.program.name)))
  where
    last : (a b : Bool) → (a || b || true) ≡ true
    last true b = refl
    last false true = refl
    last false false = refl

-- an unused program
pub unused_is : (programs : List Spelling) (unit : ProgramUnit) → (is_program unit && not (is_one_of programs unit.name.name)) ≡ true → IsUnusedOf programs unit
unused_is programs unit e = go (is_program unit) refl e
  where
    go : (p : Bool) → is_program unit ≡ p → (p && not (is_one_of programs unit.name.name)) ≡ true → IsUnusedOf programs unit
    go true is h = (is, not_in programs unit.name.name h)
    go false is h = let bad : false ≡ true = h in cc

pub is_unused : (programs : List Spelling) (unit : ProgramUnit) → IsUnusedOf programs unit → (is_program unit && not (is_one_of programs unit.name.name)) ≡ true
is_unused programs unit u = ap (λ b. b && not (is_one_of programs unit.name.name)) u.0 ∙ in_none programs unit.name.name u.1

-- a PROGRAM line of no program
pub no_program : (config : Config) (name : Spelling) (key : Spelling) (o : Option ℕ) (none : Bool) → o ≡ program_number config key → key ≡ name → is_some o ≡ not none → none ≡ not (is_some (program_named config name))
no_program config name key o none found same there = back none ∙ ap not (sym there ∙ ap is_some (found ∙ ap (program_number config) same) ∙ program_there config name)
  where
    back : (b : Bool) → b ≡ not (not b)
    back true = refl
    back false = refl
