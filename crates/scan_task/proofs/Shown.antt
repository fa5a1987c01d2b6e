-- Each task of the group is listed.
use Rattle.std.proofs.Common.{◌≡◌, ℕ, Bool, true, false, ◌&&◌, List, [], ◌∷◌, map, Option, Some, None, option_map, option_and_then, refl, sym, ap, ◌∙◌, bytes_eq, if◌then◌else◌}
use Rattle.std.specs.Prelude.{find, Contains}
use Rattle.il_syntax.specs.declared.tree.Config.{Config}
use Rattle.il_syntax.specs.declared.tree.Unit.{Unit as Organized}
use Rattle.il_syntax.specs.declared.tree.Task.{Task}
use Rattle.il_syntax.specs.declared.tree.ProgramLine.{ProgramLine}
use Rattle.il_statics.specs.Declarations.{unknown_task}
use Rattle.il_statics.specs.Faults.{Declaring, Broken, HasNoFault, bad_task}
use Rattle.load_budgets.specs.Costs.{cost_of}
use Rattle.base_maps.specs.NameMap.{Text}
use Rattle.il_semantics.specs.Scan.{program_of as program_by}
use Rattle.il_semantics_laws.proofs.Lists.{found_in, finds_some, of_map}
use Rattle.scan_task.specs.Scanning.{Program, IsRunnable}
use Rattle.scan_task.specs.Listing.{UnitLine, unit_line, unit_lines, TaskLine, task_by, task_of, program_line_of, unit_of, is_task_name, task_among, ListsTasks}
use Rattle.scan_task.proofs.Lines.{none_some, line_program, program_is_first}
use Rattle.scan_task.proofs.Sizes.{few_tasks}

second_so : (a b : Bool) → (a && b) ≡ true → b ≡ true
second_so true b e = e
second_so false b e = cc

-- a task with a PROGRAM line has a TASK line
task_found : (c : Config) → HasNoFault (Broken Declaring c) → (n : ℕ) (l : ProgramLine) → program_line_of c.programs n ≡ Some l → (t : Task) × (task_of c.tasks n ≡ Some t)
task_found c unbroken n l is = by (task_of c.tasks n) refl
  where
    at : Contains c.programs l × (is_task_name l.task.name n ≡ true)
    at = found_in (λ (l : ProgramLine). is_task_name l.task.name n) c.programs l is

    by : (o : Option Task) → task_of c.tasks n ≡ o → (t : Task) × (o ≡ Some t)
    by (Some t) found = (t, refl)
    by None found =
        absurd
        (unbroken 24 l.place
        (bad_task refl
        (unknown_task l at.0
        (λ among.
        (let t = of_map (λ (t : Task). t.name.name) c.tasks l.task.name among in
        let one = finds_some (λ (t : Task). is_task_name t.name.name n) c.tasks t.0 t.1 (ap (λ x. is_task_name x n) t.2 ∙ at.1) in
        none_some (task_of c.tasks n) one.0 found one.1))
        refl)))

-- a unit that is found has a line
unit_found : (c : Config) (units : List Organized) (name : Text) (u : Organized) → find (λ u. bytes_eq u.name.name name) units ≡ Some u → (line : UnitLine) × (unit_of (unit_lines units (map (cost_of c) units)) name ≡ Some line)
unit_found c [] name u e = absurd (none_some {X = Organized} None u refl e)
unit_found c (v ∷ vs) name u e = by (bytes_eq v.name.name name) e (unit_found c vs name u)
  where
    by : (b : Bool) → (if b then Some v else find (λ u. bytes_eq u.name.name name) vs) ≡ Some u → (find (λ u. bytes_eq u.name.name name) vs ≡ Some u → (line : UnitLine) × (unit_of (unit_lines vs (map (cost_of c) vs)) name ≡ Some line))
        → (line : UnitLine) × ((if b then Some (unit_line v (cost_of c v)) else unit_of (unit_lines vs (map (cost_of c) vs)) name) ≡ Some line)
    by true f more = (unit_line v (cost_of c v), refl)
    by false f more = more f

-- so each task is listed
pub lists_tasks : (p : Program) → IsRunnable p.config → p.costs ≡ map (cost_of p.config) p.config.units → ListsTasks p
unfolding task_among
lists_tasks p runs costs n u is = by_line (program_line_of p.config.programs n) refl (sym (line_program p.config n (few_tasks p.config runs.declared n u is)) ∙ is.program)
  where
    lines : List UnitLine
    lines = unit_lines p.config.units p.costs

    by_line : (o : Option ProgramLine) → program_line_of p.config.programs n ≡ o → program_by p.config o ≡ Some u
        → (line : TaskLine) × (option_and_then (λ t. option_and_then (λ l. option_map (task_by t l) (unit_of lines l.program.name)) (program_line_of p.config.programs n)) (task_of p.config.tasks n) ≡ Some line)
    by_line None at e = absurd (none_some {X = Organized} None u refl e)
    by_line (Some l) at e =
        let t = task_found p.config runs.declared n l at in
        let v = unit_found p.config p.config.units l.program.name u (program_is_first p.config l.program.name u e) in
        let there : unit_of lines l.program.name ≡ Some v.0 = ap (λ ks. unit_of (unit_lines p.config.units ks) l.program.name) costs ∙ v.1 in (
          task_by t.0 l v.0,
          ap (option_and_then (λ t. option_and_then (λ l. option_map (task_by t l) (unit_of lines l.program.name)) (program_line_of p.config.programs n))) t.1
              ∙ ap (option_and_then (λ l. option_map (task_by t.0 l) (unit_of lines l.program.name))) at ∙ ap (option_map (task_by t.0 l)) there,
        )
