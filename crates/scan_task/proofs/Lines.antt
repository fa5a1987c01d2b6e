-- PROGRAM lines, and the budgets that are printed.
use Rattle.std.proofs.Common.{◌≡◌, ℕ, zero, suc, ◌<◌, ◌≤◌, arith, length, drop, slice_get, slice_index_or, option_copied, Bor, Bool, true, false, ◌&&◌, List, [], ◌∷◌, map, Option, Some, None, option_map, option_and_then, refl, sym, ap, ◌∙◌, subst, bytes_eq, if◌then◌else◌}
use Rattle.std.specs.Prelude.{find, nat_le, is_some, Contains}
use Rattle.std.proofs.lemmas.Slice.Eq.{bytes_eq-Decides}
use Rattle.std.proofs.lemmas.Bool.{le-leb}
use Rattle.il_syntax.specs.declared.tree.Config.{Config}
use Rattle.il_syntax.specs.declared.tree.Unit.{Unit as Organized}
use Rattle.il_syntax.specs.declared.tree.Task.{Task}
use Rattle.il_syntax.specs.declared.tree.ProgramLine.{ProgramLine}
use Rattle.il_statics.specs.Names.{is_predeclared, is_program, program_named}
use Rattle.il_statics.specs.Declarations.{unknown_program}
use Rattle.il_statics.specs.Faults.{Declaring, Broken, HasNoFault, bad_task}
use Rattle.load_budgets.specs.Costs.{cost_of, path_of}
use Rattle.il_semantics_laws.proofs.Accepted.{has_longest}
use Rattle.base_maps.specs.NameMap.{Text}
use Rattle.il_semantics.specs.Scan.{program_of as program_by}
use Rattle.il_semantics.specs.Paths.{IsLongest, longest}
use Rattle.il_semantics_laws.proofs.Lists.{found_in}
use Rattle.il_semantics_laws.proofs.Meant.{program_is}
use Rattle.il_semantics_laws.proofs.Named.{found_unit, name_of}
use Rattle.load_scope.specs.Views.{program_number}
use Rattle.load_slots.specs.Whole.{number_in}
use Rattle.load_code.proofs.Calling.{number_is}
use Rattle.group_spec.specs.Limits.{most_cars}
use Rattle.group_spec.specs.Snapshot.{task_name, program_of, has_task}
use Rattle.scan_task.specs.Scanning.{Program, IsRunnable, HasTask}
use Rattle.group_spec.specs.Image.{sizes_of}
use Rattle.scan_task.proofs.Sizes.{few_cars, few_tasks}
use Rattle.load_slots.specs.declared.flat.UnitCode.{UnitCode}
use Rattle.scan_loop.specs.Going.{Runs}
use Rattle.scan_task.specs.Listing.{UnitLine, unit_line, unit_lines, lines_with, TaskLine, task_by, task_of, program_line_of, unit_of, is_task_name, task_among, PrintsBudgets}

same_some : {X : Type 0} (x y : X) → Some x ≡ Some y → x ≡ y
same_some x y e = cc

pub none_some : {X : Type 0} (o : Option X) (x : X) → o ≡ None → o ≡ Some x → ⊥
none_some o x a b = let bad : None ≡ Some x = sym a ∙ b in cc

-- the two spellings of one search
found_alike : {X : Type 0} (p q : X → Bool) → ((x : X) → p x ≡ q x) → (xs : List X) → find p xs ≡ find q xs
found_alike p q same [] = refl
found_alike p q same (x ∷ xs) = by (p x) (q x) (same x) (found_alike p q same xs)
  where
    by : (a b : Bool) → a ≡ b → find p xs ≡ find q xs → (if a then Some x else find p xs) ≡ (if b then Some x else find q xs)
    by a b e rest = ap (λ c. if c then Some x else find p xs) e ∙ ap (λ o. if b then Some x else o) rest

-- equality of names is symmetric
names_alike : (a b : Text) → bytes_eq a b ≡ bytes_eq b a
names_alike a b = by (bytes_eq a b) refl (bytes_eq b a) refl
  where
    when_same : a ≡ b → bytes_eq a b ≡ bytes_eq b a
    when_same same = ap (λ x. bytes_eq x b) same ∙ ap (λ x. bytes_eq b x) (sym same)

    by : (x : Bool) → bytes_eq a b ≡ x → (y : Bool) → bytes_eq b a ≡ y → bytes_eq a b ≡ bytes_eq b a
    by true e y f = when_same ((bytes_eq-Decides a b).0 e)
    by false e true f = when_same (sym ((bytes_eq-Decides b a).0 f))
    by false e false f = e ∙ sym f

-- LINES

-- the two searches of a task's PROGRAM line are one
lines_alike : (n : ℕ) → nat_le n most_cars ≡ true → (l : ProgramLine) → is_task_name l.task.name n ≡ bytes_eq (task_name n) l.task.name
lines_alike n low l = ap (λ b. b && bytes_eq l.task.name (task_name n)) low ∙ names_alike l.task.name (task_name n)

-- a task's program is that of its line
pub line_program : (c : Config) (n : ℕ) → nat_le n most_cars ≡ true → program_of c n ≡ program_by c (program_line_of c.programs n)
line_program c n low = ap (program_by c) (sym (found_alike (λ l. is_task_name l.task.name n) (λ l. bytes_eq (task_name n) l.task.name) (lines_alike n low) c.programs))

some_program : (c : Config) → HasNoFault (Broken Declaring c) → (l : ProgramLine) → Contains c.programs l → is_some (program_named c l.program.name) ≡ true
some_program c unbroken l among = by (program_named c l.program.name) refl
  where
    by : (o : Option Organized) → program_named c l.program.name ≡ o → is_some o ≡ true
    by None is = absurd (unbroken 24 l.place (bad_task refl (unknown_program l among is refl)))
    by (Some u) is = refl

-- a task is there where its line is
pub has_line : (c : Config) → HasNoFault (Broken Declaring c) → (n : ℕ) → nat_le n most_cars ≡ true → is_some (program_line_of c.programs n) ≡ has_task c n
has_line c unbroken n low = by (program_line_of c.programs n) refl ∙ ap is_some (sym (line_program c n low))
  where
    by : (o : Option ProgramLine) → program_line_of c.programs n ≡ o → is_some o ≡ is_some (program_by c o)
    by None is = refl
    by (Some l) is = sym (some_program c unbroken l (found_in (λ (l : ProgramLine). is_task_name l.task.name n) c.programs l is).0)

-- BUDGETS

-- the first unit of a name, with its cost
cost_found : (c : Config) (units : List Organized) (name : Text) (u : Organized) (line : UnitLine) → find (λ u. bytes_eq u.name.name name) units ≡ Some u → unit_of (unit_lines units (map (cost_of c) units)) name ≡ Some line
    → line.cost ≡ longest c u
cost_found c [] name u line first shown = absurd (none_some {X = Organized} None u refl first)
cost_found c (v ∷ vs) name u line first shown = by (λ e f. cost_found c vs name u line e f) (bytes_eq v.name.name name) first shown
  where
    by : (find (λ u. bytes_eq u.name.name name) vs ≡ Some u → unit_of (unit_lines vs (map (cost_of c) vs)) name ≡ Some line → line.cost ≡ longest c u)
        → (b : Bool) → (if b then Some v else find (λ u. bytes_eq u.name.name name) vs) ≡ Some u → (if b then Some (unit_line v (cost_of c v)) else unit_of (unit_lines vs (map (cost_of c) vs)) name) ≡ Some line → line.cost ≡ longest c u
    by rest true e f =
        let unit : v ≡ u = same_some v u e in
        let is : unit_line v (cost_of c v) ≡ line = same_some (unit_line v (cost_of c v)) line f in
        sym (ap (λ (l : UnitLine). l.cost) is) ∙ ap (longest c) unit
    by rest false e f = rest e f

-- the unit of a program is the first of its name
pub program_is_first : (c : Config) (name : Text) (u : Organized) → program_named c name ≡ Some u → find (λ u. bytes_eq u.name.name name) c.units ≡ Some u
program_is_first c name u e = by_reserved (is_predeclared c name) e
  where
    by_unit : (o : Option Organized) → option_and_then (λ w. if is_program w then Some w else None) o ≡ Some u → o ≡ Some u
    by_unit None f = f
    by_unit (Some w) f = by_kind (is_program w) f
      where
        by_kind : (b : Bool) → (if b then Some w else None) ≡ Some u → Some w ≡ Some u
        by_kind true g = g
        by_kind false g = absurd (none_some {X = Organized} None u refl g)

    by_reserved : (b : Bool) → option_and_then (λ w. if is_program w then Some w else None) (if b then None else find (λ w. bytes_eq w.name.name name) c.units) ≡ Some u → find (λ w. bytes_eq w.name.name name) c.units ≡ Some u
    by_reserved true f = absurd (none_some {X = Organized} None u refl f)
    by_reserved false f = by_unit (find (λ w. bytes_eq w.name.name name) c.units) f

-- a task whose TASK line is found has a number up to 8
numbered : (tasks : List Task) (n : ℕ) (t : Task) → task_of tasks n ≡ Some t → nat_le n most_cars ≡ true
numbered [] n t e = absurd (none_some {X = Task} None t refl e)
numbered (x ∷ xs) n t e = by (numbered xs n t) (nat_le n most_cars) refl e
  where
    by : (task_of xs n ≡ Some t → nat_le n most_cars ≡ true) → (b : Bool) → nat_le n most_cars ≡ b → (if b && bytes_eq x.name.name (task_name n) then Some x else task_of xs n) ≡ Some t → b ≡ true
    by rest true is f = refl
    by rest false is f = sym is ∙ rest f

-- the budget of a line that is printed
budget_is : (p : Program) → p.costs ≡ map (cost_of p.config) p.config.units → (n : ℕ) (line : TaskLine) (u : Organized) → task_among p.config.tasks p.config.programs (unit_lines p.config.units p.costs) n ≡ Some line → program_of p.config n ≡ Some u → line.budget ≡ longest p.config u
unfolding task_among
budget_is p costs n line u shown program = by_task (task_of p.config.tasks n) refl (ap (λ ks. task_among p.config.tasks p.config.programs (unit_lines p.config.units ks) n) (sym costs) ∙ shown)
  where
    lines : List UnitLine
    lines = unit_lines p.config.units (map (cost_of p.config) p.config.units)

    of_unit : (o : Option UnitLine) (t : Task) (l : ProgramLine) → unit_of lines l.program.name ≡ o → program_named p.config l.program.name ≡ Some u → option_map (task_by t l) o ≡ Some line → line.budget ≡ longest p.config u
    of_unit None t l is named e = absurd (none_some {X = TaskLine} None line refl e)
    of_unit (Some v) t l is named e =
        sym (ap (λ (x : TaskLine). x.budget) (same_some (task_by t l v) line e)) ∙ cost_found p.config p.config.units l.program.name u v (program_is_first p.config l.program.name u named) is

    by_line : (t : Task) (o : Option ProgramLine) → program_by p.config o ≡ Some u → option_and_then (λ l. option_map (task_by t l) (unit_of lines l.program.name)) o ≡ Some line → line.budget ≡ longest p.config u
    by_line t None named e = absurd (none_some {X = TaskLine} None line refl e)
    by_line t (Some l) named e = of_unit (unit_of lines l.program.name) t l refl named e

    by_task : (o : Option Task) → task_of p.config.tasks n ≡ o → option_and_then (λ t. option_and_then (λ l. option_map (task_by t l) (unit_of lines l.program.name)) (program_line_of p.config.programs n)) o ≡ Some line → line.budget ≡ longest p.config u
    by_task None is e = absurd (none_some {X = TaskLine} None line refl e)
    by_task (Some t) is e = by_line t (program_line_of p.config.programs n) (sym (line_program p.config n (numbered p.config.tasks n t is)) ∙ program) e

-- a task's program is a unit
program_among : (c : Config) (o : Option ProgramLine) (u : Organized) → program_by c o ≡ Some u → Contains c.units u
program_among c None u e = absurd (none_some {X = Organized} None u refl e)
program_among c (Some l) u e = found_unit c l.program.name u (program_is c l.program.name u e).0

-- what is printed is the greatest cost of a control path
pub prints_budgets : (p : Program) → IsRunnable p.config → p.costs ≡ map (cost_of p.config) p.config.units → PrintsBudgets p
prints_budgets p runs costs n line u shown program =
    subst (IsLongest p.config u) (sym (budget_is p costs n line u shown program))
    (has_longest p.config runs.declared runs.typed (λ number place other. runs.ordered number place) u (program_among p.config (find (λ l. bytes_eq (task_name n) l.task.name) p.config.programs) u program)).greatest

-- what is kept of units shows what they cost
pub shown_as : (c : Config) (us : List Organized) → lines_with us (map (longest c) us) (map (path_of c) us) ≡ unit_lines us (map (cost_of c) us)
shown_as c [] = refl
shown_as c (u ∷ us) = ap (λ ls. unit_line u (cost_of c u) ∷ ls) (shown_as c us)

-- SEARCHES

-- the line of a place is the first that is left
pub found_here : (ls : List ProgramLine) (n at : ℕ) (d : ProgramLine) → at < length ls → is_task_name (slice_index_or ls at d).task.name n ≡ true → slice_get ls at ≡ program_line_of (drop at ls) n
found_here [] n at d low is = let no : ⊥ = omega (arith, low) in absurd no
found_here (l ∷ ls) n zero d low is = sym (ap (λ b. if b then Some l else program_line_of ls n) is)
found_here (l ∷ ls) n (suc k) d low is = found_here ls n k d (omega (arith, low)) is

-- another is passed over
pub passed_here : (ls : List ProgramLine) (n at : ℕ) (d : ProgramLine) → at < length ls → is_task_name (slice_index_or ls at d).task.name n ≡ false → program_line_of (drop at ls) n ≡ program_line_of (drop (suc at) ls) n
passed_here [] n at d low is = let no : ⊥ = omega (arith, low) in absurd no
passed_here (l ∷ ls) n zero d low is = ap (λ b. if b then Some l else program_line_of ls n) is
passed_here (l ∷ ls) n (suc k) d low is = passed_here ls n k d (omega (arith, low)) is

-- at the end nothing is left
pub none_left : (ls : List ProgramLine) (n at : ℕ) → length ls ≤ at → program_line_of (drop at ls) n ≡ None
none_left [] n zero low = refl
none_left [] n (suc k) low = refl
none_left (l ∷ ls) n zero low = let no : ⊥ = omega (arith, low) in absurd no
none_left (l ∷ ls) n (suc k) low = none_left ls n k (omega (arith, low))

-- a task that is there has a line
pub no_line : (c : Config) → IsRunnable c → (n : ℕ) → HasTask c n → program_line_of c.programs n ≡ None → ⊥
no_line c runs n has none = none_some (program_of c n) has.0 (line_program c n (few_tasks c runs.declared n has.0 has.1) ∙ ap (program_by c) none) has.1.program

-- the program of the line that was found is the task's
pub line_of_task : (c : Config) → IsRunnable c → (n at : ℕ) → HasTask c n → (ls : List ProgramLine) → ls ≡ c.programs → slice_get ls at ≡ program_line_of ls n → (u : Organized) → program_of c n ≡ Some u → program_by c (slice_get c.programs at) ≡ Some u
line_of_task c runs n at has ls same some u is =
    ap (program_by c) (ap (λ x. slice_get x at) (sym same) ∙ some ∙ ap (λ x. program_line_of x n) same) ∙ sym (line_program c n (few_tasks c runs.declared n has.0 has.1)) ∙ is

get_there : {X : Type 0} (xs : List X) (at : ℕ) → at < length xs → is_some (slice_get xs at) ≡ true
get_there [] at low = let no : ⊥ = omega (arith, low) in absurd no
get_there (x ∷ xs) zero low = refl
get_there (x ∷ xs) (suc at) low = get_there xs at (omega (arith, low))

-- what is at an index is below the length
pub got_within : {X : Type 0} (xs : List X) (at : ℕ) (x : X) → slice_get xs at ≡ Some x → at < length xs
got_within [] at x is = cc
got_within (y ∷ xs) zero x is = omega arith
got_within (y ∷ xs) (suc at) x is = let low = got_within xs at x is in omega (arith, low)

-- a task that has a line is there
pub task_there : (c : Config) → IsRunnable c → (n at : ℕ) → n ≤ (sizes_of c).cars → at < length c.programs → slice_get c.programs at ≡ program_line_of c.programs n → HasTask c n
task_there c runs n at within low same = by (program_of c n) refl
  where
    few : nat_le n most_cars ≡ true
    few = let most = few_cars c runs.declared in le-leb n most_cars (omega (arith, most, within))

    by : (o : Option Organized) → program_of c n ≡ o → HasTask c n
    by None is = let bad : true ≡ false = sym (get_there c.programs at low) ∙ ap is_some same ∙ has_line c runs.declared n few ∙ ap is_some is in cc
    by (Some u) is = (u, record { within = within; program = is })

pub copied_there : (o : Option (Bor ProgramLine)) → is_some o ≡ is_some (option_copied o)
copied_there None = refl
copied_there (Some l) = refl

pub same_runs : (a b : List UnitCode) (m n : List ℕ) (k l : ℕ) → a ≡ b → m ≡ n → k ≡ l → ◌≡◌ {A = Runs} (record { units = a; bases = m; clock = k }) (record { units = b; bases = n; clock = l })
same_runs a b m n k l p q r = ap (λ x. record { units = x; bases = m; clock = k }) p ∙ ap (λ x. record { units = b; bases = x; clock = k }) q ∙ ap (λ x. record { units = b; bases = n; clock = x }) r

-- THE PROGRAM'S NUMBER

-- the program of a task's line is the task's
pub line_named : (c : Config) → IsRunnable c → (task : ℕ) → HasTask c task → (l : ProgramLine) → program_line_of c.programs task ≡ Some l → (u : Organized) → program_of c task ≡ Some u → program_named c l.program.name ≡ Some u
line_named c runs task has l at u is = sym (line_program c task (few_tasks c runs.declared task has.0 has.1) ∙ ap (program_by c) at) ∙ is

-- its number is that of the first unit of its name
pub number_first : (c : Config) (name q : Text) (at : ℕ) (u : Organized) → Some at ≡ program_number c q → q ≡ name → program_named c name ≡ Some u → at ≡ number_in c.units u.name.name
unfolding program_number
number_first c name q at u number same named = sym (ap (number_in c.units) (name_of c name u (program_is c name u named).0 ∙ sym same) ∙ number_is c q is_program at (sym number))
