-- What `check` prints (own rules).
use Rattle.std.specs.Prelude.{Bool, true, false, ℕ, List, ◌++◌, flat_map, map, codes, decimal}
use Rattle.std.specs.Fmt.{signed_decimal}
use Rattle.json.specs.Token.{Token, number}
use Rattle.base_json.specs.declared.form.Form.{Form}
use Rattle.base_json.specs.Forms.{row_in}
use Rattle.base_json.specs.Objects.{integer_member, list_member, number_member, text_member, truth_member}
use Rattle.scan_task.specs.Listing.{TaskLine, UnitLine, task_lines, unit_lines}
use Rattle.scan_task.specs.Scanning.{Program}
use Rattle.cli_output.specs.Paths.{path_text, ranged_text}

-- A task's line: its name, its interval in milliseconds, its priority, the name on its PROGRAM line, and its budget.
unfoldable pub task_text : TaskLine → List ℕ
task_text t =
    codes "task " ++ (t.name ++ (codes " interval " ++ (signed_decimal t.interval ++ (codes " priority " ++ (signed_decimal t.priority
    ++ (codes " program " ++ (t.program ++ (codes " budget " ++ (decimal t.budget ++ codes "\n")))))))))

-- The lines of a path, where it is `ranged` those that follow one another as a range.
abbrev pub path_shown : Bool → List ℕ → List ℕ
path_shown true lines = ranged_text lines
path_shown false lines = path_text lines

-- A unit's line: its name, its cost, and the lines of a path of that cost.
unfoldable pub unit_text : Bool → UnitLine → List ℕ
unit_text ranged u = codes "unit " ++ (u.name ++ (codes " cost " ++ (decimal u.cost ++ (codes " path" ++ (path_shown ranged u.path ++ codes "\n")))))

-- AS OBJECTS

-- A task's members.
unfoldable pub timing_members : TaskLine → List Token
timing_members t = text_member (codes "task") t.name ++ integer_member (codes "interval") t.interval

unfoldable pub program_members : TaskLine → List Token
program_members t = text_member (codes "program") t.program ++ number_member (codes "budget") t.budget

abbrev pub task_members : TaskLine → List Token
task_members t = timing_members t ++ (integer_member (codes "priority") t.priority ++ program_members t)

-- The lines of a path, each a number.
abbrev pub path_tokens : List ℕ → List Token
path_tokens lines = map (λ line. number (decimal line)) lines

-- A unit's members, with the lines of a path of its cost.
unfoldable pub cost_members : UnitLine → List Token
cost_members u = text_member (codes "unit") u.name ++ number_member (codes "cost") u.cost

abbrev pub unit_members : UnitLine → List Token
unit_members u = cost_members u ++ list_member (codes "path") (path_tokens u.path)

-- ROWS

-- That the text is accepted.
abbrev pub accepted_row : Form → List ℕ
accepted_row form = row_in form (codes "accepted\n") (truth_member (codes "accepted") true)

-- A task, and a unit.
abbrev pub task_row : Form → TaskLine → List ℕ
task_row form t = row_in form (task_text t) (task_members t)

abbrev pub unit_row : Form → Bool → UnitLine → List ℕ
unit_row form ranged u = row_in form (unit_text ranged u) (unit_members u)

-- The whole output: that the text is accepted, its tasks, and its units in the order of the text. An object has all lines of a path.
abbrev pub listing : Form → Bool → Program → List ℕ
listing form ranged p = accepted_row form ++ (flat_map (task_row form) (task_lines p) ++ flat_map (unit_row form ranged) (unit_lines p.config.units p.costs))
