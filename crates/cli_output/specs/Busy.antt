-- What `check --warn` says of the work of units (own rules).
use Rattle.std.specs.Prelude.{ℕ, nat_lt, if◌then◌else◌, List, [], ◌++◌, flat_map, codes, decimal}
use Rattle.il_syntax.specs.declared.tree.Config.{Config}
use Rattle.il_syntax.specs.declared.tree.Unit.{Unit as ProgramUnit}
use Rattle.base_maps.specs.NameMap.{Text}
use Rattle.il_work_laws.specs.Work.{most_work}
use Rattle.load_work.specs.Sizes.{capped}

-- more work than this is warned of: the greatest budget
abbrev pub much_work : ℕ
much_work = 1000000

-- `line 3: SCENE may do 2400000 steps and moves, more than 1000000`
unfoldable pub busy_line : ℕ → Text → ℕ → List ℕ
busy_line line name used = codes "line " ++ (decimal line ++ (codes ": " ++ (name ++ (codes " may do " ++ (decimal used ++ codes " steps and moves, more than 1000000\n")))))

-- of a unit with this work, where that is much
abbrev pub busy_by : ℕ → ProgramUnit → List ℕ
busy_by used unit = if nat_lt much_work used then busy_line unit.place.line unit.name.name used else []

-- of a unit
abbrev pub busy_text : Config → ProgramUnit → List ℕ
busy_text c unit = busy_by (capped (most_work c unit)) unit

-- of all units, in the order of the text
abbrev pub busy_lines : Config → List ℕ
busy_lines c = flat_map (busy_text c) c.units
