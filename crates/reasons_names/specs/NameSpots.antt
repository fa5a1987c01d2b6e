-- Names with the places that report of them (own rules).
use Rattle.std.specs.Prelude.{◌==◌, Bool, List, map, find, Option, bytes_eq}
use Rattle.il_syntax.specs.declared.tree.Named.{Named}
use Rattle.il_syntax.specs.declared.tree.Place.{Place}
use Rattle.il_syntax.specs.declared.tree.Unit.{Unit as ProgramUnit}
use Rattle.il_syntax.specs.declared.tree.Task.{Task}
use Rattle.il_syntax.specs.declared.tree.ProgramLine.{ProgramLine}
use Rattle.il_statics.specs.Names.{Spelling}
use Rattle.reasons_names.specs.declared.names_spots.Spot.{Spot}

-- a name with its place, as the tree has them
abbrev pub spot_shown : Spot → Named
spot_shown s = record { place = s.place; name = s.name.now }

-- the same of a list
abbrev pub shown : List Spot → List Named
shown spots = map spot_shown spots

-- the name of a unit, at its heading (2.5)
abbrev pub heading : ProgramUnit → Named
heading unit = record { place = unit.place; name = unit.name.name }

-- the names of units
abbrev pub headings : List ProgramUnit → List Named
headings units = map heading units

-- the name of a task, at its TASK line (2.7.2)
abbrev pub task_name : Task → Named
task_name task = record { place = task.place; name = task.name.name }

-- the name of a PROGRAM line, at the line (2.7.2)
abbrev pub line_name : ProgramLine → Named
line_name line = record { place = line.place; name = line.name.name }

-- whether two places are one, by their offsets
abbrev pub is_at : Place → Place → Bool
is_at here place = here.offset == place.offset

-- the first name that is at a place
abbrev pub named_at : Place → List Named → Option Named
named_at place names = find (λ n. is_at n.place place) names

-- the first place of a name
abbrev pub first_of : Spelling → List Named → Option Named
first_of name names = find (λ n. bytes_eq n.name name) names
