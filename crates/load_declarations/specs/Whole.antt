-- What a configuration breaks, part by part.
use Rattle.std.specs.Prelude.{ℕ, IsFalse, map}
use Rattle.il_syntax.specs.declared.tree.Config.{Config}
use Rattle.il_syntax.specs.declared.tree.Place.{Place}
use Rattle.base_maps.specs.NameMap.{empty}
use Rattle.il_statics.specs.Declarations.{ScalarsAndArrays, names_in, sizes_of, is_within}
use Rattle.il_statics.specs.Least.{When, Either}
use Rattle.load_declarations.specs.Places.{Among}
use Rattle.load_declarations.specs.Written.{Misdeclared}
use Rattle.load_declarations.specs.Taken.{TakenNames}
use Rattle.load_declarations.specs.Again.{AgainFrom, NamedAgain}
use Rattle.load_declarations.specs.TaskRules.{TaskBreaks, BreaksLine, IsUnusedOf}
use Rattle.load_declarations.specs.CarRules.{MissesCar}
use Rattle.load_declarations.specs.Units.{UnitBreaks}

-- a size is outside its limits
abbrev pub SizesBreak : Config → ℕ → Place → Type 0
SizesBreak config = Among (λ s. When (IsFalse (is_within s.1 s.0.value)) 23 s.0.place) (sizes_of config)

-- the globals break a rule
abbrev pub GlobalsBreak : Config → ℕ → Place → Type 0
GlobalsBreak config = Either (Among (Misdeclared config ScalarsAndArrays) config.globals) (Either (Among (TakenNames config) config.globals) (NamedAgain empty (names_in config.globals)))

-- a unit, a task or a PROGRAM line has an earlier one's name
abbrev pub SecondNames : Config → ℕ → Place → Type 0
SecondNames config =
    Either (AgainFrom (λ u. u.name.name) (λ u. u.place) 20 empty config.units) (Either (AgainFrom (λ t. t.name.name) (λ t. t.place) 20 empty config.tasks) (AgainFrom (λ l. l.name.name) (λ l. l.place) 20 empty config.programs))

-- tasks, PROGRAM lines or programs break a rule of tasks
abbrev pub TasksBreak : Config → ℕ → Place → Type 0
TasksBreak config =
    Either (Among (TaskBreaks config) config.tasks)
    (Either (Among (λ l. When (BreaksLine config l) 24 l.place) config.programs)
    (Either (Among (λ u. When (IsUnusedOf (map (λ l. l.program.name) config.programs) u) 24 u.place) config.units)
    (Either (When (MissesCar config) 24 config.end_resource) (AgainFrom (λ l. l.task.name) (λ l. l.place) 24 empty config.programs))))

-- all of these
abbrev pub AllBreak : Config → ℕ → Place → Type 0
AllBreak config = Either (Either (SizesBreak config) (Among (UnitBreaks config) config.units)) (Either (GlobalsBreak config) (Either (SecondNames config) (TasksBreak config)))
