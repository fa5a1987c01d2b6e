-- What a configuration's code keeps beside it.
use Rattle.std.proofs.Common.{◌≡◌, ◌<◌, sym, subst, map, length, slice_get, slice_index_or, Some, ℕ, List}
use Rattle.std.proofs.lemmas.Option.{slice_get_read}
use Rattle.il_syntax.specs.declared.tree.Config.{Config}
use Rattle.il_syntax.specs.declared.tree.Unit.{Unit as ProgramUnit}
use Rattle.il_statics.specs.Faults.{Broken, Declaring, Typing, Ordering, HasNoFault}
use Rattle.il_statics.specs.Written.{IsWritten}
use Rattle.il_semantics.specs.Scan.{program_of}
use Rattle.load_slots.specs.declared.flat.UnitCode.{UnitCode}
use Rattle.load_slots.specs.Program.{program_names}
use Rattle.load_code.specs.Tasks.{TaskLayout, IsTaskOf, Belongs}
use Rattle.load_slots.specs.Whole.{unit_code}

-- what is said of a configuration is said of it by another name
pub written_along : (b c : Config) → b ≡ c → IsWritten b → IsWritten c
written_along b c e h = subst IsWritten e h

pub declared_along : (b c : Config) → b ≡ c → HasNoFault (Broken Declaring b) → HasNoFault (Broken Declaring c)
declared_along b c e h = subst (λ x. HasNoFault (Broken Declaring x)) e h

pub typed_along : (b c : Config) → b ≡ c → HasNoFault (Broken Typing b) → HasNoFault (Broken Typing c)
typed_along b c e h = subst (λ x. HasNoFault (Broken Typing x)) e h

pub ordered_along : (b c : Config) → b ≡ c → HasNoFault (Broken Ordering b) → HasNoFault (Broken Ordering c)
ordered_along b c e h = subst (λ x. HasNoFault (Broken Ordering x)) e h

pub units_along : (b c : Config) → b ≡ c → (flat : List UnitCode) (layouts : List TaskLayout) → Belongs b flat layouts → flat ≡ map (unit_code (program_names c) c) c.units
units_along b c e flat layouts h = subst (λ x. flat ≡ map (unit_code (program_names x) x) x.units) e h.units

-- the slots of the task of a PROGRAM line
pub task_there : (c : Config) (flat : List UnitCode) (layouts : List TaskLayout) → Belongs c flat layouts → (line : ℕ) (t : TaskLayout) → line < length c.programs → t ≡ slice_index_or layouts line t
    → (p : ProgramUnit) → program_of c (slice_get c.programs line) ≡ Some p → IsTaskOf c p t
task_there c flat layouts h line t below is p found = h.tasks.each line t p (slice_get_read layouts (length c.programs) line t (sym h.tasks.count) below is) found

-- a PROGRAM line has a task
pub line_below : (c : Config) (flat : List UnitCode) (layouts : List TaskLayout) → Belongs c flat layouts → (line : ℕ) → line < length c.programs → line < length layouts
line_below c flat layouts h line below = subst (λ n. line < n) (sym h.tasks.count) below

pub task_along : (b c : Config) → b ≡ c → (flat : List UnitCode) (layouts : List TaskLayout) → Belongs b flat layouts → (items : List TaskLayout) → items ≡ layouts → (line : ℕ) (t : TaskLayout) → line < length c.programs
    → t ≡ slice_index_or items line t → (p : ProgramUnit) → program_of c (slice_get c.programs line) ≡ Some p → IsTaskOf c p t
task_along b c e flat layouts h items same line t below is p found =
    task_there c flat layouts (subst (λ x. Belongs x flat layouts) e h) line t below (subst (λ xs. t ≡ slice_index_or xs line t) same is) p found
