-- Annotations that hold without tests: both sides of each jump have all that is known at its place (own rules).
use Rattle.std.specs.Prelude.{◌≡◌, ℕ, ◌<◌, [], Some, slice_get}
use Rattle.il_syntax.specs.declared.tree.Instruction.{Instruction}
use Rattle.il_syntax.specs.declared.tree.Instruction.TheVariants.{Jump}
use Rattle.il_syntax.specs.declared.tree.Unit.{Unit as ProgramUnit}
use Rattle.il_syntax.specs.declared.tree.Config.{Config}
use Rattle.il_statics.specs.Types.{label_place}
use Rattle.il_semantics.specs.Step.{instruction_at}
use Rattle.il_semantics.specs.Annotation.{Knowledge, knowledge, Annotation, Spot, Passes, HasCondition, LeadsTo, MayPass, result_at_target, IsEntry, places}

-- an instruction passes, a jump with all that is known on both of its sides
abbrev pub PassesWhole : Spot → Instruction → Type 0
PassesWhole s (Jump condition label) =
    (s.known.deferred ≡ [])
    × HasCondition condition s.known.result
    × LeadsTo s (label_place s.unit.body label.name) (knowledge s.known.variables (result_at_target condition s.known.result) s.known.deferred)
    × MayPass s condition s.known.result
PassesWhole s i = Passes s i

-- such an annotation of a unit
pub record IsAnnotatedWhole (config : Config) (unit : ProgramUnit) (annotation : Annotation) : Type 0 where
  pub entry : (first : Knowledge) × (slice_get annotation 0 ≡ Some (Some first)) × IsEntry config unit first
  pub each : (place : ℕ) (k : Knowledge) → place < places unit → slice_get annotation place ≡ Some (Some k)
      → PassesWhole (record { config = config; unit = unit; annotation = annotation; place = place; known = k }) (instruction_at unit.body place)
