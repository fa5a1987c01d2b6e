-- What is reported of a fault that the tree shows (own rules).
use Rattle.std.specs.Prelude.{◌≡◌, ℕ, ◌==◌, if◌then◌else◌, List, [], ◌++◌, flat_map}
use Rattle.il_syntax.specs.declared.tree.Config.{Config}
use Rattle.il_syntax.specs.declared.tree.Instruction.{Instruction}
use Rattle.il_syntax.specs.declared.tree.Place.{Place}
use Rattle.il_syntax.specs.declared.tree.Step.{Step}
use Rattle.il_syntax.specs.declared.tree.Unit.{Unit as ProgramUnit}
use Rattle.reasons_types.specs.ArgumentReasons.{taken_lines}
use Rattle.reasons_types.specs.InitialReasons.{initials_lines}
use Rattle.reasons_types.specs.KindReasons.{kind_lines}
use Rattle.reasons_names.specs.NamesAgain.{again_lines}
use Rattle.reasons_names.specs.NamesLabels.{jump_text}
use Rattle.reasons_names.specs.NamesTargets.{targets_text}
use Rattle.reasons_names.specs.NamesUnknown.{instruction_text, unknown_lines}
use Rattle.reasons_types.specs.ResultReasons.{IsResultToldIf}
use Rattle.reasons_types.specs.TypeReasons.{is_type_number, type_lines}
use Rattle.reasons_types.specs.WrittenReasons.{misplaced_lines}
use Rattle.reasons_faults.specs.LimitReasons.{limit_lines, slots_line}
use Rattle.reasons_faults.specs.TaskReasons.{bad_task_lines, sizes_lines, backward_line}

-- of the names of an instruction
abbrev pub named_lines : Config → ProgramUnit → ℕ → Instruction → List ℕ
named_lines c unit number instruction =
    if number == 21 then instruction_text c unit instruction
    else if number == 33 then targets_text c unit number instruction
    else if number == 34 then jump_text unit.body instruction
    else if number == 35 then backward_line
    else if number == 38 then targets_text c unit number instruction else []

-- what is reported of an instruction, by the number of its fault
abbrev pub instruction_lines : Config → ProgramUnit → ℕ → Instruction → List ℕ
instruction_lines c unit number instruction =
    if is_type_number number then type_lines c unit instruction
    else if number == 37 then taken_lines c unit instruction
    else if number == 25 then kind_lines c unit instruction else named_lines c unit number instruction

-- of the instruction whose operator follows so many bytes
abbrev pub step_lines : Config → ProgramUnit → ℕ → ℕ → Step → List ℕ
step_lines c unit number offset step = if step.place.offset == offset then instruction_lines c unit number step.instruction else []

-- the same in a unit
abbrev pub unit_lines : Config → ℕ → ℕ → ProgramUnit → List ℕ
unit_lines c number offset unit = flat_map (step_lines c unit number offset) unit.body.steps

-- of what is declared at a place: too many slots, a name again, the name of no type or global, limits, a size, a task, an initial value or a type
unfoldable pub place_lines : Config → ℕ → Place → List ℕ
place_lines c number place =
    if number == 12 then slots_line
    else if number == 20 then again_lines c place
    else if number == 21 then unknown_lines c place
    else if number == 22 then limit_lines c place.offset
    else if number == 23 then sizes_lines c place.offset
    else if number == 24 then bad_task_lines c place.offset
    else if number == 25 then initials_lines c place.offset ++ misplaced_lines c place.offset else []

-- of the instruction at a place, and of what is declared there
abbrev pub tree_lines : Config → ℕ → Place → List ℕ
tree_lines c number place = flat_map (unit_lines c number place.offset) c.units ++ place_lines c number place

-- these lines are reported of a fault that the tree shows: first the type that the current result has
abbrev pub AreToldOfTree : Config → ℕ → Place → List ℕ → Type 0
AreToldOfTree c number place lines =
    (result : List ℕ) × IsResultToldIf (is_type_number number) c place.offset result × (lines ≡ result ++ tree_lines c number place)
