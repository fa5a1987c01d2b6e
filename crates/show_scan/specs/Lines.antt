-- The line of a step (own rules).
use Rattle.std.specs.Prelude.{ℕ, ◌-◌, bytes_eq, min, Bool, true, false, nat_lt, List, [], ◌++◌, flat_map, take, length, replicate, slice_get, Option, Some, None, option_map, if◌then◌else◌, codes, decimal}
use Rattle.std.specs.List.{list_any}
use Rattle.il_syntax.specs.declared.tree.Argument.{Argument}
use Rattle.il_syntax.specs.declared.tree.Argument.TheVariants.{Input, Output}
use Rattle.il_syntax.specs.declared.tree.Config.{Config}
use Rattle.il_syntax.specs.declared.tree.Instruction.{Instruction}
use Rattle.il_syntax.specs.declared.tree.Instruction.TheVariants.{Load, Store, Operate, Defer, Call, Invoke}
use Rattle.il_syntax.specs.declared.tree.Operand.{Operand}
use Rattle.il_syntax.specs.declared.tree.Place.{Place}
use Rattle.il_syntax.specs.declared.tree.Step.{Step}
use Rattle.il_syntax.specs.declared.tree.Unit.{Unit as UnitOf}
use Rattle.il_statics.specs.Names.{unit_named}
use Rattle.base_maps.specs.NameMap.{Text}
use Rattle.show_names.specs.Sources.{source_text}
use Rattle.il_semantics.specs.declared.value.Content.{Content}
use Rattle.il_semantics.specs.State.{Values, State}
use Rattle.il_semantics.specs.Meaning.{under, member_path}
use Rattle.show_scan.specs.declared.before.Before.{Before}
use Rattle.show_scan.specs.declared.chosen.Lines.{Lines as LinesOf}
use Rattle.show_scan.specs.Stands.{StandOf, of_stand, stand_at, step_at, result_text, named_text, there_text, reference_text}

-- WHERE A STEP STANDS

-- the lines of a unit, from its heading to its END word
abbrev pub lines_of : UnitOf → LinesOf
lines_of u = record { first = u.place.line; last = u.body.end.line }

-- the place of a step; that of the END word, where there is none
abbrev pub place_of_step : UnitOf → Option Step → Place
place_of_step u None = u.body.end
place_of_step u (Some s) = s.place

abbrev pub place_at : Config → StandOf → Option Place
place_at c stand = option_map (λ u. place_of_step u (slice_get u.body.steps stand.place)) (unit_named c stand.unit)

-- what is kept of a state before a step: the body that runs, the one that called it, how many bodies there are, the current result, and the place in the text
pub record Seen : Type 0 where
  pub stand : StandOf
  pub caller : Option StandOf
  pub depth : ℕ
  pub result : Option Content
  pub place : Place

abbrev pub seen_at : State → StandOf → Option Place → Option Seen
seen_at s stand None = None
seen_at s stand (Some place) = Some (record { stand = stand; caller = stand_at s 1; depth = length s.frames; result = s.result; place = place })

abbrev pub seen_by : Config → State → Option StandOf → Option Seen
seen_by c s None = None
seen_by c s (Some stand) = seen_at s stand (place_at c stand)

abbrev pub seen_of : Config → State → Option Seen
seen_of c s = seen_by c s (stand_at s 0)

-- the same as the code has it
abbrev pub of_before : Before → Seen
of_before b = record { stand = of_stand b.stand; caller = option_map of_stand b.caller; depth = b.depth; result = b.result; place = b.place }

-- THE TEXT OF THE LINE

-- an output of a call, and the variable to which it goes
abbrev pub output_text : Values → Text → Text → Text → Text → List ℕ
output_text values path instance word target = named_text values (member_path (under path instance) word) ++ named_text values (under path target)

-- what goes out of a call by an argument
abbrev pub out_text : Values → Text → Text → Argument → List ℕ
out_text values path instance (Input word operand) = []
out_text values path instance (Output word target) = output_text values path instance word.name target.name

-- what goes into a call by an argument, and out of it, where no body is entered
abbrev pub argument_text : Values → Text → Text → Bool → Argument → List ℕ
argument_text values path instance enters (Input word operand) = named_text values (member_path (under path instance) word.name)
argument_text values path instance true (Output word target) = []
argument_text values path instance false (Output word target) = output_text values path instance word.name target.name

-- so many of what a call hands over are shown
abbrev pub most_shown : ℕ
most_shown = 32

abbrev pub first_shown : {A : Type 0} → List A → List A
first_shown items = take (min most_shown (length items)) items

-- a mark where more are left out
abbrev pub rest_text : ℕ → List ℕ
rest_text count = if nat_lt most_shown count then codes " .." else []

-- whether a call hands an output on by an argument
abbrev pub is_output_of : Text → Argument → Bool
is_output_of word (Input name operand) = false
is_output_of word (Output name target) = bytes_eq name.name word

-- an output of an instance that has it, unless the call hands it on
abbrev pub kept_text : Values → Text → Text → List Argument → Text → List ℕ
kept_text values path instance arguments word =
    if list_any (is_output_of word) arguments then [] else there_text values (member_path (under path instance) word)

-- Where a call enters no body: the outputs of standard blocks (2.5.2.3) that its instance has and the call doesn't hand on, as it leaves them. What goes out of a
-- body that is entered is shown where it ends.
abbrev pub outputs_text : Values → Text → Text → Bool → List Argument → List ℕ
outputs_text values path instance true arguments = []
outputs_text values path instance false arguments =
    let kept = kept_text values path instance arguments in
    kept (codes "Q") ++ (kept (codes "Q1") ++ (kept (codes "QU") ++ (kept (codes "QD") ++ (kept (codes "ET") ++ kept (codes "CV")))))

-- what goes into a call by its arguments, and out of it where no body is entered
abbrev pub arguments_text : Values → Text → Text → Bool → List Argument → List ℕ
arguments_text values path instance enters arguments =
    flat_map (argument_text values path instance enters) (first_shown arguments) ++ (rest_text (length arguments) ++ outputs_text values path instance enters arguments)

-- what goes out of a call by its arguments
abbrev pub outs_text : Values → Text → Text → List Argument → List ℕ
outs_text values path instance arguments = flat_map (out_text values path instance) (first_shown arguments) ++ rest_text (length arguments)

-- what the operands of a function name
abbrev pub operands_text : Values → Text → List Operand → List ℕ
operands_text values path operands = flat_map (λ (o : Operand). reference_text values path o.reference) (first_shown operands) ++ rest_text (length operands)

-- what is named by an instruction of a body at a path
abbrev pub instruction_text : Values → Text → Bool → Instruction → List ℕ
instruction_text values path enters (Load negated operand) = reference_text values path operand.reference
instruction_text values path enters (Store store target) = reference_text values path target.reference
instruction_text values path enters (Operate operator operand) = reference_text values path operand.reference
instruction_text values path enters (Defer operator (Some first)) = reference_text values path first.reference
instruction_text values path enters (Call condition instance arguments) = arguments_text values path instance.name enters arguments
instruction_text values path enters (Invoke function operands) = operands_text values path operands
instruction_text values path enters _ = []

abbrev pub step_text : Values → Text → Bool → Option Step → List ℕ
step_text values path enters None = []
step_text values path enters (Some s) = instruction_text values path enters s.instruction

-- what goes out of the body that a step leaves, by the instruction that called it
abbrev pub call_text : Values → Text → Instruction → List ℕ
call_text values path (Call condition instance arguments) = outs_text values path instance.name arguments
call_text values path _ = []

abbrev pub left_by : Values → Text → Option Step → List ℕ
left_by values path None = []
left_by values path (Some s) = call_text values path s.instruction

abbrev pub left_text : Config → Values → Option StandOf → List ℕ
left_text c values None = []
left_text c values (Some caller) = left_by values caller.path (step_at c caller.unit caller.place)

-- what is named by a step that leaves a state
abbrev pub names_text : Config → Seen → State → List ℕ
names_text c seen s =
    if nat_lt (length s.frames) seen.depth then left_text c s.values seen.caller
    else step_text s.values seen.stand.path (nat_lt seen.depth (length s.frames)) (step_at c seen.stand.unit seen.stand.place)

-- a line's front: a blank for each body below, twice, and the step
abbrev pub front_text : List ℕ → Seen → List ℕ
front_text source seen =
    replicate (seen.depth - 1) 32 ++ (replicate (seen.depth - 1) 32 ++ (codes "line " ++ (decimal seen.place.line ++ (codes ": " ++ (source_text source seen.place.offset ++ codes ": ")))))

-- the current result before a step and after it
abbrev pub results_text : Seen → State → List ℕ
results_text seen s = result_text seen.result ++ (codes " -> " ++ result_text s.result)

-- a line: the step, the current result before and after it, and what it names, after it
abbrev pub line_text : Config → List ℕ → Seen → State → List ℕ
line_text c source seen s = front_text source seen ++ (results_text seen s ++ (names_text c seen s ++ codes "\n"))
