-- What names mean in a unit, as the code asks for it (own rules).
use Rattle.std.specs.Prelude.{◌≡◌, Bool, true, ◌&&◌, List, Option, Some, None, option_and_then}
use Rattle.ranges_interval.specs.declared.Interval.{Interval}
use Rattle.il_syntax.specs.declared.tree.Unit.{Unit as ProgramUnit}
use Rattle.il_syntax.specs.declared.tree.Form.{Form}
use Rattle.il_syntax.specs.declared.tree.Operand.{Operand}
use Rattle.il_syntax.specs.declared.tree.Reference.{Reference}
use Rattle.il_syntax.specs.declared.tree.Reference.TheVariants.{Variable}
use Rattle.il_syntax.specs.declared.tree.Condition.{Condition}
use Rattle.il_syntax.specs.declared.tree.Argument.{Argument}
use Rattle.il_syntax.specs.declared.tree.Argument.TheVariants.{Input, Output}
use Rattle.il_statics.specs.Names.{form_named, entry_of, block_variables}
use Rattle.base_maps.specs.NameMap.{Text}
use Rattle.load_scope.specs.Units.{is_block}
use Rattle.il_semantics.specs.Step.{rest_of}
use Rattle.il_semantics.specs.Meaning.{Denotation, denotation, inputs_of, outputs_of}
use Rattle.il_semantics.specs.declared.known.Known.{Known}
use Rattle.ranges_laws.specs.Found.{provided}
use Rattle.ranges_laws.specs.Pass.{Moves}
use Rattle.ranges_laws.specs.declared.facts.Facts.{Facts}
use Rattle.ranges_laws.specs.Facts.{Names}
use Rattle.ranges_laws.specs.Steps.{found_result, own_result, fits_first, fit_inputs, fits_input, fits_output, output_row, outputs_row, passed_row, has_condition, moves_of_call}

-- what a reference denotes
abbrev pub denoted : Names → Reference → Denotation
denoted n r = denotation n.config n.unit r

-- what a name alone denotes
abbrev pub named : Names → Text → Denotation
named n name = denoted n (Variable name)

-- the form of a name
abbrev pub form_in : Names → Text → Option Form
form_in n name = form_named n.config n.unit name

-- what a call of an own function leaves
abbrev pub result_by : Option ProgramUnit → Option Known
result_by own = option_and_then (λ u. found_result u.kind) own

-- whether the current result and the operands fit a function's inputs
abbrev pub all_fit : Names → List Interval → List (Text × Form) → List Operand → Known → Bool
all_fit n row forms operands first = fits_first forms first && fit_inputs n row n.config n.unit (rest_of forms) operands

-- the same, where its arguments fit
abbrev pub own_found : Names → List Interval → Option ProgramUnit → List Operand → Option Known → Option Known
own_found n row None operands first = None
own_found n row (Some own) operands first = option_and_then (own_result n row n.config n.unit own operands) first

-- the form of a block's input and output
abbrev pub input_form : Names → Text → Text → Option Form
input_form n block word = entry_of (inputs_of (block_variables n.config block)) word

abbrev pub output_form : Names → Text → Text → Option Form
output_form n block word = entry_of (outputs_of (block_variables n.config block)) word

-- whether an argument fits
abbrev pub argument_fits : Names → List Interval → Text → Argument → Bool
argument_fits n row block (Input word o) = fits_input n row (denoted n o.reference) (input_form n block word.name)
argument_fits n row block (Output word to) = fits_output n row (named n to.name) (output_form n block word.name)

-- the row after a call, of a conditional one both as it acts and as it passes
abbrev pub row_after : Names → Condition → Text → List Argument → List Interval → List Interval
row_after n condition block arguments row = passed_row condition (outputs_row n n.config n.unit block arguments row) row

-- the moves of a call of an instance
abbrev pub moves_of_calling : Names → Facts → Condition → Text → List Argument → Option (Moves Facts)
moves_of_calling n f condition instance arguments = provided (has_condition condition f.result) (moves_of_call n n.config n.unit f condition arguments (form_in n instance))

-- the row after an argument's output is copied
abbrev pub argument_row : Names → Text → Argument → List Interval → List Interval
argument_row n block (Input word o) row = row
argument_row n block (Output word to) row = output_row n (output_form n block word.name) (named n to.name) row

-- a name is that of an instance
abbrev pub IsInstance : Names → Text → Type 0
IsInstance n name = is_block (form_in n name) ≡ true
