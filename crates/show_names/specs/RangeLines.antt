-- What is written of what is known in a unit (own rules).
use Rattle.std.specs.Prelude.{ℕ, List, [], ◌∷◌, ◌++◌, false, flat_map, Option, Some, None, codes, decimal}
use Rattle.std.specs.Fmt.{signed_decimal}
use Rattle.json.specs.Token.{Token, begin_object, end_object, key, null}
use Rattle.base_json.specs.declared.form.Form.{Form}
use Rattle.base_json.specs.Forms.{row_in}
use Rattle.base_json.specs.Objects.{integer_member, list_member, number_member, object, text_member, truth_member}
use Rattle.ranges_interval.specs.declared.Interval.{Interval}
use Rattle.il_syntax.specs.declared.tree.Argument.{Argument}
use Rattle.il_syntax.specs.declared.tree.Argument.TheVariants.{Input, Output}
use Rattle.il_syntax.specs.declared.tree.Elementary.{Elementary}
use Rattle.il_syntax.specs.declared.tree.Elementary.TheVariants.{Bool, Sint, Int, Dint, Usint, Uint, Udint, Time}
use Rattle.il_syntax.specs.declared.tree.Index.{Index}
use Rattle.il_syntax.specs.declared.tree.Index.TheVariants.{Number, Variable as ByVariable}
use Rattle.il_syntax.specs.declared.tree.Instruction.{Instruction}
use Rattle.il_syntax.specs.declared.tree.Instruction.TheVariants.{Load, Store, Operate, Defer, Call, Invoke}
use Rattle.il_syntax.specs.declared.tree.Operand.{Operand}
use Rattle.il_syntax.specs.declared.tree.Reference.{Reference}
use Rattle.il_syntax.specs.declared.tree.Reference.TheVariants.{Literal, Variable, Element, Member}
use Rattle.il_syntax.specs.declared.tree.Step.{Step}
use Rattle.il_syntax.specs.declared.tree.Unit.{Unit as ProgramUnit}
use Rattle.il_syntax.specs.declared.tree.UnitKind.{UnitKind}
use Rattle.il_syntax.specs.declared.tree.UnitKind.TheVariants.{Function, FunctionBlock, Program}
use Rattle.base_maps.specs.NameMap.{Text, get}
use Rattle.il_semantics.specs.declared.known.Known.{Known}
use Rattle.il_semantics.specs.declared.known.Known.TheVariants.{Flag, Ranged}
use Rattle.il_semantics.specs.Annotation.{Knowledge}
use Rattle.il_statics.specs.Least.{NumberedFault}
use Rattle.ranges_pass.specs.Shown.{steps_text}
use Rattle.show_names.specs.Sources.{told_source}
use Rattle.show_names.specs.declared.range_variables.RangedVariable.{RangedVariable as RangedVariableCode}

-- VALUES

-- the word of a type (2.3.1)
abbrev pub type_word : Elementary → List ℕ
type_word Bool = codes "BOOL"
type_word Sint = codes "SINT"
type_word Int = codes "INT"
type_word Dint = codes "DINT"
type_word Usint = codes "USINT"
type_word Uint = codes "UINT"
type_word Udint = codes "UDINT"
type_word Time = codes "TIME"

-- ` LO..HI`
unfoldable pub range_text : Interval → List ℕ
range_text i = codes " " ++ (signed_decimal i.lo ++ (codes ".." ++ signed_decimal i.hi))

-- `none`, `BOOL`, or a type and its range; TIME is in milliseconds
abbrev pub result_text : Option Known → List ℕ
result_text None = codes "none"
result_text (Some Flag) = codes "BOOL"
result_text (Some (Ranged e i)) = type_word e ++ range_text i

-- the members of a range
abbrev pub range_members : Interval → List Token
range_members i = integer_member (codes "from") i.lo ++ integer_member (codes "to") i.hi

-- null, or an object of the type, with its range
abbrev pub result_tokens : Option Known → List Token
result_tokens None = null ∷ []
result_tokens (Some Flag) = object (text_member (codes "type") (codes "BOOL"))
result_tokens (Some (Ranged e i)) = object (text_member (codes "type") (type_word e) ++ range_members i)

-- VARIABLES

-- a variable that has a range
pub record RangedVariable : Type 0 where
  pub name : Text
  pub range : Interval

-- the variable of a name, where it has a range
abbrev pub with_range : Text → Option Interval → List RangedVariable
with_range name None = []
with_range name (Some i) = record { name = name; range = i } ∷ []

abbrev pub named_variable : Knowledge → Text → List RangedVariable
named_variable k name = with_range name (get k.variables name)

-- the variable of an index
abbrev pub index_variables : Knowledge → Index → List RangedVariable
index_variables k (Number z) = []
index_variables k (ByVariable name) = named_variable k name

-- the variable of an operand, of an element that of its index
abbrev pub reference_variables : Knowledge → Reference → List RangedVariable
reference_variables k (Literal l) = []
reference_variables k (Variable name) = named_variable k name
reference_variables k (Element name index) = index_variables k index
reference_variables k (Member name word) = []

-- the same of an operand that may not be there
abbrev pub first_variables : Knowledge → Option Operand → List RangedVariable
first_variables k None = []
first_variables k (Some operand) = reference_variables k operand.reference

-- of an argument: its operand's, or the target of an output
abbrev pub argument_variables : Knowledge → Argument → List RangedVariable
argument_variables k (Input word operand) = reference_variables k operand.reference
argument_variables k (Output word to) = named_variable k to.name

-- of operands and arguments, in the written order
abbrev pub operands_variables : Knowledge → List Operand → List RangedVariable
operands_variables k operands = flat_map (λ (o : Operand). reference_variables k o.reference) operands

abbrev pub arguments_variables : Knowledge → List Argument → List RangedVariable
arguments_variables k arguments = flat_map (argument_variables k) arguments

-- the variables that an instruction names and that have a range
abbrev pub instruction_variables : Knowledge → Instruction → List RangedVariable
instruction_variables k (Load negated operand) = reference_variables k operand.reference
instruction_variables k (Store kind to) = reference_variables k to.reference
instruction_variables k (Operate operator operand) = reference_variables k operand.reference
instruction_variables k (Defer operator first) = first_variables k first
instruction_variables k (Call condition instance arguments) = arguments_variables k arguments
instruction_variables k (Invoke function operands) = operands_variables k operands
instruction_variables k _ = []

-- `, NAME LO..HI`
abbrev pub variable_text : RangedVariable → List ℕ
variable_text v = codes ", " ++ (v.name ++ range_text v.range)

-- an object of its name and its range
abbrev pub variable_tokens : RangedVariable → List Token
variable_tokens v = object (text_member (codes "name") v.name ++ range_members v.range)

-- a variable as the code has it
abbrev pub variable_shown : RangedVariableCode → RangedVariable
variable_shown v = record { name = v.name.now; range = v.range }

-- LINES

-- `line L`, and after it `: TEXT`, the text of the instruction, where that is to be shown
abbrev pub front_text : Option (List ℕ) → Step → List ℕ
front_text source s = codes "line " ++ (decimal s.place.line ++ told_source source s.place.offset)

-- `line L: result R`, and the variables that the instruction names
abbrev pub reached_text : Option (List ℕ) → Step → Knowledge → List ℕ
reached_text source s k = front_text source s ++ (codes ": result " ++ (result_text k.result ++ (flat_map variable_text (instruction_variables k s.instruction) ++ codes "\n")))

-- `line L: not reached`
abbrev pub not_reached_text : Option (List ℕ) → Step → List ℕ
not_reached_text source s = front_text source s ++ codes ": not reached\n"

-- the line of the instruction at which a unit is refused: `line L: refused 43`
abbrev pub refused_line : ℕ → ℕ → List ℕ
refused_line line number = codes "line " ++ (decimal line ++ (codes ": refused " ++ (decimal number ++ codes "\n")))

-- the word of a kind of unit (2.5)
abbrev pub kind_word : UnitKind → List ℕ
kind_word (Function scalar place) = codes "FUNCTION"
kind_word FunctionBlock = codes "FUNCTION_BLOCK"
kind_word Program = codes "PROGRAM"

-- `PROGRAM COUNTS line 1`
abbrev pub heading_text : ProgramUnit → List ℕ
heading_text u = kind_word u.kind ++ (codes " " ++ (u.name.name ++ (codes " line " ++ (decimal u.place.line ++ codes "\n"))))

-- OBJECTS

-- the line, the result, and the variables that the instruction names
abbrev pub reached_with : ℕ → Option Known → List RangedVariable → List Token
reached_with line found variables =
    number_member (codes "line") line ++ (key (codes "result") ∷ (result_tokens found ++ list_member (codes "variables") (flat_map variable_tokens variables)))

abbrev pub reached_members : Step → Knowledge → List Token
reached_members s k = reached_with s.place.line k.result (instruction_variables k s.instruction)

-- the line, and that nothing reaches it
abbrev pub not_reached_members : Step → List Token
not_reached_members s = number_member (codes "line") s.place.line ++ truth_member (codes "reached") false

-- the line, and the number for which the unit is refused
abbrev pub refused_members : ℕ → ℕ → List Token
refused_members line number = number_member (codes "line") line ++ number_member (codes "refused") number

-- the kind, the name and the line
abbrev pub heading_members : ProgramUnit → List Token
heading_members u = text_member (codes "kind") (kind_word u.kind) ++ (text_member (codes "unit") u.name.name ++ number_member (codes "line") u.place.line)

-- ROWS

-- of an instruction, by what is known before it; an object has no text of the instruction
abbrev pub step_row : Form → Option (List ℕ) → Step → Option Knowledge → List ℕ
step_row form source s None = row_in form (not_reached_text source s) (not_reached_members s)
step_row form source s (Some k) = row_in form (reached_text source s k) (reached_members s k)

-- after the instruction at which a unit is refused
abbrev pub refused_row : Form → Option NumberedFault → List ℕ
refused_row form None = []
refused_row form (Some f) = row_in form (refused_line f.place.line f.number) (refused_members f.place.line f.number)

-- the heading of a unit
abbrev pub heading_row : Form → ProgramUnit → List ℕ
heading_row form u = row_in form (heading_text u) (heading_members u)

-- of a unit: its heading, its instructions, and where it is refused
abbrev pub unit_rows : Form → Option (List ℕ) → ProgramUnit → List (Option Knowledge) → Option NumberedFault → List ℕ
unit_rows form source u known found = heading_row form u ++ (steps_text (step_row form source) u.body.steps known ++ refused_row form found)
