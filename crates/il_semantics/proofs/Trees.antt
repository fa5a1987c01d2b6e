-- Small trees for the worked rows.
use Rattle.std.specs.Prelude.{false, List, [], ◌∷◌, Option, Some, None, ℤ, pos, codes}
use Rattle.il_syntax.specs.declared.tree.Place.{Place}
use Rattle.il_syntax.specs.declared.tree.Elementary.TheVariants.{Bool as BoolType, Int, Time}
use Rattle.il_syntax.specs.declared.tree.Literal.{Literal}
use Rattle.il_syntax.specs.declared.tree.Literal.TheVariants.{Bare}
use Rattle.il_syntax.specs.declared.tree.Form.{Form}
use Rattle.il_syntax.specs.declared.tree.Form.TheVariants.{Scalar as ScalarForm}
use Rattle.il_syntax.specs.declared.tree.Named.{Named}
use Rattle.il_syntax.specs.declared.tree.Declaration.{Declaration}
use Rattle.il_syntax.specs.declared.tree.Operand.{Operand}
use Rattle.il_syntax.specs.declared.tree.Reference.{Reference}
use Rattle.il_syntax.specs.declared.tree.Reference.TheVariants.{Literal as LiteralReference, Variable}
use Rattle.il_syntax.specs.declared.tree.Arithmetic.{Arithmetic as ArithmeticKind}
use Rattle.il_syntax.specs.declared.tree.Operator.TheVariants.{Arithmetic}
use Rattle.il_syntax.specs.declared.tree.Store.TheVariants.{Plain}
use Rattle.il_syntax.specs.declared.tree.Condition.{Condition}
use Rattle.il_syntax.specs.declared.tree.Instruction.{Instruction}
use Rattle.il_syntax.specs.declared.tree.Instruction.TheVariants.{Load, Store, Operate, Defer, Jump, Invoke}
use Rattle.il_syntax.specs.declared.tree.Step.{Step as BodyStep}
use Rattle.il_syntax.specs.declared.tree.Unit.{Unit as ProgramUnit}
use Rattle.il_syntax.specs.declared.tree.UnitKind.{UnitKind}
use Rattle.il_syntax.specs.declared.tree.UnitKind.TheVariants.{Program}
use Rattle.il_syntax.specs.declared.tree.Config.{Config}
use Rattle.base_maps.specs.NameMap.{Text}
use Rattle.il_statics.specs.Names.{within as bounded}
use Rattle.il_syntax.specs.ElementaryTypes.{plain}

abbrev pub here : Place
here = record { offset = 0; line = 1 }

abbrev pub named : Text → Named
named n = record { place = here; name = n }

-- n : form, with no initial value
abbrev pub declared : Text → Form → Declaration
declared n f = record { names = named n ∷ []; declared = record { place = here; form = f }; initial = None }

abbrev pub declared_with : Text → Form → Literal → Declaration
declared_with n f l = record { names = named n ∷ []; declared = record { place = here; form = f }; initial = Some (record { place = here; literal = l }) }

abbrev pub int : Form
int = ScalarForm (plain Int)

abbrev pub time : Form
time = ScalarForm (plain Time)

abbrev pub bool : Form
bool = ScalarForm (plain BoolType)

abbrev pub int_between : ℤ → ℤ → Form
int_between lower upper = ScalarForm (bounded lower upper)

abbrev pub operand : Reference → Operand
operand r = record { place = here; reference = r }

abbrev pub variable : Text → Operand
variable n = operand (Variable n)

abbrev pub number : ℤ → Operand
number z = operand (LiteralReference (Bare z))

abbrev pub literal : Literal → Operand
literal l = operand (LiteralReference l)

abbrev pub ld : Operand → Instruction
ld o = Load false o

abbrev pub st : Text → Instruction
st n = Store Plain (variable n)

abbrev pub op : ArithmeticKind → Operand → Instruction
op k o = Operate (Arithmetic k) o

abbrev pub op_opens : ArithmeticKind → Option Operand → Instruction
op_opens k o = Defer (Arithmetic k) o

abbrev pub jump : Condition → Text → Instruction
jump c l = Jump c (named l)

abbrev pub invoke : Text → List Operand → Instruction
invoke f os = Invoke (named f) os

abbrev pub line : Instruction → BodyStep
line i = record { labels = []; place = here; instruction = i }

abbrev pub labelled : Text → Instruction → BodyStep
labelled l i = record { labels = named l ∷ []; place = here; instruction = i }

abbrev pub unit : UnitKind → Text → (inputs outputs variables : List Declaration) → List BodyStep → ProgramUnit
unit kind name inputs outputs variables steps = record {
  place = here;
  kind = kind;
  name = named name;
  inputs = inputs;
  outputs = outputs;
  variables = variables;
  externals = [];
  body = record { steps = steps; last_labels = []; end = here };
}

abbrev pub program : List Declaration → List BodyStep → ProgramUnit
program = unit Program (codes "C") [] []

-- One car, two floors, one slot.
abbrev pub config : List ProgramUnit → Config
config units = record {
  units = units;
  cars = record { place = here; value = pos 1 };
  floors = record { place = here; value = pos 2 };
  slots = record { place = here; value = pos 1 };
  globals_place = None;
  globals = [];
  tasks = record { place = here; name = named (codes "CAR1"); interval = pos 100; priority = pos 1 } ∷ [];
  programs = record { place = here; name = named (codes "P1"); task = named (codes "CAR1"); program = named (codes "C") } ∷ [];
  end_resource = here;
}
