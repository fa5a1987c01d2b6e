-- What the instructions of a body use, and how (own rules). Labels are left out.
use Rattle.std.specs.Prelude.{ℕ, Bool, true, false, ◌&&◌, List, [], ◌∷◌, ◌++◌, Option, Some, None, flat_map, bytes_eq}
use Rattle.std.specs.List.{list_any}
use Rattle.il_syntax.specs.declared.tree.Named.{Named}
use Rattle.il_syntax.specs.declared.tree.Index.{Index}
use Rattle.il_syntax.specs.declared.tree.Index.TheVariants.{Number, Variable as ByVariable}
use Rattle.il_syntax.specs.declared.tree.Reference.{Reference}
use Rattle.il_syntax.specs.declared.tree.Reference.TheVariants.{Literal, Variable, Element, Member}
use Rattle.il_syntax.specs.declared.tree.Operand.{Operand}
use Rattle.il_syntax.specs.declared.tree.Argument.{Argument}
use Rattle.il_syntax.specs.declared.tree.Argument.TheVariants.{Input, Output}
use Rattle.il_syntax.specs.declared.tree.Instruction.{Instruction}
use Rattle.il_syntax.specs.declared.tree.Instruction.TheVariants.{Load, Store as StoreInto, Not, Operate, Defer, Evaluate, Jump, Return, Call, Invoke}
use Rattle.il_syntax.specs.declared.tree.Step.{Step}
use Rattle.il_statics.specs.Names.{Spelling}
use Rattle.show_names.specs.declared.uses.Manner.{Manner}
use Rattle.show_names.specs.declared.uses.Manner.TheVariants.{Read, Written, Called}
use Rattle.show_names.specs.declared.uses.Use.{Use}
use Rattle.show_names.specs.declared.uses.Found.{Found}
use Rattle.show_names.specs.declared.uses.Rest.{Rest}
use Rattle.show_names.specs.declared.uses.Rest.TheVariants.{Operands, Arguments}
use Rattle.show_names.specs.declared.uses.Head.{Head}
use Rattle.show_names.specs.declared.uses.UsesLeft.{UsesLeft}

-- USES

-- a use of a name: the line where it is written, and how it is used there
pub record NameUse : Type 0 where
  pub name : Spelling
  pub line : ℕ
  pub manner : Manner

-- the use of a name in a line
abbrev pub use_in : Manner → ℕ → Spelling → NameUse
use_in manner line name = record { name = name; line = line; manner = manner }

-- the use of a name at its own place
abbrev pub named_use : Manner → Named → NameUse
named_use manner named = use_in manner named.place.line named.name

-- an index: its variable is read
abbrev pub index_uses : ℕ → Index → List NameUse
index_uses line (Number n) = []
index_uses line (ByVariable name) = use_in Read line name ∷ []

-- what is read or written: a variable; an array and its index; an instance for its member
abbrev pub reference_uses : Manner → ℕ → Reference → List NameUse
reference_uses manner line (Literal literal) = []
reference_uses manner line (Variable name) = use_in manner line name ∷ []
reference_uses manner line (Element name index) = use_in manner line name ∷ index_uses line index
reference_uses manner line (Member instance word) = use_in manner line instance ∷ []

-- an operand, at the line where it is written
abbrev pub operand_uses : Manner → Operand → List NameUse
operand_uses manner operand = reference_uses manner operand.place.line operand.reference

-- an argument of a CAL: what goes in is read, the target of an output is written
abbrev pub argument_uses : Argument → List NameUse
argument_uses (Input word operand) = operand_uses Read operand
argument_uses (Output word target) = named_use Written target ∷ []

-- operands that are read
abbrev pub operands_uses : List Operand → List NameUse
operands_uses operands = flat_map (operand_uses Read) operands

-- the arguments of a CAL
abbrev pub arguments_uses : List Argument → List NameUse
arguments_uses arguments = flat_map argument_uses arguments

-- the operand of a short form, if there is one
abbrev pub short_form_uses : Option Operand → List NameUse
short_form_uses None = []
short_form_uses (Some operand) = operand_uses Read operand

-- an instruction, its uses in the order of its text
abbrev pub instruction_uses : Instruction → List NameUse
instruction_uses (Load negated operand) = operand_uses Read operand
instruction_uses (StoreInto store target) = operand_uses Written target
instruction_uses Not = []
instruction_uses (Operate operator operand) = operand_uses Read operand
instruction_uses (Defer operator first) = short_form_uses first
instruction_uses Evaluate = []
instruction_uses (Jump condition label) = []
instruction_uses (Return condition) = []
instruction_uses (Call condition instance arguments) = named_use Called instance ∷ arguments_uses arguments
instruction_uses (Invoke function operands) = named_use Called function ∷ operands_uses operands

-- the uses of steps, in their order
abbrev pub uses : List Step → List NameUse
uses steps = flat_map (λ s. instruction_uses s.instruction) steps

-- whether two manners are the same
abbrev pub is_manner : Manner → Manner → Bool
is_manner Read Read = true
is_manner Read Written = false
is_manner Read Called = false
is_manner Written Read = false
is_manner Written Written = true
is_manner Written Called = false
is_manner Called Read = false
is_manner Called Written = false
is_manner Called Called = true

-- whether a use is one of a name in a manner
abbrev pub is_use : Manner → Spelling → NameUse → Bool
is_use manner name u = is_manner manner u.manner && bytes_eq u.name name

-- whether steps use a name in a manner
abbrev pub is_used : Manner → Spelling → List Step → Bool
is_used manner name steps = list_any (is_use manner name) (uses steps)

-- WHAT AN ITERATOR SHOWS

-- what is shown of a use
abbrev pub use_shown : Use → NameUse
use_shown u = record { name = u.name.now; line = u.line; manner = u.manner }

-- the use of an index, if there is one
abbrev pub index_shown : Option Use → List NameUse
index_shown None = []
index_shown (Some u) = use_shown u ∷ []

-- the use of an operand and that of its index
abbrev pub found_shown : Found → List NameUse
found_shown f = use_shown f.used ∷ index_shown f.index

-- the same, if there is any
abbrev pub maybe_found_shown : Option Found → List NameUse
maybe_found_shown None = []
maybe_found_shown (Some f) = found_shown f

-- the uses of what is left of an instruction
abbrev pub rest_shown : Rest → List NameUse
rest_shown (Operands operands) = operands_uses operands.now
rest_shown (Arguments arguments) = arguments_uses arguments.now

-- the uses of an instruction
abbrev pub head_shown : Option Head → List NameUse
head_shown None = []
head_shown (Some h) = found_shown h.found ++ rest_shown h.rest

-- the uses that are left: of an index, of the instruction that is begun, and of the steps after it
abbrev pub uses_left : UsesLeft → List NameUse
uses_left l = index_shown l.index ++ (rest_shown l.rest ++ uses l.steps.now)
