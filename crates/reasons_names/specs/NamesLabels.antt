-- What is reported of a label that does not be in its unit (own rules).
use Rattle.std.specs.Prelude.{ℕ, if◌then◌else◌, List, [], ◌++◌, map, Option, is_some, codes}
use Rattle.il_syntax.specs.declared.tree.Body.{Body}
use Rattle.il_syntax.specs.declared.tree.Instruction.{Instruction}
use Rattle.il_syntax.specs.declared.tree.Instruction.TheVariants.{Load, Store as StoreInto, Not, Operate, Defer, Evaluate, Jump, Return, Call, Invoke}
use Rattle.il_statics.specs.Names.{Spelling}
use Rattle.il_statics.specs.Declarations.{labels_of}
use Rattle.il_statics.specs.Types.{label_place}
use Rattle.reasons_names.specs.NamesNear.{Known, Nearest, declared_name, nearest, ending}

-- `label NAME is not in this unit`, and a label that is near
unfoldable pub missing_line : Spelling → Option Nearest → List ℕ
missing_line name near = codes "label " ++ (name ++ (codes " is not in this unit" ++ ending near))

-- the labels of a body
abbrev pub labels_near : Body → List Known
labels_near body = map declared_name (labels_of body)

-- the name of a label, where the body lacks it (3.2.2)
abbrev pub missing_text : Body → Spelling → List ℕ
missing_text body name = if is_some (label_place body name) then [] else missing_line name (nearest name (labels_near body))

-- 34: the label of a jump
abbrev pub jump_text : Body → Instruction → List ℕ
jump_text body (Load negated operand) = []
jump_text body (StoreInto store target) = []
jump_text body Not = []
jump_text body (Operate operator operand) = []
jump_text body (Defer operator first) = []
jump_text body Evaluate = []
jump_text body (Jump condition label) = missing_text body label.name
jump_text body (Return condition) = []
jump_text body (Call condition instance arguments) = []
jump_text body (Invoke function operands) = []
