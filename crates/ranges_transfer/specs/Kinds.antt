-- Kinds of operations and of instructions (own rules).
use Rattle.std.specs.Prelude.{List, Option, Some, None, option_map}
use Rattle.ranges_interval.specs.declared.Interval.{Interval}
use Rattle.il_syntax.specs.declared.tree.Arithmetic.{Arithmetic}
use Rattle.il_syntax.specs.declared.tree.Arithmetic.TheVariants.{Add, Sub, Mul, Div, Mod}
use Rattle.il_syntax.specs.declared.tree.Operand.{Operand}
use Rattle.il_syntax.specs.declared.tree.Store.{Store as StoreKind}
use Rattle.il_syntax.specs.declared.tree.Store.TheVariants.{Plain}
use Rattle.il_syntax.specs.declared.tree.Instruction.{Instruction}
use Rattle.il_syntax.specs.declared.tree.Instruction.TheVariants.{Load, Not, Operate, Invoke, Jump, Return}
use Rattle.il_semantics.specs.declared.known.Known.{Known}
use Rattle.ranges_laws.specs.Facts.{Names}
use Rattle.ranges_laws.specs.Steps.{flag_there, loaded_operand}
use Rattle.ranges_transfer.specs.Scopes.{denoted}

-- DIV and MOD
abbrev pub IsDivision : Arithmetic → Type 0
IsDivision Add = ⊥
IsDivision Sub = ⊥
IsDivision Mul = ⊥
IsDivision Div = Unit {0}
IsDivision Mod = Unit {0}

-- an instruction that changes the result alone
abbrev pub GivesResult : Instruction → Type 0
GivesResult (Load negated operand) = Unit {0}
GivesResult Not = Unit {0}
GivesResult (Operate operator operand) = Unit {0}
GivesResult (Invoke function operands) = Unit {0}
GivesResult _ = ⊥

-- an instruction that goes on to the next place alone
abbrev pub GoesOnAlone : Instruction → Type 0
GoesOnAlone (Jump condition label) = ⊥
GoesOnAlone (Return condition) = ⊥
GoesOnAlone _ = Unit {0}

-- the value that a store takes
abbrev pub stored_value : StoreKind → Option Known → Option Known
stored_value Plain found = found
stored_value _ found = flag_there found

-- what a short form loads, and nothing where there is none
abbrev pub first_loaded : Names → List Interval → Option Operand → Option (Option Known)
first_loaded n row None = Some None
first_loaded n row (Some o) = option_map Some (loaded_operand n row (denoted n o.reference))
