-- Kinds of operators and of arguments (own rules).
use Rattle.std.specs.Prelude.{Bool, true, false, List}
use Rattle.ranges_interval.specs.declared.Interval.{Interval}
use Rattle.il_syntax.specs.declared.tree.Arithmetic.TheVariants.{Div, Mod}
use Rattle.il_syntax.specs.declared.tree.Operator.{Operator}
use Rattle.il_syntax.specs.declared.tree.Operator.TheVariants.{Arithmetic as OfArithmetic}
use Rattle.il_syntax.specs.declared.tree.Argument.{Argument}
use Rattle.il_syntax.specs.declared.tree.Argument.TheVariants.{Input, Output}
use Rattle.base_maps.specs.NameMap.{get}
use Rattle.ranges_laws.specs.Facts.{Names, variables_of}
use Rattle.ranges_laws.specs.Numbers.{is_inside}
use Rattle.ranges_transfer.specs.Scopes.{denoted}

abbrev pub is_division : Operator → Bool
is_division (OfArithmetic Div) = true
is_division (OfArithmetic Mod) = true
is_division _ = false

-- whether an argument's index lies in its array
abbrev pub is_argument_inside : Names → List Interval → Argument → Bool
is_argument_inside n row (Input word o) = is_inside (get (variables_of n row)) (denoted n o.reference)
is_argument_inside n row (Output word to) = true
