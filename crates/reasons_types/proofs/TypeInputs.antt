-- The inputs of own functions.
use Rattle.std.proofs.Common.{◌≡◌, List, map, Option, Some, None, sym, ap, ◌∙◌}
use Rattle.il_syntax.specs.declared.tree.Elementary.{Elementary}
use Rattle.il_syntax.specs.declared.tree.Form.{Form}
use Rattle.il_syntax.specs.declared.tree.Scalar.{Scalar}
use Rattle.il_syntax.specs.declared.tree.Unit.{Unit as ProgramUnit}
use Rattle.il_statics.specs.Names.{Spelling, named_forms}
use Rattle.load_scope.specs.Units.{scalar_of, AreInputsOf}
use Rattle.reasons_types.specs.TypeReasons.{first_type, function_type}

-- the type of the first
pub own_is : (own : Option ProgramUnit) (scalars : List (Option Scalar)) (r : Option Elementary) → AreInputsOf own scalars
    → ((inputs : List (Spelling × Form)) → scalars ≡ map (λ (i : Spelling × Form). scalar_of (Some i.1)) inputs → r ≡ first_type inputs) → r ≡ function_type None own
own_is own scalars r s h = h (named_forms s.unit.inputs) s.each ∙ ap (function_type None) (sym s.is)
