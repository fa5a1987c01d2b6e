use Rattle.std.proofs.Common.{ap, ◌∙◌}
use Rattle.il_statics.specs.Types.{any_difference_numbers}
use Rattle.il_statics.specs.Lowest.{lowest}
use Rattle.load_types.proofs.Wanted.{wanted_is}
use Rattle.load_types.proofs.operands.wanted_fault.Goals as goal

pub returns-in_default : goal.returns-in_default
returns-in_default g c =
    c.lower.ensures
    ∙ wanted_is (g.S.Scope.config c.args.scope.now) (g.S.Scope.unit c.args.scope.now) c.args.reference.now c.args.wanted c.index_fault.result c.any_difference.result c.in_default.not-Literal c.index_fault.ensures
    (c.any_difference.ensures ∙ ap (λ t. lowest (any_difference_numbers t c.args.wanted)) c.reference_type.ensures)
