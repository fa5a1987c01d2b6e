use Rattle.std.proofs.Common.{◌≡◌, take, flat_map}
use Rattle.il_statics.specs.Types.{wanted_numbers}
use Rattle.il_statics.specs.Lowest.{lowest}
use Rattle.load_types.proofs.functions.all_wanted_fault.Given as goal

abbrev pub invariant-loop-operand : goal.invariant-loop-operand
invariant-loop-operand g l = l.fault ≡ lowest (flat_map (λ o. wanted_numbers (g.S.Scope.config l.scope) (g.S.Scope.unit l.scope) o.reference l.wanted) (take l.operand-index l.operands))
