use Rattle.std.proofs.Common.{◌≡◌, take, flat_map}
use Rattle.il_statics.specs.Types.{index_numbers}
use Rattle.il_statics.specs.Lowest.{lowest}
use Rattle.load_types.proofs.functions.indices_fault.Given as goal

abbrev pub invariant-loop-operand : goal.invariant-loop-operand
invariant-loop-operand g l = l.fault ≡ lowest (flat_map (λ o. index_numbers (g.S.Scope.config l.scope) (g.S.Scope.unit l.scope) o.reference) (take l.operand-index l.operands))
