use Rattle.std.proofs.Common.{◌≡◌, List, Some, take, map}
use Rattle.il_syntax.specs.declared.tree.Form.{Form}
use Rattle.il_statics.specs.Names.{Spelling}
use Rattle.il_statics.specs.Types.{input_numbers}
use Rattle.il_statics.specs.Lowest.{lowest}
use Rattle.load_scope.specs.Units.{scalar_of}
use Rattle.load_types.proofs.functions.inputs_fault.Given as goal

abbrev pub invariant-loop-at : goal.invariant-loop-at
invariant-loop-at g l = (inputs : List (Spelling × Form)) → l.scalars ≡ map (λ i. scalar_of (Some i.1)) inputs → l.fault ≡ lowest (input_numbers (g.S.Scope.config l.scope) (g.S.Scope.unit l.scope) inputs (take l.at l.operands))
