use Rattle.std.proofs.Common.{◌≡◌, take}
use Rattle.std.specs.Prelude.{flat_map}
use Rattle.il_syntax.specs.declared.tree.Operand.{Operand}
use Rattle.il_statics.specs.Declarations.{reference_numbers, Reads}
use Rattle.load_declarations.specs.Places.{lowest_at}
use Rattle.load_declarations.proofs.mentions.operands_fault.Given as goal

abbrev pub invariant-loop-operand : goal.invariant-loop-operand
invariant-loop-operand l = l.found ≡ lowest_at (flat_map (λ (o : Operand). reference_numbers l.here.config l.here.unit Reads o.reference) (take l.operand-index l.operands)) l.place
