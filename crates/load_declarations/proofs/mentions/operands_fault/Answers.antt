use Rattle.std.proofs.Common.{◌∙◌, arith, ap}
use Rattle.std.specs.Prelude.{flat_map}
use Rattle.il_syntax.specs.declared.tree.Operand.{Operand}
use Rattle.il_statics.specs.Declarations.{reference_numbers, Reads}
use Rattle.load_scope.proofs.Filled.{take_all}
use Rattle.load_declarations.specs.Places.{lowest_at}
use Rattle.load_declarations.proofs.Lowest.{at_next}
use Rattle.load_declarations.proofs.mentions.operands_fault.Goals as goal

pub loop-operand-preserved : goal.loop-operand-preserved
loop-operand-preserved c =
    at_next (λ (o : Operand). reference_numbers c.args.here.now.config c.args.here.now.unit Reads o.reference) c.args.operands.now c.loop-operand.operand-index c.operand-item.result c.args.place c.loop-operand.found c.operand_fault.result c.earlier-found.result (omega arith) c.operand-item.is c.operand_fault.ensures c.earlier-found.ensures c.loop-operand.invariant

pub returns : goal.returns
returns c = c.loop-operand.invariant ∙ ap (λ l. lowest_at (flat_map (λ (o : Operand). reference_numbers c.args.here.now.config c.args.here.now.unit Reads o.reference) l) c.args.place) (take_all c.args.operands.now c.loop-operand.operand-index (omega arith))
