use Rattle.std.proofs.Common.{ap, ◌∙◌}
use Rattle.ranges_laws.specs.Steps.{context}
use Rattle.ranges_transfer.specs.Meant.{context_of}
use Rattle.ranges_transfer.specs.Scopes.{denoted}
use Rattle.ranges_transfer.proofs.Resolved.{context_is, beside_from, beside_fine}
use Rattle.ranges_transfer.proofs.operands.right_inside.Goals as goal

pub returns-clause-is : goal.returns-clause-is
returns-clause-is g c =
    let n = g.S.Scope.names c.args.scope.now in
    beside_from n c.args.row.now c.context_of.result (context (denoted n c.args.reference.now) c.args.left) c.args.reference.now c.meant-meant.result c.operand_inside_in.result c.meant-meant.ensures.is
    (c.context_of.ensures ∙ ap (λ m. context_of m c.args.left) c.meant-meant.ensures.is ∙ context_is n c.args.reference.now c.args.left) c.operand_inside_in.ensures

pub returns-clause-fine : goal.returns-clause-fine
returns-clause-fine g c =
    let n = g.S.Scope.names c.args.scope.now in
    beside_fine n c.args.row.now (context (denoted n c.args.reference.now) c.args.left) c.args.reference.now c.operand_inside_in.result c.requires c.meant-meant.ensures.fine
    (beside_from n c.args.row.now c.context_of.result (context (denoted n c.args.reference.now) c.args.left) c.args.reference.now c.meant-meant.result c.operand_inside_in.result c.meant-meant.ensures.is
    (c.context_of.ensures ∙ ap (λ m. context_of m c.args.left) c.meant-meant.ensures.is ∙ context_is n c.args.reference.now c.args.left) c.operand_inside_in.ensures)
