use Rattle.std.proofs.Common.{ap, ◌∙◌}
use Rattle.il_semantics.specs.Meaning.{natural}
use Rattle.ranges_transfer.specs.Meant.{natural_of}
use Rattle.ranges_transfer.specs.Scopes.{denoted}
use Rattle.ranges_transfer.proofs.Resolved.{natural_is, found_from, fine_from}
use Rattle.ranges_transfer.proofs.operands.loaded_operand.Goals as goal

pub returns-clause-is : goal.returns-clause-is
returns-clause-is g c =
    let n = g.S.Scope.names c.args.scope.now in
    found_from n c.args.row.now c.natural_of.result (natural (denoted n c.args.reference.now)) c.args.reference.now c.meant-meant.result c.operand_in.result c.meant-meant.ensures.is (c.natural_of.ensures ∙ ap natural_of c.meant-meant.ensures.is ∙ natural_is n c.args.reference.now) c.operand_in.ensures

pub returns-clause-fine : goal.returns-clause-fine
returns-clause-fine g c =
    let n = g.S.Scope.names c.args.scope.now in
    fine_from n c.args.row.now (natural (denoted n c.args.reference.now)) c.args.reference.now c.operand_in.result c.requires c.meant-meant.ensures.fine
    (found_from n c.args.row.now c.natural_of.result (natural (denoted n c.args.reference.now)) c.args.reference.now c.meant-meant.result c.operand_in.result c.meant-meant.ensures.is (c.natural_of.ensures ∙ ap natural_of c.meant-meant.ensures.is ∙ natural_is n c.args.reference.now) c.operand_in.ensures)
