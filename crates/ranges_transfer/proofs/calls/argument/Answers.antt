use Rattle.std.proofs.Common.{ap, ◌∙◌}
use Rattle.il_semantics.specs.Annotation.{known_argument_type}
use Rattle.ranges_transfer.specs.Standard.{argument_type_of}
use Rattle.ranges_transfer.specs.Scopes.{denoted}
use Rattle.ranges_transfer.proofs.Resolved.{found_from, fine_from}
use Rattle.ranges_transfer.proofs.Inputs.{type_is}
use Rattle.ranges_transfer.proofs.calls.argument.Goals as goal

pub returns-clause-is : goal.returns-clause-is
returns-clause-is g c =
    let n = g.S.Scope.names c.args.scope.now in
    found_from n c.args.row.now c.argument_type.result (known_argument_type c.args.function c.args.first (denoted n c.args.reference.now)) c.args.reference.now c.meant-meant.result c.operand_in.result c.meant-meant.ensures.is
    (c.argument_type.ensures ∙ ap (argument_type_of c.args.function c.args.first) c.meant-meant.ensures.is ∙ type_is n c.args.function c.args.first c.args.reference.now) c.operand_in.ensures

pub returns-clause-fine : goal.returns-clause-fine
returns-clause-fine g c =
    let n = g.S.Scope.names c.args.scope.now in
    fine_from n c.args.row.now (known_argument_type c.args.function c.args.first (denoted n c.args.reference.now)) c.args.reference.now c.operand_in.result c.requires c.meant-meant.ensures.fine
    (found_from n c.args.row.now c.argument_type.result (known_argument_type c.args.function c.args.first (denoted n c.args.reference.now)) c.args.reference.now c.meant-meant.result c.operand_in.result c.meant-meant.ensures.is
    (c.argument_type.ensures ∙ ap (argument_type_of c.args.function c.args.first) c.meant-meant.ensures.is ∙ type_is n c.args.function c.args.first c.args.reference.now) c.operand_in.ensures)
