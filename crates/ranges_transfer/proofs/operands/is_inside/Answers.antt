use Rattle.std.proofs.Common.{ap, ◌∙◌}
use Rattle.ranges_transfer.specs.Meant.{is_inside_in}
use Rattle.ranges_transfer.proofs.Resolved.{inside_is}
use Rattle.ranges_transfer.proofs.operands.is_inside.Goals as goal

pub returns : goal.returns
returns g c = c.is_inside_in.ensures ∙ ap (is_inside_in c.args.row.now) c.meant.ensures.is ∙ inside_is (g.S.Scope.names c.args.scope.now) c.args.row.now c.args.reference.now
