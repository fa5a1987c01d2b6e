use Rattle.std.proofs.Common.{◌∙◌}
use Rattle.ranges_transfer.proofs.Joins.{row_joined_is}
use Rattle.ranges_transfer.proofs.join.join_rows.Goals as goal

pub returns : goal.returns
returns c = c.join.ensures ∙ row_joined_is c.args.row.now c.args.other.now
