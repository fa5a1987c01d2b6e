use Rattle.std.proofs.Common.{length, sym, ap, ◌∙◌}
use Rattle.ranges_transfer.proofs.Outputs.{same_length}
use Rattle.ranges_transfer.proofs.blocks.passed_row.Goals as goal

pub join_rows-requires : goal.join_rows-requires
join_rows-requires g c =
    same_length (g.S.Scope.names c.args.scope.now) c.args.instance.now c.args.arguments.now c.args.row.now c.copy_outputs-2.new.row c.requires c.copy_outputs-2.ensures ∙ ap length (sym c.in_ok-before.ensures)
