use Rattle.std.proofs.Common.{◌∙◌}
use Rattle.load_order.proofs.Cutting.{cover_is}
use Rattle.load_order.proofs.limits.limits_of.Goals as goal

pub returns : goal.returns
returns c = record {
  closing = c.in_ok-copied.ensures ∙ c.requires;
  covers = cover_is c.args.count c.smallest-most.result c.args.uses.now c.as_slice-made.result.now c.in_ok-many_users.field-0 c.in_ok-used_by_few.field-0 c.in_ok-many_users.ensures c.in_ok-used_by_few.ensures;
}
