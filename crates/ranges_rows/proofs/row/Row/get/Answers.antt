use Rattle.std.proofs.Common.{get_or, sym, ap, ◌∙◌, arith}
use Rattle.ranges_rows.specs.Ranges.{widened}
use Rattle.ranges_rows.proofs.Widened.{get_view}
use Rattle.ranges_rows.proofs.row.Row.get.Goals as goal

pub returns-then-number-len : goal.returns-then-number-len
returns-then-number-len c =
    get_view c.args.self.now c.self.inside.words.items c.self.inside.wide.items c.args.number c.range_in.result (sym c.self.view_is) (grind arith) (grind arith)
    (λ d. c.range_in.ensures d ∙ ap (λ ws. get_or (widened ws) c.args.number d) c.as_slice.ensures.value)
