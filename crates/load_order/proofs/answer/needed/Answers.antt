use Rattle.std.proofs.Common.{◌∙◌, ap}
use Rattle.load_order.proofs.Using.{needed_same}
use Rattle.load_order.proofs.answer.needed.Goals as goal

pub returns-then-are_named : goal.returns-then-are_named
returns-then-are_named c =
    needed_same c.args.names.now c.as_slice-units.result.now c.are_named.result (c.as_slice-units.ensures ∙ ap (λ k. k.units) c.config.ensures) c.are_named.ensures c.if-are_named.true c.args.reached c.requires
