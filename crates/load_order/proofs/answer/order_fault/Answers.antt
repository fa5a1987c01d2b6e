use Rattle.std.proofs.Common.{ap, length, ◌∙◌}
use Rattle.load_order.proofs.Breaking.{order_least, reached_is}
use Rattle.load_order.proofs.answer.order_fault.Goals as goal

pub returns-clause-fault : goal.returns-clause-fault
returns-clause-fault c =
    order_least c.args.names.now c.requires (length c.as_slice-count.result.now) c.in_ok-uses.uses c.in_ok-reached.reached c.in_ok-units.units c.in_ok-slots.slots c.earlier.result
    (ap length (c.as_slice-count.ensures ∙ ap (λ k. k.units) c.config.ensures)) c.in_ok-uses.ensures c.in_ok-reached.ensures c.in_ok-units.ensures c.in_ok-slots.ensures c.earlier.ensures

pub returns-clause-reached : goal.returns-clause-reached
returns-clause-reached c =
    reached_is c.args.names.now (length c.as_slice-count.result.now) c.in_ok-uses.uses c.in_ok-reached.reached (ap length (c.as_slice-count.ensures ∙ ap (λ k. k.units) c.config.ensures)) c.in_ok-uses.ensures c.in_ok-reached.ensures
