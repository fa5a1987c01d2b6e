use Rattle.std.proofs.Common.{◌≡◌, subst, sym}
use Rattle.std.specs.Prelude.{IfOk}
use Rattle.il_statics.specs.Faults.{HasNoFault, BreaksDeclarations, BreaksOrder}
use Rattle.il_statics.specs.Least.{IsLeast}
use Rattle.load_order.specs.Breaks.{reached}
use Rattle.load_order.proofs.checked.Goals as goal

pub order_fault-requires : goal.order_fault-requires
order_fault-requires c = subst (λ k. HasNoFault (BreaksDeclarations k)) (sym c.names.ensures) c.config-config.ensures.declared

pub returns-clause-fault : goal.returns-clause-fault
returns-clause-fault c = subst (λ k. IfOk c.order_fault.result (λ x. IsLeast x.fault (λ n p. BreaksOrder k n p))) c.names.ensures c.order_fault.ensures.fault

pub returns-clause-reached : goal.returns-clause-reached
returns-clause-reached c = subst (λ k. IfOk c.order_fault.result (λ x. x.reached ≡ reached k)) c.names.ensures c.order_fault.ensures.reached
