use Rattle.std.proofs.Common.{◌∙◌, arith, subst}
use Rattle.load_scope.specs.Tables.{AreScopes}
use Rattle.load_scope.proofs.Filled.{scopes_none, scopes_next, take_all}
use Rattle.load_scope.proofs.tables.scopes.Goals as goal

pub loop-unit-init : goal.loop-unit-init
loop-unit-init c = scopes_none c.args.config.now c.as_slice-unit-items.result.now c.new-scopes.result c.new-scopes.ensures

pub loop-unit-preserved : goal.loop-unit-preserved
loop-unit-preserved c = scopes_next c.args.config.now c.as_slice-unit-items.result.now c.loop-unit.unit-index c.unit-item.result c.in_ok-scope_of.field-0 c.loop-unit.scopes c.push.new.self (omega arith) c.unit-item.is c.in_ok-push.ensures.ok c.in_ok-scope_of.ensures c.loop-unit.invariant

pub returns : goal.returns
returns c = subst (λ l. AreScopes c.args.config.now l c.loop-unit.scopes) (take_all c.as_slice-unit-items.result.now c.loop-unit.unit-index (omega arith) ∙ c.as_slice-unit-items.ensures) c.loop-unit.invariant
