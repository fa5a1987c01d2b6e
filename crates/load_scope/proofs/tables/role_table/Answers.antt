use Rattle.std.proofs.Common.{rules, ◌∙◌, arith, subst}
use Rattle.load_scope.specs.Tables.{HasRoles}
use Rattle.load_scope.proofs.Filled.{roles_none, roles_next, take_all}
use Rattle.load_scope.proofs.tables.role_table.Goals as goal

pub loop-line-init : goal.loop-line-init
loop-line-init c = roles_none c.args.config.now c.as_slice-line-items.result.now c.new-roles.result c.new-roles.ensures

pub loop-line-preserved : goal.loop-line-preserved
loop-line-preserved c = roles_next c.args.config.now _ c.as_slice-line-items.result.now c.loop-line.line-index c.line-item.result c.loop-line.roles c.put_role.new.roles (search rules) (omega arith) c.line-item.is c.in_ok-put_role.ensures c.loop-line.invariant

pub returns : goal.returns
returns c = subst (λ l. HasRoles c.args.config.now l c.loop-line.roles) (take_all c.as_slice-line-items.result.now c.loop-line.line-index (omega arith) ∙ c.as_slice-line-items.ensures) c.loop-line.invariant
