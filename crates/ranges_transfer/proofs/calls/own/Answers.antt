use Rattle.std.proofs.Common.{sym, ap, ◌∙◌}
use Rattle.ranges_laws.specs.Found.{provided}
use Rattle.il_statics.specs.Names.{function_named}
use Rattle.ranges_transfer.specs.Scopes.{result_by}
use Rattle.ranges_transfer.proofs.Inputs.{own_is}
use Rattle.ranges_transfer.proofs.calls.own.Goals as goal

pub returns-then-fit_all : goal.returns-then-fit_all
returns-then-fit_all g c =
    let n = g.S.Scope.names c.args.scope.now in
    c.own_result.ensures ∙ sym (own_is n c.args.row.now (function_named n.config c.args.name.now) c.in_ok-inputs.inputs.now c.args.operands.now c.args.first c.in_ok-first.field-0 c.fit_all.result c.in_ok-inputs.ensures.some c.in_ok-first.was c.fit_all.ensures ∙ ap (λ t. provided t (result_by (function_named n.config c.args.name.now))) c.if-fit_all.true)

pub returns-else-fit_all : goal.returns-else-fit_all
returns-else-fit_all g c =
    let n = g.S.Scope.names c.args.scope.now in
    sym (own_is n c.args.row.now (function_named n.config c.args.name.now) c.in_ok-inputs.inputs.now c.args.operands.now c.args.first c.in_ok-first.field-0 c.fit_all.result c.in_ok-inputs.ensures.some c.in_ok-first.was c.fit_all.ensures ∙ ap (λ t. provided t (result_by (function_named n.config c.args.name.now))) c.if-fit_all.false)
