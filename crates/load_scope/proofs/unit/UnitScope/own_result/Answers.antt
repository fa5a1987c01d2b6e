use Rattle.std.proofs.Common.{◌∙◌, sym, ap}
use Rattle.il_syntax.specs.declared.tree.Config.{Config}
use Rattle.il_statics.specs.Names.{function_named}
use Rattle.load_scope.specs.Units.{InUnit, own_scalar}
use Rattle.load_scope.proofs.Owned.{none_numbered, none_there, there, result_none, result_there}
use Rattle.load_scope.proofs.unit.UnitScope.own_result.Goals as goal

pub returns-in_err-number : goal.returns-in_err-number
returns-in_err-number c =
    result_none c.self.inside.names.now c.args.name.now c.from_residual.result (none_numbered c.self.inside.names.now c.args.name.now c.in_err-number.ensures) c.from_residual.ensures
    ∙ ap (λ (u : InUnit). own_scalar (function_named u.config c.args.name.now)) c.self.view_is

pub returns-in_err-unit : goal.returns-in_err-unit
returns-in_err-unit c =
    result_none c.self.inside.names.now c.args.name.now c.from_residual-in_err-unit.result
    (none_there c.self.inside.names.now c.args.name.now c.in_ok-number.number c.as_slice.result.now c.in_ok-number.ensures (c.as_slice.ensures ∙ ap (λ (d : Config). d.units) c.config.ensures) c.in_err-unit.ensures.lookup.3) c.from_residual-in_err-unit.ensures
    ∙ ap (λ (u : InUnit). own_scalar (function_named u.config c.args.name.now)) c.self.view_is

pub returns : goal.returns
returns c =
    result_there c.self.inside.names.now c.args.name.now c.kind_result.result c.in_ok-unit.unit.now
    (there c.self.inside.names.now c.args.name.now c.in_ok-number.number c.as_slice.result.now c.in_ok-unit.unit.now c.in_ok-number.ensures (c.as_slice.ensures ∙ ap (λ (d : Config). d.units) c.config.ensures) c.in_ok-unit.ensures.lookup.3.0 c.in_ok-unit.ensures.lookup.1)
    c.kind_result.ensures
    ∙ ap (λ (u : InUnit). own_scalar (function_named u.config c.args.name.now)) c.self.view_is
