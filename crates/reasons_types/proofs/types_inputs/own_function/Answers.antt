use Rattle.std.proofs.Common.{ap, sym, ◌∙◌}
use Rattle.std.specs.Option.{option_copied}
use Rattle.il_syntax.specs.declared.tree.Config.{Config}
use Rattle.load_scope.proofs.Owned.{none_numbered, none_there, there}
use Rattle.reasons_types.proofs.types_inputs.own_function.Goals as goal

pub returns-in_err-number : goal.returns-in_err-number
returns-in_err-number c = ap option_copied c.from_residual.ensures ∙ sym (none_numbered c.args.names.now c.args.name.now c.in_err-number.ensures)

pub returns-in_err-unit : goal.returns-in_err-unit
returns-in_err-unit c =
    ap option_copied c.from_residual-in_err-unit.ensures
    ∙ sym (none_there c.args.names.now c.args.name.now c.in_ok-number.number c.as_slice.result.now c.in_ok-number.ensures (c.as_slice.ensures ∙ ap (λ (d : Config). d.units) c.config.ensures) c.in_err-unit.ensures.lookup.3)

pub returns : goal.returns
returns c =
    sym (there c.args.names.now c.args.name.now c.in_ok-number.number c.as_slice.result.now c.in_ok-unit.unit.now c.in_ok-number.ensures (c.as_slice.ensures ∙ ap (λ (d : Config). d.units) c.config.ensures) c.in_ok-unit.ensures.lookup.3.0 c.in_ok-unit.ensures.lookup.1)
