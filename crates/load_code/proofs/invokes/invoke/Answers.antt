use Rattle.std.proofs.Common.{◌≡◌, ◌∙◌, ap, ap₂, subst}
use Rattle.std.specs.Prelude.{IfOk}
use Rattle.il_statics.specs.Names.{standard_function}
use Rattle.load_scope.specs.Views.{function_number}
use Rattle.load_code.specs.Resolving.{invoke_of}
use Rattle.load_code.proofs.Invoking.{invoke_is}
use Rattle.load_code.proofs.invokes.invoke.Goals as goal

pub returns : goal.returns
returns c =
    let h = c.args.here.now in
    subst (λ f. IfOk c.invoke_of.result (λ g. g ≡ f))
    (ap₂ (λ s k. invoke_of h.scope.config h.scope.unit c.args.from.now s k) (c.standard_function.ensures ∙ ap (λ t. (standard_function t)) c.as_str-name.ensures) (c.function.ensures ∙ ap₂ function_number c.names.ensures c.as_str-name.ensures)
    ∙ invoke_is h.scope.config h.checked h.scope.unit h.there c.args.function.now.name c.args.from.now)
    c.invoke_of.ensures
