use Rattle.std.proofs.Common.{◌≡◌, ◌∙◌, ap, subst}
use Rattle.std.specs.Prelude.{IfOk}
use Rattle.load_code.specs.Resolving.{known, call_of}
use Rattle.load_code.proofs.Calling.{call_is}
use Rattle.load_code.proofs.calls.call.Goals as goal

pub returns : goal.returns
returns c =
    let h = c.args.here.now in
    subst (λ f. IfOk c.call_of.result (λ g. g ≡ f))
    (ap (call_of h.scope.config h.scope.unit c.args.condition c.args.arguments.now) (c.known-known.ensures.is ∙ ap (known h.scope.config h.scope.unit) c.as_str.ensures) ∙ call_is h.scope.config h.checked h.scope.unit h.there c.args.condition c.args.instance.now.name c.args.arguments.now)
    c.call_of.ensures
