use Rattle.std.proofs.Common.{◌∙◌, sym, ap, subst}
use Rattle.std.specs.Prelude.{IfSome}
use Rattle.il_statics.specs.Names.{function_named}
use Rattle.load_scope.specs.Units.{InUnit, AreInputsOf}
use Rattle.load_scope.proofs.Owned.{none_numbered, numbered}
use Rattle.load_scope.proofs.unit.UnitScope.own_inputs.Goals as goal

pub returns-in_err-number-clause-none : goal.returns-in_err-number-clause-none
returns-in_err-number-clause-none c = λ _. ap (λ (u : InUnit). function_named u.config c.args.name.now) (sym c.self.view_is) ∙ none_numbered c.self.inside.names.now c.args.name.now c.in_err-number.ensures

pub returns-clause-none : goal.returns-clause-none
returns-clause-none c = λ none. ap (λ (u : InUnit). function_named u.config c.args.name.now) (sym c.self.view_is) ∙ numbered c.self.inside.names.now c.args.name.now c.in_ok-number.number c.in_ok-number.ensures ∙ c.inputs.ensures.none none

pub returns-clause-some : goal.returns-clause-some
returns-clause-some c =
    subst (λ own. IfSome c.inputs.result (λ inputs. AreInputsOf own inputs.now))
    (sym (ap (λ (u : InUnit). function_named u.config c.args.name.now) (sym c.self.view_is) ∙ numbered c.self.inside.names.now c.args.name.now c.in_ok-number.number c.in_ok-number.ensures)) c.inputs.ensures.some
