use Rattle.std.proofs.Common.{option_map, ap, sym, ◌∙◌}
use Rattle.il_statics.specs.declared.standard.NamedFunction.{NamedFunction}
use Rattle.load_scope.proofs.Known.{function_is}
use Rattle.load_scope.proofs.functions.standard_function.Goals as goal

pub returns-in-Some : goal.returns-in-Some
returns-in-Some c =
    sym (ap (λ o. option_map (λ (r : NamedFunction). r.function) (option_map (λ r. r.now) o)) c.in-Some.is)
    ∙ ap (option_map (λ (r : NamedFunction). r.function)) c.row_named.ensures
    ∙ function_is c.standard_functions.result.now c.args.name.now c.standard_functions.ensures

pub returns-in-None : goal.returns-in-None
returns-in-None c =
    sym (ap (λ o. option_map (λ (r : NamedFunction). r.function) (option_map (λ r. r.now) o)) c.in-None.is)
    ∙ ap (option_map (λ (r : NamedFunction). r.function)) c.row_named.ensures
    ∙ function_is c.standard_functions.result.now c.args.name.now c.standard_functions.ensures
