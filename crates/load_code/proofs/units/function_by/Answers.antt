use Rattle.std.proofs.Common.{◌≡◌, ◌∙◌, sym, ap, Some}
use Rattle.il_syntax.specs.declared.tree.Unit.{Unit as ProgramUnit}
use Rattle.il_syntax.specs.declared.tree.UnitKind.TheVariants.{Function}
use Rattle.load_slots.specs.Flattened.{function_by}
use Rattle.load_slots.specs.Program.{program_names}
use Rattle.load_code.proofs.Functions.{function_is}
use Rattle.load_code.proofs.units.function_by.Goals as goal

pub returns-in_ok-function_code-in-Function : goal.returns-in_ok-function_code-in-Function
returns-in_ok-function_code-in-Function c =
    let h = c.args.here.now in
    let kind : h.scope.unit.kind ≡ Function c.in-Function.field-0 c.in-Function.field-1 = sym (ap (λ (u : ProgramUnit). u.kind) c.tree.ensures) ∙ c.in-Function.is in
    ap Some (c.in_ok-function_code-in-Function.ensures ∙ function_is h.scope.config h.checked h.scope.unit h.there c.in-Function.field-0 c.in-Function.field-1 kind)
    ∙ ap (function_by (program_names h.scope.config h.scope.unit.name.name) h.scope.config h.scope.unit) (sym kind)
