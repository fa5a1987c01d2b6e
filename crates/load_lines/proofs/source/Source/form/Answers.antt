use Rattle.std.proofs.Common.{sym, ap, ◌∙◌}
use Rattle.load_lines.specs.declared.lead.Lead.TheVariants as lead
use Rattle.load_lines.proofs.Chain.{up}
use Rattle.load_lines.proofs.Alternatives.{scalar_form, array_form}
use Rattle.il_syntax.specs.declared.tree.Form.TheVariants as form
use Rattle.load_lines.proofs.Breaks.{at_first, map_breaks, up_breaks}
use Rattle.il_syntax_laws.proofs.Samples.{form_sampled}
use Rattle.load_lines.proofs.source.Source.form.Goals as goal

pub returns-in_err-scalar-in-Reserved-Elementary-clause-refused : goal.returns-in_err-scalar-in-Reserved-Elementary-clause-refused
returns-in_err-scalar-in-Reserved-Elementary-clause-refused c =
    up _ c.from_residual.ensures.1
    (scalar_form c.args.self.now _ _ _ (sym c.lead.ensures ∙ c.in-Reserved-Elementary.is ∙ ap (λ k. lead.Reserved k) c.in-Reserved-Elementary.field-0-is) c.in_err-scalar-in-Reserved-Elementary.ensures.refused)

pub returns-in_err-bounds-in-Reserved-Array-clause-refused : goal.returns-in_err-bounds-in-Reserved-Array-clause-refused
returns-in_err-bounds-in-Reserved-Array-clause-refused c =
    up _ c.from_residual-in_err-bounds-in-Reserved-Array.ensures.1
    (array_form c.args.self.now _ _ (sym c.lead.ensures ∙ c.in-Reserved-Array.is ∙ ap (λ k. lead.Reserved k) c.in-Reserved-Array.field-0-is) c.in_err-bounds-in-Reserved-Array.ensures.refused)

pub returns-in_err-scalar-in-Reserved-Elementary-clause-begins : goal.returns-in_err-scalar-in-Reserved-Elementary-clause-begins
returns-in_err-scalar-in-Reserved-Elementary-clause-begins c = up_breaks _ c.from_residual.ensures.1 (map_breaks (λ x. form.Scalar x) (λ x other us r w. w) c.in_err-scalar-in-Reserved-Elementary.ensures.begins)

pub returns-in_err-bounds-in-Reserved-Array-clause-begins : goal.returns-in_err-bounds-in-Reserved-Array-clause-begins
returns-in_err-bounds-in-Reserved-Array-clause-begins c = up_breaks _ c.from_residual-in_err-bounds-in-Reserved-Array.ensures.1 (map_breaks (λ x. form.Array x.0 x.1) (λ x other us r w. w) c.in_err-bounds-in-Reserved-Array.ensures.begins)

pub returns-in_err-name-in-Name-clause-begins : goal.returns-in_err-name-in-Name-clause-begins
returns-in_err-name-in-Name-clause-begins c = up_breaks _ c.from_residual-in_err-name-in-Name.ensures.1 (at_first form_sampled c.in_err-name-in-Name.ensures.first)

pub returns-in_default-clause-begins : goal.returns-in_default-clause-begins
returns-in_default-clause-begins c = at_first form_sampled (λ _. c.outside.ensures)
