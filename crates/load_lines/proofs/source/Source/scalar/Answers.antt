use Rattle.load_lines.proofs.Chain.{up}
use Rattle.load_lines.proofs.Instructions.{scalar_refused}
use Rattle.load_lines.specs.declared.lead.Lead.TheVariants as lead
use Rattle.il_syntax.specs.declared.keyword.Keyword.TheVariants as word
use Rattle.std.proofs.Common.{ap, sym, ◌∙◌}
use Rattle.load_lines.proofs.Breaks.{at_first, map_breaks, part_tight, up_breaks}
use Rattle.il_syntax_laws.proofs.Samples.{scalar_sampled, subrange_sampled}
use Rattle.il_syntax_laws.proofs.Open.{word_fills}
use Rattle.load_lines.proofs.Leaves.{word_there}
use Rattle.load_lines.proofs.source.Source.scalar.Goals as goal

pub returns-in_err-subrange-clause-refused : goal.returns-in_err-subrange-clause-refused
returns-in_err-subrange-clause-refused c = up _ c.from_residual.ensures.1 (scalar_refused c.args.self.now _ _ (rw c.advance.ensures.rest at c.in_err-subrange.ensures.refused))

pub returns-in_default-clause-begins : goal.returns-in_default-clause-begins
returns-in_default-clause-begins c = at_first scalar_sampled (λ _. c.outside.ensures)

pub returns-in_err-subrange-clause-begins : goal.returns-in_err-subrange-clause-begins
returns-in_err-subrange-clause-begins c =
    up_breaks _ c.from_residual.ensures.1 (map_breaks (λ x. record { elementary = c.in-Reserved-Elementary.elementary; subrange = x }) (λ x other us r w. w)
    (part_tight (word_fills (word.Elementary c.in-Reserved-Elementary.elementary)) (record { found = word_there c.args.self.now _ _ (sym c.lead.ensures ∙ c.in-Reserved-Elementary.is ∙ ap (λ k. lead.Reserved k) c.in-Reserved-Elementary.field-0-is) }) subrange_sampled (rw c.advance.ensures.rest at c.in_err-subrange.ensures.begins)))
