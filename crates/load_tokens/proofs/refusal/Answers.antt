use Rattle.std.proofs.Common.{◌+◌, sym, ap, ◌∙◌}
use Rattle.il_syntax.specs.declared.fault.Refusal.TheVariants.{Fault}
use Rattle.il_syntax.specs.Text.{line_at}
use Rattle.load_tokens.specs.LexicalErrors.{number_of_error}
use Rattle.load_tokens.proofs.Places.{line_on}
use Rattle.load_tokens.proofs.refusal.Goals as goal

pub returns-clause-exactly : goal.returns-clause-exactly
returns-clause-exactly c =
    ap (λ n. Fault n (record { offset = c.args.misread.at; line = c.args.line + c.line_feeds.result })) c.number.ensures.number
    ∙ ap (λ l. Fault (number_of_error c.args.misread.error) (record { offset = c.args.misread.at; line = l })) (
    ap (λ n. n + c.line_feeds.result) c.requires.is_line ∙ ap (λ n. line_at c.args.text.now c.args.at + n) c.line_feeds.ensures.count
    ∙ sym (line_on c.args.text.now c.args.at c.args.misread.at c.requires.order)
    )
