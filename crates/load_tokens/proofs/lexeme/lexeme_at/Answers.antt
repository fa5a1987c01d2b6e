use Rattle.std.proofs.Common.{sym, ◌∙◌, ap}
use Rattle.std.specs.Char.{is_ascii_digit}
use Rattle.il_syntax.specs.Text.{begins_word, byte_at}
use Rattle.load_tokens.proofs.Results.{if_err, if_err_both}
use Rattle.load_tokens.proofs.Lexemes.{only_words, only_numbers, only_signs}
use Rattle.load_tokens.proofs.lexeme.lexeme_at.Goals as goal

pub returns-then-begins_word-clause-none : goal.returns-then-begins_word-clause-none
returns-then-begins_word-clause-none c =
    if_err_both c.word_at.result _ _ _ (λ _ no_word no_literal. only_words c.args.text.now c.args.at (ap begins_word (sym c.byte_at.ensures) ∙ sym c.if-begins_word.ensures) no_word no_literal)
    c.word_at.ensures.no_word c.word_at.ensures.no_literal

pub returns-then-is_ascii_digit-clause-none : goal.returns-then-is_ascii_digit-clause-none
returns-then-is_ascii_digit-clause-none c =
    if_err c.number_at.result _ _
    (λ _ none. only_numbers c.args.text.now c.args.at (ap is_ascii_digit (ap (byte_at c.args.text.now) (sym c.after_minus.ensures.place) ∙ sym c.byte_at-2.ensures) ∙ sym c.if-is_ascii_digit.ensures.value) none)
    c.number_at.ensures.none

pub returns-in-None-clause-none : goal.returns-in-None-clause-none
returns-in-None-clause-none c =
    only_signs c.args.text.now c.args.at (ap begins_word (sym c.byte_at.ensures) ∙ sym c.if-begins_word.ensures)
    (ap is_ascii_digit (ap (byte_at c.args.text.now) (sym c.after_minus.ensures.place) ∙ sym c.byte_at-2.ensures) ∙ sym c.if-is_ascii_digit.ensures.value)
    c.in-None.ensures.no_sign c.in-None.ensures.no_line_end
