use Rattle.std.proofs.Common.{rules}
use Rattle.load_tokens.proofs.ErrorLaws.{literal_error}
use Rattle.std.proofs.Common.{sym, ◌∙◌, ap, arith}
use Rattle.il_syntax.specs.Text.{byte_at, run_end, is_word_byte, is_literal_byte}
use Rattle.load_tokens.proofs.Lexemes.{word_is_word}
use Rattle.load_tokens.proofs.Places.{run_some}
use Rattle.load_tokens.proofs.Results.{err_anyway}
use Rattle.load_tokens.proofs.Literals.{no_typed_lexeme}
use Rattle.load_tokens.proofs.lexeme.word_at.Goals as goal

pub returns-in_err-literal-clause-no_literal : goal.returns-in_err-literal-clause-no_literal
returns-in_err-literal-clause-no_literal c =
    err_anyway c.from_residual.result _
    (no_typed_lexeme c.args.text.now c.args.at c.word_end-end.result c.literal_end-literal_end.result c.word_end-end.ensures.longest
    (c.literal_end-literal_end.ensures.longest ∙ ap (run_end is_literal_byte c.args.text.now) c.after_minus.ensures.place) c.in_err-literal.ensures.refused)

pub returns-then-byte_at-eq35-clause-found : goal.returns-then-byte_at-eq35-clause-found
returns-then-byte_at-eq35-clause-found c = (
  c.word_end-end.result,
  c.requires.begins,
  c.word_end-end.ensures.longest,
  sym c.byte_at.ensures ∙ c.if-byte_at-eq35.true,
  c.literal_end-literal_end.ensures.longest ∙ ap (run_end is_literal_byte c.args.text.now) c.after_minus.ensures.place,
  c.in_ok-literal.ensures.found,
)

pub is_identifier_at-requires : goal.is_identifier_at-requires
is_identifier_at-requires c = record {
  inside = (
    omega (arith, c.word_end-end.ensures.longest, run_some is_word_byte c.args.text.now c.args.at c.requires.inside (word_is_word (byte_at c.args.text.now c.args.at) c.requires.begins)),
    c.word_end-end.ensures.within,
  );
  pass = c.seen_end-seen.ensures.pass;
}

pub returns-in_err-literal-clause-error : goal.returns-in_err-literal-clause-error
returns-in_err-literal-clause-error c =
    let same =
    literal_error c.args.text.now c.args.at c.word_end-end.result c.literal_end-literal_end.result c.requires.begins c.word_end-end.ensures.longest
    (sym c.byte_at.ensures ∙ c.if-byte_at-eq35.true) (c.literal_end-literal_end.ensures.longest ∙ ap (run_end is_literal_byte c.args.text.now) c.after_minus.ensures.place) in
    let error = c.in_err-literal.ensures.error ∙ same in
    search rules
