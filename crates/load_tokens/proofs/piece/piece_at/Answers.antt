use Rattle.std.proofs.Common.{sym, ◌∙◌}
use Rattle.load_tokens.proofs.Results.{err_anyway}
use Rattle.load_tokens.proofs.ErrorLaws.{no_piece_at_comment}
use Rattle.load_tokens.proofs.Feeds.{lexeme_feeds}
use Rattle.load_tokens.proofs.Lexemes.{lexeme_within}
use Rattle.load_tokens.proofs.piece.piece_at.Goals as goal

pub returns-in-Ok-clause-within : goal.returns-in-Ok-clause-within
returns-in-Ok-clause-within c = lexeme_within c.args.text.now c.in-Ok.kind c.args.at c.in-Ok.end c.in-Ok.ensures.found

pub returns-in-Ok-clause-feeds : goal.returns-in-Ok-clause-feeds
returns-in-Ok-clause-feeds c = c.feeds_of.ensures ∙ lexeme_feeds c.args.text.now c.in-Ok.kind c.args.at c.in-Ok.end c.in-Ok.ensures.found

pub returns-in_err-end-clause-none : goal.returns-in_err-end-clause-none
returns-in_err-end-clause-none c = err_anyway c.from_residual.result _ (no_piece_at_comment c.args.text.now c.args.at (sym c.opens_comment.ensures ∙ c.if-opens_comment.true) c.in_err-end.ensures.refused)
