use Rattle.std.proofs.Common.{sym, ◌∙◌, length, false, ◌≡◌, inl, inr}
use Rattle.std.proofs.str.Laws.{order}
use Rattle.load_tokens.specs.LexicalErrors.{is_inside_comment}
use Rattle.load_tokens.proofs.Exists.{past_inside}
use Rattle.load_tokens.proofs.Feeds.{plain_feeds}
use Rattle.load_tokens.proofs.comment.comment_at.Goals as goal

pub returns-then-closes_comment-clause-feeds : goal.returns-then-closes_comment-clause-feeds
returns-then-closes_comment-clause-feeds c =
    plain_feeds c.args.text.now c.args.at c.plain_end-plain.result c.requires.opening c.plain_end-plain.ensures.plain c.plain_end-plain.ensures.within.0
    (sym c.closes_comment.ensures ∙ c.if-closes_comment.true)

pub misread_at-requires-clause-stop : goal.misread_at-requires-clause-stop
misread_at-requires-clause-stop c = (
  c.inside_end-stop.ensures.within.0,
  c.inside_end-stop.ensures.inside,
  elim (order c.inside_end-stop.result (length c.args.text.now)) as (λ _. is_inside_comment c.args.text.now c.inside_end-stop.result ≡ false) [
    | inl up ↦ c.inside_end-stop.ensures.stops up
    | inr low ↦ past_inside c.args.text.now c.inside_end-stop.result low
  ],
)
