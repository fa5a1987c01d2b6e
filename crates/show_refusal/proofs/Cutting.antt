-- Texts in lines, by their line feeds.
use Rattle.std.proofs.Common.{arith, ◌≡◌, ℕ, ◌<◌, List, [], ◌∷◌, length, sym, ap, ◌∙◌}
use Rattle.std.specs.List.{position_or_len, before_first, after_first}
use Rattle.std.proofs.lemmas.List.Sums.{fails_before_first}
use Rattle.std.proofs.lemmas.List.Splits.{slice_split_none, slice_split_first}
use Rattle.show_refusal.specs.Pieces.{is_feed, lines_of}

module _ (text : List ℕ) where
  -- a text without a line feed is its one line
  pub one_line : position_or_len is_feed text ≡ length text → lines_of text ≡ text ∷ []
  one_line e = slice_split_none is_feed text (λ k d low. fails_before_first is_feed text k d (omega (arith, e, low)))

  -- and another begins with what comes before the first
  pub line_before : (first rest : List ℕ) → position_or_len is_feed text < length text → first ≡ before_first is_feed text → rest ≡ after_first is_feed text → lines_of text ≡ first ∷ lines_of rest
  line_before first rest low is_first is_rest =
      slice_split_first is_feed text 0 low ∙ ap (λ x. x ∷ lines_of (after_first is_feed text)) (sym is_first) ∙ ap (λ r. first ∷ lines_of r) (sym is_rest)
