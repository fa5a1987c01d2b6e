-- The ends of the rounds that a word says.
use Rattle.std.proofs.Common.{◌≡◌, ◌≤◌, ◌<◌, ℕ, List, [], ◌∷◌, length, refl, sym, ap, ◌∙◌, subst, arith}
use Rattle.std.specs.List.{join_with_byte, position_or_len}
use Rattle.std.proofs.lemmas.List.Splits.{join_with_byte-slice_split}
use Rattle.show_picture.specs.declared.span.Span.{Span}
use Rattle.cli_host.specs.Presses.{parts_of}
use Rattle.cli_host.proofs.Parts.{is_colon, of_digits, one_part}
use Rattle.cli_output.specs.Spans.{IsEnd, IsSpan, greatest_round}

heads : {x y : List ℕ} {xs ys : List (List ℕ)} → x ∷ xs ≡ y ∷ ys → (x ≡ y) × (xs ≡ ys)
heads e = (cc, cc)

never_more : {x : List ℕ} {xs : List (List ℕ)} → x ∷ xs ≡ [] → ⊥
never_more e = cc

alone : (word part : List ℕ) → parts_of word ≡ part ∷ [] → word ≡ part
alone word part e = sym (join_with_byte-slice_split 58 word) ∙ ap (join_with_byte 58) e

-- a word without a colon says no rounds
pub no_colon : (word : List ℕ) → position_or_len is_colon word ≡ length word → (span : Span) → IsSpan word span → ⊥
no_colon word none span is = never_more (heads (sym is.parts ∙ one_part word none)).1

module _ (word first last : List ℕ) (cut : parts_of word ≡ first ∷ parts_of last) where
  -- what comes before its first colon and after it are the ends
  first_is : (span : Span) → (is : IsSpan word span) → is.first ≡ first
  first_is span is = (heads (sym is.parts ∙ cut)).0

  last_is : (span : Span) → (is : IsSpan word span) → is.last ≡ last
  last_is span is = sym (alone last is.last (sym (heads (sym is.parts ∙ cut)).1))

  from_is : (span : Span) → IsSpan word span → IsEnd 1 first span.first
  from_is span is = subst (λ (l : List ℕ). IsEnd 1 l span.first) (first_is span is) is.from

  to_is : (span : Span) → IsSpan word span → IsEnd greatest_round last span.last
  to_is span is = subst (λ (l : List ℕ). IsEnd greatest_round l span.last) (last_is span is) is.to

  pub no_first : ((n : ℕ) → IsEnd 1 first n → ⊥) → (span : Span) → IsSpan word span → ⊥
  no_first none span is = none span.first (from_is span is)

  pub no_last : ((n : ℕ) → IsEnd greatest_round last n → ⊥) → (span : Span) → IsSpan word span → ⊥
  no_last none span is = none span.last (to_is span is)

  same_end : (missing : ℕ) (text : List ℕ) (n m : ℕ) → IsEnd missing text n → IsEnd missing text m → n ≡ m
  same_end missing [] n m a b = a ∙ sym b
  same_end missing (x ∷ xs) n m a b = sym a.value ∙ b.value

  pub no_order : (n m : ℕ) → IsEnd 1 first n → IsEnd greatest_round last m → m < n → (span : Span) → IsSpan word span → ⊥
  no_order n m a b high span is =
      let e : n ≡ span.first = same_end 1 first n span.first a (from_is span is) in
      let f : m ≡ span.last = same_end greatest_round last m span.last b (to_is span is) in
      let low = is.ordered in omega (arith, e, f, low, high)

  last_alone : (text : List ℕ) (n : ℕ) → IsEnd greatest_round text n → parts_of text ≡ text ∷ []
  last_alone [] n is = refl
  last_alone (x ∷ xs) n is = of_digits (x ∷ xs) is.digits

  pub span_is : (n m : ℕ) → IsEnd 1 first n → IsEnd greatest_round last m → 2 ≤ length word → n ≤ m → IsSpan word (record { first = n; last = m })
  span_is n m a b some low = record { first = first; last = last; parts = cut ∙ ap (λ (l : List (List ℕ)). first ∷ l) (last_alone last m b); some = some; from = a; to = b; ordered = low }
