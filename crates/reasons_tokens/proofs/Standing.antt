-- Kinds that can be at a place, one more at a time.
use Rattle.std.proofs.Common.{◌≡◌, ℕ, ◌+◌, ◌<◌, ◌≤◌, List, [], ◌∷◌, ◌++◌, length, map, take, slice_get, refl, sym, ap, subst, ◌∙◌, Some, inl, inr, get_or, length-append, arith}
use Rattle.std.proofs.lemmas.Option.{slice_get-get_or}
use Rattle.std.proofs.lemmas.List.{map-append, length-map}
use Rattle.il_syntax.specs.declared.token.Token.{Token}
use Rattle.il_syntax.specs.declared.tree.Place.{Place}
use Rattle.reasons_tokens.specs.declared.expected.Expected.{Expected}
use Rattle.reasons_tokens.specs.ExpectedKinds.{ExpectedKind, kind_of, expected_kinds}
use Rattle.reasons_tokens.specs.Instead.{instead_lines}
use Rattle.reasons_tokens.specs.LeftOut.{left_out_lines}
use Rattle.reasons_tokens.specs.Parentheses.{open_lines}
use Rattle.reasons_tokens.specs.TokenReasons.{IsOfLanguage, going_on, CanStand, CanStandOf, token_at, found_line, expected_line, AreToldOfToken, AddsKind}
use Rattle.reasons_names.proofs.TypeTexts.{take_next}

-- the next kind is left out
left_out : (text : List ℕ) (offset : ℕ) (kinds all : List ExpectedKind) (next : ExpectedKind) → CanStandOf text offset kinds all → CanStandOf text offset kinds (all ++ next ∷ [])
left_out text offset [] [] next can = tt
left_out text offset (k ∷ kinds) [] next can = let no : k ∷ kinds ≡ [] = can in cc
left_out text offset [] (a ∷ all) next can = tt
left_out text offset (k ∷ kinds) (a ∷ all) next (inl here) = inl (here.0, here.1, left_out text offset kinds all next here.2)
left_out text offset (k ∷ kinds) (a ∷ all) next (inr later) = inr (left_out text offset (k ∷ kinds) all next later)

-- it is the only one
alone : (text : List ℕ) (offset : ℕ) (all : List ExpectedKind) (next : ExpectedKind) → CanStand text offset next → CanStandOf text offset (next ∷ []) (all ++ next ∷ [])
alone text offset [] next stands = inl (refl, stands, refl)
alone text offset (a ∷ all) next stands = inr (alone text offset all next stands)

-- it is reported
taken : (text : List ℕ) (offset : ℕ) (kinds all : List ExpectedKind) (next : ExpectedKind) → CanStand text offset next → CanStandOf text offset kinds all
    → CanStandOf text offset (kinds ++ next ∷ []) (all ++ next ∷ [])
taken text offset [] all next stands can = alone text offset all next stands
taken text offset (k ∷ kinds) [] next stands can = let no : k ∷ kinds ≡ [] = can in cc
taken text offset (k ∷ kinds) (a ∷ all) next stands (inl here) = inl (here.0, here.1, taken text offset kinds all next stands here.2)
taken text offset (k ∷ kinds) (a ∷ all) next stands (inr later) = inr (taken text offset (k ∷ kinds) all next stands later)

-- the kinds of a table, one more
more_kinds : (all : List Expected) (i : ℕ) (row : Expected) → slice_get all i ≡ Some row → map kind_of (take (i + 1) all) ≡ map kind_of (take i all) ++ kind_of row ∷ []
more_kinds all i row there = ap (map kind_of) (take_next all i row there) ∙ map-append kind_of (take i all) (row ∷ [])

one_left_out : (text : List ℕ) (offset : ℕ) (kinds all : List Expected) (i : ℕ) (row : Expected) → slice_get all i ≡ Some row
    → CanStandOf text offset (map kind_of kinds) (map kind_of (take i all)) → CanStandOf text offset (map kind_of kinds) (map kind_of (take (i + 1) all))
one_left_out text offset kinds all i row there can =
    subst (λ rows. CanStandOf text offset (map kind_of kinds) rows) (sym (more_kinds all i row there)) (left_out text offset (map kind_of kinds) (map kind_of (take i all)) (kind_of row) can)

one_taken : (text : List ℕ) (offset : ℕ) (kinds new all : List Expected) (i : ℕ) (row : Expected) → slice_get all i ≡ Some row → new ≡ kinds ++ row ∷ []
    → CanStand text offset (kind_of row) → CanStandOf text offset (map kind_of kinds) (map kind_of (take i all)) → CanStandOf text offset (map kind_of new) (map kind_of (take (i + 1) all))
one_taken text offset kinds new all i row there added stands can =
    subst (λ told. CanStandOf text offset told (map kind_of (take (i + 1) all))) (sym (ap (map kind_of) added ∙ map-append kind_of kinds (row ∷ [])))
    (subst (λ rows. CanStandOf text offset (map kind_of kinds ++ kind_of row ∷ []) rows) (sym (more_kinds all i row there)) (taken text offset (map kind_of kinds) (map kind_of (take i all)) (kind_of row) stands can))

-- the row that is there, more or not
pub one_more_row : (text : List ℕ) (offset : ℕ) (kinds new all : List Expected) (i : ℕ) (any : Expected) → i < length all → AddsKind text offset (get_or all i any) kinds new
    → length kinds ≤ 8 → CanStandOf text offset (map kind_of kinds) (map kind_of (take i all)) → (length new ≤ 8) × CanStandOf text offset (map kind_of new) (map kind_of (take (i + 1) all))
one_more_row text offset kinds new all i any low (inl same) few can =
    (subst (λ (ks : List Expected). length ks ≤ 8) (sym same) few, subst (λ (ks : List Expected). CanStandOf text offset (map kind_of ks) (map kind_of (take (i + 1) all))) (sym same) (one_left_out text offset kinds all i (get_or all i any) (slice_get-get_or all i any low) can))
one_more_row text offset kinds new all i any low (inr added) few can =
    (subst (λ (ks : List Expected). length ks ≤ 8) (sym added.2) (one_longer kinds (get_or all i any) added.0), one_taken text offset kinds new all i (get_or all i any) (slice_get-get_or all i any low) added.2 added.1 can)
  where
    one_longer : (ks : List Expected) (k : Expected) → length ks < 8 → length (ks ++ k ∷ []) ≤ 8
    one_longer ks k short = simp length-append (omega arith)

-- a text of the language that goes on from a place
pub stands : (text : List ℕ) (offset : ℕ) (kind : ExpectedKind) (rest whole : List ℕ) → whole ≡ going_on text offset kind rest → (kind.sample ≡ [] → rest ≡ []) → IsOfLanguage whole → CanStand text offset kind
stands text offset kind rest whole is ends spelled = record { rest = rest; spelled = subst IsOfLanguage is spelled; ends = ends }

-- what is reported of a token: what is there, then the kinds, what is left out, what to write instead, and what is open
pub all_told : (text : List ℕ) (tokens : List Token) (place : Place) (rows shown : List Expected) (start found kinds out instead lines : List ℕ) → shown ≡ rows → length rows ≤ 8 → CanStandOf text place.offset (map kind_of rows) expected_kinds
    → start ≡ [] → found ≡ start ++ found_line text place.offset (token_at place.offset tokens) → kinds ≡ found ++ expected_line (map kind_of shown)
    → out ≡ kinds ++ left_out_lines text tokens (token_at place.offset tokens) place.offset → instead ≡ out ++ instead_lines text tokens (token_at place.offset tokens) place
    → lines ≡ instead ++ open_lines tokens place → AreToldOfToken text tokens place lines
all_told text tokens place rows shown start found kinds out instead lines same few can empty first last left other more =
    record {
      kinds = map kind_of rows;
      few = subst (λ n. n ≤ 8) (sym (length-map rows kind_of)) few;
      can = can;
      are = more ∙ ap (λ l. l ++ open_lines tokens place)
          (other ∙ ap (λ l. l ++ instead_lines text tokens (token_at place.offset tokens) place)
          (left ∙ ap (λ l. l ++ left_out_lines text tokens (token_at place.offset tokens) place.offset)
          (last ∙ ap (λ (ks : List Expected). found ++ expected_line (map kind_of ks)) same
          ∙ ap (λ l. l ++ expected_line (map kind_of rows)) (first ∙ ap (λ l. l ++ found_line text place.offset (token_at place.offset tokens)) empty))));
    }
