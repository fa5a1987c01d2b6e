-- Blanks: where they are, that no two begin at one place, and that no token begins where a blank does.
use Rattle.std.proofs.Common.{◌≡◌, ℕ, ◌+◌, ◌-◌, ◌<◌, ◌≤◌, Bool, true, List, length, arith, sym, ap, refl, ◌∙◌, inl, inr, None}
use Rattle.std.specs.Prelude.{◌==◌, ◌||◌, ◌&&◌, not}
use Rattle.std.proofs.str.Laws.{order}
use Rattle.std.proofs.lemmas.Bool.{cases_order}
use Rattle.std.proofs.lemmas.Bool.Decides.{nat_tests}
use Rattle.std.proofs.lemmas.List.{get_or_past}
use Rattle.il_syntax.specs.declared.token.Kind.{Kind}
use Rattle.il_syntax.specs.declared.token.Kind.TheVariants.{Word, Number, Typed, Sign as Signed, LineEnd}
use Rattle.il_syntax.specs.Text.{byte_at, opens_comment, closes_comment, IsComment, IsBlank, IsLexeme, space, tab}
use Rattle.load_tokens.proofs.Places.{in_text}
use Rattle.load_tokens.proofs.Signs.{sign_from, sign_is, rank}
use Rattle.load_tokens.proofs.Lexemes.{lexeme_rank, kind_rank}

-- the bytes of `(*`
pub opened : (text : List ℕ) (i : ℕ) → opens_comment text i ≡ true → (byte_at text i ≡ 40) × (byte_at text (i + 1) ≡ 42)
opened text i h = (grind (arith, nat_tests), grind (arith, nat_tests))

-- the bytes of `*)`
pub closed : (text : List ℕ) (i : ℕ) → closes_comment text i ≡ true → (byte_at text i ≡ 42) × (byte_at text (i + 1) ≡ 41)
closed text i h = (grind (arith, nat_tests), grind (arith, nat_tests))

-- a space or a tab has the rank of blanks
pub space_rank : (b : ℕ) → (b == space || b == tab) ≡ true → rank b ≡ 4
space_rank b h = grind (arith, nat_tests)

kind_is_no_blank : (kind : Kind) → kind_rank kind ≡ 4 → ⊥
kind_is_no_blank Word e = omega (arith, e)
kind_is_no_blank (Number v) e = omega (arith, e)
kind_is_no_blank (Typed l) e = omega (arith, e)
kind_is_no_blank (Signed s) e = omega (arith, e)
kind_is_no_blank LineEnd e = omega (arith, e)

-- no token begins at a space or a tab
pub no_lexeme_at_space : (text : List ℕ) (i : ℕ) → (byte_at text i == space || byte_at text i == tab) ≡ true → (kind : Kind) (j : ℕ) → IsLexeme text kind i j → ⊥
no_lexeme_at_space text i h kind j l = kind_is_no_blank kind (sym (lexeme_rank text kind i j l) ∙ space_rank (byte_at text i) h)

parenthesis_rank : (text : List ℕ) (kind : Kind) (i j : ℕ) → byte_at text i ≡ 40 → IsLexeme text kind i j → kind_rank kind ≡ 5
parenthesis_rank text kind i j e h = sym (lexeme_rank text kind i j h) ∙ ap rank e

-- no token begins where a comment does
pub no_lexeme_at_comment : (text : List ℕ) (i : ℕ) → opens_comment text i ≡ true → (kind : Kind) (j : ℕ) → IsLexeme text kind i j → ⊥
no_lexeme_at_comment text i o (Signed s) j h =
    let bytes = opened text i o in
    let none : sign_from (byte_at text i) (byte_at text (i + 1)) ≡ None = rw (bytes.0, bytes.1) refl in
    let some = sign_is text s i j h in
    cc
no_lexeme_at_comment text i o Word j h = omega (arith, parenthesis_rank text Word i j (opened text i o).0 h)
no_lexeme_at_comment text i o (Number v) j h = omega (arith, parenthesis_rank text (Number v) i j (opened text i o).0 h)
no_lexeme_at_comment text i o (Typed l) j h = omega (arith, parenthesis_rank text (Typed l) i j (opened text i o).0 h)
no_lexeme_at_comment text i o LineEnd j h = omega (arith, parenthesis_rank text LineEnd i j (opened text i o).0 h)

-- no token begins where a blank does
pub no_lexeme_at_blank : (text : List ℕ) (i k : ℕ) → IsBlank text i k → (kind : Kind) (j : ℕ) → IsLexeme text kind i j → ⊥
no_lexeme_at_blank text i k (inl h) kind j l = no_lexeme_at_space text i h.1 kind j l
no_lexeme_at_blank text i k (inr h) kind j l = no_lexeme_at_comment text i h.opening kind j l

-- a blank is not empty, and is within the text
pub blank_within : (text : List ℕ) (i j : ℕ) → IsBlank text i j → (i < j) × (j ≤ length text)
blank_within text i j (inl h) =
    let inside : i < length text = elim (order i (length text)) as (λ _. i < length text) [
      | inl up ↦ omega arith
      | inr low ↦ let r : 5 ≡ 4 = ap rank (sym (get_or_past text i 0 low)) ∙ space_rank (byte_at text i) h.1 in absurd (omega (arith, r))
    ] in
    (omega (arith, h.0), omega (arith, h.0))
blank_within text i j (inr h) =
    let last = (closed text (j - 2) h.closing).1 in
    let inside : j - 2 + 1 < length text = in_text text (j - 2 + 1) 41 last (λ e. omega (arith, e)) in
    let apart = h.apart in
    (omega arith, omega arith)

-- nothing begins at the end of the text
pub no_blank_at_end : (text : List ℕ) (i j : ℕ) → length text ≤ i → IsBlank text i j → ⊥
no_blank_at_end text i j past h = let within = blank_within text i j h in omega arith

-- a space or a tab opens no comment
pub space_is_no_comment : (text : List ℕ) (i : ℕ) → (byte_at text i == space || byte_at text i == tab) ≡ true → opens_comment text i ≡ true → ⊥
space_is_no_comment text i h o =
    let r : 5 ≡ 4 = ap rank (sym (opened text i o).0) ∙ space_rank (byte_at text i) h in
    omega (arith, r)

no_two_closings : (a b c : Bool) → (a && (not b && not c)) ≡ true → c ≡ true → ⊥
no_two_closings a b c h e = grind arith

-- of two comments that begin at one place, neither ends before the other
not_before : (text : List ℕ) (i j m : ℕ) → IsComment text i j → IsComment text i m → j < m → ⊥
not_before text i j m h g less =
    let apart = h.apart in
    no_two_closings _ _ _ (g.inside (j - 2) (omega arith) (omega arith)) h.closing

-- no two comments begin at one place
pub comment_unique : (text : List ℕ) (i j m : ℕ) → IsComment text i j → IsComment text i m → j ≡ m
comment_unique text i j m h g = elim (cases_order j m) [
  | inl same ↦ same
  | inr (inl less) ↦ absurd (not_before text i j m h g less)
  | inr (inr more) ↦ absurd (not_before text i m j g h more)
]

-- no two blanks begin at one place
pub blank_unique : (text : List ℕ) (i j m : ℕ) → IsBlank text i j → IsBlank text i m → j ≡ m
blank_unique text i j m (inl h) (inl g) = h.0 ∙ sym g.0
blank_unique text i j m (inr h) (inr g) = comment_unique text i j m h g
blank_unique text i j m (inl h) (inr g) = absurd (space_is_no_comment text i h.1 g.opening)
blank_unique text i j m (inr h) (inl g) = absurd (space_is_no_comment text i g.1 h.opening)
