-- What is wrong with what is no token.
use Rattle.std.proofs.Common.{◌≡◌, ℕ, ◌+◌, true, List, Option, Some, None, refl, ap, sym, ◌∙◌, inl, inr}
use Rattle.std.specs.Prelude.{◌==◌, option_map, slice_range}
use Rattle.il_syntax.specs.declared.tree.Elementary.TheVariants.{Time as Duration}
use Rattle.il_syntax.specs.Text.{byte_at, begins_word, hash, is_word_byte, is_literal_byte, run_end, after_minus, duration_value, entry_of, duration_words, upper_case, opens_comment, IsComment}
use Rattle.load_tokens.specs.declared.piece.Piece.TheVariants.{Blank, Token}
use Rattle.load_tokens.specs.Pieces.{HasNoPiece}
use Rattle.load_tokens.specs.LexicalErrors.{form_or_size, error_behind, typed_error, lexeme_error}
use Rattle.load_tokens.proofs.Lexemes.{no_type}
use Rattle.load_tokens.proofs.Blanks.{no_lexeme_at_comment, space_is_no_comment}

-- a mapped value is there where the value is
pub form_map : {A B : Type 0} (f : A → B) (o : Option A) → form_or_size (option_map f o) ≡ form_or_size o
form_map f None = refl
form_map f (Some x) = refl

-- a word of a duration
pub typed_duration : (word bytes : List ℕ) → entry_of duration_words word ≡ Some Duration → typed_error word bytes ≡ form_or_size (duration_value bytes)
typed_duration word bytes h =
    ap (λ o. error_behind o (entry_of duration_words word) bytes) (no_type word h) ∙ ap (λ o. error_behind None o bytes) h

-- `#` after a word
pub literal_error : (text : List ℕ) (i k j : ℕ) → begins_word (byte_at text i) ≡ true → k ≡ run_end is_word_byte text i → byte_at text k ≡ 35
    → j ≡ run_end is_literal_byte text (after_minus text (k + 1)) → typed_error (upper_case (slice_range text i k)) (slice_range text (k + 1) j) ≡ lexeme_error text i
literal_error text i k j begins run hashed end =
    let test : (byte_at text (run_end is_word_byte text i) == hash) ≡ true = ap (λ x. byte_at text x == hash) (sym run) ∙ ap (λ b. b == hash) hashed in
    rw (begins, test, end, run) refl

-- where a comment opens and none is, nothing begins
pub no_piece_at_comment : (text : List ℕ) (i : ℕ) → opens_comment text i ≡ true → ((end : ℕ) → IsComment text i end → ⊥) → HasNoPiece text i
no_piece_at_comment text i o none Blank j (inl h) = space_is_no_comment text i h.1 o
no_piece_at_comment text i o none Blank j (inr h) = none j h
no_piece_at_comment text i o none (Token kind) j h = no_lexeme_at_comment text i o kind j h
