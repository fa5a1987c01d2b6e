-- Rows of what is wrong with what is no token, computed by hand.
use Rattle.std.proofs.Common.{◌≡◌, ℕ, ◌+◌, ◌<◌, ◌≤◌, subst, zero, suc, Bool, true, false, List, [], ◌∷◌, length, refl, arith, sym, ◌∙◌, inl, inr, None, Some}
use Rattle.std.specs.Prelude.{codes, not, ◌&&◌, ◌||◌, ◌==◌}
use Rattle.std.specs.Char.{is_ascii_digit}
use Rattle.std.proofs.lemmas.Bool.{cases_order}
use Rattle.il_syntax.specs.declared.token.Kind.TheVariants as kind
use Rattle.il_syntax.specs.declared.tree.Place.{Place}
use Rattle.il_syntax.specs.declared.fault.Refusal.TheVariants.{Fault}
use Rattle.il_syntax.specs.Text.{byte_at, begins_word, after_minus, opens_comment, closes_comment, space, tab, line_feed, carriage_return, run_end, magnitude, number_value, parts_value, duration_value, entry_of, is_identifier, is_grouped_after}
use Rattle.load_tokens.specs.declared.error.LexicalError.TheVariants.{BadByte, OpenComment}
use Rattle.load_tokens.specs.Pieces.{HasNoPiece}
use Rattle.load_tokens.specs.LexicalErrors.{number_of_error, lexeme_error, is_inside_comment, IsNeverClosed, IsInsideEnd, IsCommentError, IsFirstError, IsFaultOfText, the_start}
use Rattle.load_tokens.proofs.Signs.{sign_from, sign_is}
use Rattle.load_tokens.proofs.Lexemes.{only_signs}
use Rattle.load_tokens.proofs.ErrorLaws.{no_piece_at_comment}
use Rattle.load_tokens.proofs.Exists.{past_closing, ends_there, nothing}

at_sign : number_of_error (lexeme_error (codes "LD @") 3) ≡ 1
unfolding run_end
at_sign = refl

minus_alone : number_of_error (lexeme_error (codes "- 1") 0) ≡ 1
unfolding run_end
minus_alone = refl

equals_alone : number_of_error (lexeme_error (codes "= 1") 0) ≡ 1
unfolding run_end
equals_alone = refl

return_alone : number_of_error (lexeme_error (65 ∷ 13 ∷ 65 ∷ []) 1) ≡ 1
unfolding run_end
return_alone = refl

gap_in_number : number_of_error (lexeme_error (codes "1__2") 0) ≡ 3
unfolding run_end magnitude number_value is_grouped_after
gap_in_number = refl

base_with_sign : number_of_error (lexeme_error (codes "-2#1") 0) ≡ 3
unfolding run_end magnitude number_value is_grouped_after
base_with_sign = refl

word_behind_digit : number_of_error (lexeme_error (codes "1A;") 0) ≡ 3
unfolding run_end magnitude number_value is_grouped_after
word_behind_digit = refl

too_large : number_of_error (lexeme_error (codes "4294967296") 0) ≡ 4
unfolding run_end magnitude number_value is_grouped_after
too_large = refl

too_small : number_of_error (lexeme_error (codes "LD -4294967296") 3) ≡ 4
unfolding run_end magnitude number_value is_grouped_after
too_small = refl

no_type : number_of_error (lexeme_error (codes "FOO#1") 0) ≡ 3
unfolding run_end magnitude number_value is_grouped_after entry_of
no_type = refl

bad_word_before_hash : number_of_error (lexeme_error (codes "__A#1") 0) ≡ 3
unfolding run_end magnitude number_value is_grouped_after entry_of
bad_word_before_hash = refl

outside_int : number_of_error (lexeme_error (codes "int#32768") 0) ≡ 4
unfolding run_end magnitude number_value is_grouped_after entry_of
outside_int = refl

no_int : number_of_error (lexeme_error (codes "INT#-16#F") 0) ≡ 3
unfolding run_end magnitude number_value is_grouped_after entry_of
no_int = refl

twice_a_day : number_of_error (lexeme_error (codes "T#1d1d") 0) ≡ 3
unfolding run_end duration_value parts_value entry_of
twice_a_day = refl

no_duration : number_of_error (lexeme_error (codes "T#") 0) ≡ 3
unfolding run_end duration_value parts_value entry_of
no_duration = refl

long_duration : number_of_error (lexeme_error (codes "TIME#25d") 0) ≡ 4
unfolding run_end duration_value parts_value entry_of
long_duration = refl

two_underscores : number_of_error (lexeme_error (codes "A__B") 0) ≡ 5
unfolding run_end
two_underscores = refl

thirty_three : number_of_error (lexeme_error (codes "ABCDEFGHIJKLMNOPQRSTUVWXYZABCDEFG") 0) ≡ 5
unfolding run_end
thirty_three = refl

-- COMMENTS

-- whether no `*)` is at any of n places from i on
is_open : List ℕ → ℕ → ℕ → Bool
is_open text i zero = true
is_open text i (suc n) = not (closes_comment text i) && is_open text (i + 1) n

left : (a b : Bool) → (not a && b) ≡ true → a ≡ false
left true b h = absurd cc
left false b h = refl

right : (a b : Bool) → (not a && b) ≡ true → b ≡ true
right true b h = absurd cc
right false b h = h

never_closed : (text : List ℕ) (i n : ℕ) → length text ≤ i + n → is_open text i n ≡ true → IsNeverClosed text i
unfolding is_open
never_closed text i zero enough h k low = past_closing text k (omega (arith, enough, low))
never_closed text i (suc n) enough h k low = elim (cases_order k i) as (λ _. closes_comment text k ≡ false) [
  | inl same ↦ rw same (left (closes_comment text i) (is_open text (i + 1) n) h)
  | inr (inl less) ↦ absurd (omega (arith, low, less))
  | inr (inr more) ↦ never_closed text (i + 1) n (omega (arith, enough)) (right (closes_comment text i) (is_open text (i + 1) n) h) k (omega (arith, more))
]

-- whether n places from i on are in a comment
is_inside_for : List ℕ → ℕ → ℕ → Bool
is_inside_for text i zero = true
is_inside_for text i (suc n) = not (not (is_inside_comment text i)) && is_inside_for text (i + 1) n

twice : (a : Bool) → not a ≡ false → a ≡ true
twice true h = refl
twice false h = absurd cc

inside_for : (text : List ℕ) (i n : ℕ) → is_inside_for text i n ≡ true → (k : ℕ) → i ≤ k → k < i + n → is_inside_comment text k ≡ true
unfolding is_inside_for
inside_for text i zero h k low high = absurd (omega (arith, low, high))
inside_for text i (suc n) h k low high = elim (cases_order k i) as (λ _. is_inside_comment text k ≡ true) [
  | inl same ↦ rw same (twice (is_inside_comment text i) (left (not (is_inside_comment text i)) (is_inside_for text (i + 1) n) h))
  | inr (inl less) ↦ absurd (omega (arith, low, less))
  | inr (inr more) ↦ inside_for text (i + 1) n (right (not (is_inside_comment text i)) (is_inside_for text (i + 1) n) h) k (omega (arith, more)) (omega (arith, high))
]

inside_end : (text : List ℕ) (i n : ℕ) → is_inside_for text i n ≡ true → is_inside_comment text (i + n) ≡ false → IsInsideEnd text i (i + n)
inside_end text i n h stops = (omega arith, inside_for text i n h, stops)

-- what opens and is no comment: nothing begins there
no_comment : (text : List ℕ) (i stop : ℕ) → opens_comment text i ≡ true → IsInsideEnd text (i + 2) stop → closes_comment text stop ≡ false → HasNoPiece text i
no_comment text i stop opens end unclosed = no_piece_at_comment text i opens (λ e h. let bad : true ≡ false = sym (ends_there text i stop e end h) ∙ unclosed in cc)

-- `(* A` is never closed: 2, where it opens
open_comment : IsCommentError (codes "(* A") 0 OpenComment 0
unfolding is_open
open_comment = inl (refl, refl, never_closed (codes "(* A") 2 2 (omega arith) refl)

-- a bad byte in it changes nothing
open_comment_with_bad_byte : IsCommentError (40 ∷ 42 ∷ 7 ∷ []) 0 OpenComment 0
unfolding is_open
open_comment_with_bad_byte = inl (refl, refl, never_closed (40 ∷ 42 ∷ 7 ∷ []) 2 1 (omega arith) refl)

-- `(*)` neither: the `*` belongs to one end only
half_closed : IsCommentError (codes "(*)") 0 OpenComment 0
unfolding is_open
half_closed = inl (refl, refl, never_closed (codes "(*)") 2 1 (omega arith) refl)

-- one in another: 2, where the inner one opens
nested_comment : IsCommentError (codes "(* (* *)") 0 OpenComment 3
unfolding is_inside_for
nested_comment = inr (refl, inside_end (codes "(* (* *)") 2 1 refl refl, (6, omega arith, refl))

-- a bad byte in a comment that is closed: 1, where it is
bad_byte_in_comment : IsCommentError (40 ∷ 42 ∷ 32 ∷ 7 ∷ 42 ∷ 41 ∷ []) 0 BadByte 3
unfolding is_inside_for
bad_byte_in_comment = inr (refl, inside_end (40 ∷ 42 ∷ 32 ∷ 7 ∷ 42 ∷ 41 ∷ []) 2 1 refl refl, (4, omega arith, refl))

-- FIRST ERRORS AND THEIR LINES

not_10 : (n : ℕ) → (n == line_feed) ≡ false → n ≡ line_feed → ⊥
not_10 n h e = let bad : (line_feed == line_feed) ≡ false = subst (λ x. (x == line_feed) ≡ false) e h in cc

not_13 : (n : ℕ) → (n == carriage_return) ≡ false → n ≡ carriage_return → ⊥
not_13 n h e = let bad : (carriage_return == carriage_return) ≡ false = subst (λ x. (x == carriage_return) ≡ false) e h in cc

-- a byte with which nothing begins
begins_nothing : (text : List ℕ) (i : ℕ) → opens_comment text i ≡ false → (byte_at text i == space || byte_at text i == tab) ≡ false → begins_word (byte_at text i) ≡ false → is_ascii_digit (byte_at text (after_minus text i)) ≡ false
    → sign_from (byte_at text i) (byte_at text (i + 1)) ≡ None → (byte_at text i == line_feed) ≡ false → (byte_at text i == carriage_return) ≡ false → HasNoPiece text i
begins_nothing text i no_comment no_space no_word no_digit no_sign no_feed no_return =
    nothing text i no_comment no_space
    (only_signs text i no_word no_digit (λ s j h. let e : None ≡ Some s = sym no_sign ∙ sign_is text s i j h in cc)
    (λ j h. elim h [ inl one ↦ not_10 (byte_at text i) no_feed one.1 | inr two ↦ not_13 (byte_at text i) no_return two.1 ]))

-- `@`
-- a place
abbrev at : ℕ → ℕ → Place
at offset line = record { offset = offset; line = line }

first_byte : IsFirstError (codes "@") 1 (at 0 1)
unfolding run_end
first_byte = record {
  before = [];
  at = 0;
  read = ([], refl);
  inside = omega arith;
  none = begins_nothing (codes "@") 0 refl refl refl refl refl refl refl;
  error = BadByte;
  wrong = inr (refl, refl, refl);
  is_number = refl;
  is_line = refl;
}

-- `LD @`: after a token and a blank, in the same line
behind_a_word : IsFirstError (codes "LD @") 1 (at 3 1)
unfolding run_end is_identifier is_grouped_after
behind_a_word = record {
  before = record { kind = kind.Word; start = 0; end = 2; line = 1 } ∷ [];
  at = 3;
  read = (record { gap = ([], refl); lexeme = (refl, refl, refl, refl, omega arith); line = refl }, (3 ∷ [], (inl (refl, refl), refl)));
  inside = omega arith;
  none = begins_nothing (codes "LD @") 3 refl refl refl refl refl refl refl;
  error = BadByte;
  wrong = inr (refl, refl, refl);
  is_number = refl;
  is_line = refl;
}

-- a line feed and `@`: in line 2
in_line_2 : IsFirstError (10 ∷ 64 ∷ []) 1 (at 1 2)
unfolding run_end
in_line_2 = record {
  before = record { kind = kind.LineEnd; start = 0; end = 1; line = 1 } ∷ [];
  at = 1;
  read = (record { gap = ([], refl); lexeme = inl (refl, refl); line = refl }, ([], refl));
  inside = omega arith;
  none = begins_nothing (10 ∷ 64 ∷ []) 1 refl refl refl refl refl refl refl;
  error = BadByte;
  wrong = inr (refl, refl, refl);
  is_number = refl;
  is_line = refl;
}

-- a carriage return and a line feed are one line end
behind_return_and_feed : IsFirstError (13 ∷ 10 ∷ 64 ∷ []) 1 (at 2 2)
unfolding run_end
behind_return_and_feed = record {
  before = record { kind = kind.LineEnd; start = 0; end = 2; line = 1 } ∷ [];
  at = 2;
  read = (record { gap = ([], refl); lexeme = inr (refl, refl, refl); line = refl }, ([], refl));
  inside = omega arith;
  none = begins_nothing (13 ∷ 10 ∷ 64 ∷ []) 2 refl refl refl refl refl refl refl;
  error = BadByte;
  wrong = inr (refl, refl, refl);
  is_number = refl;
  is_line = refl;
}

-- a comment that is never closed is reported in the line where it opens, whatever lines it goes on to
opens_in_line_1 : IsFirstError (40 ∷ 42 ∷ 10 ∷ 10 ∷ []) 2 (at 0 1)
unfolding is_open is_inside_for
opens_in_line_1 = record {
  before = [];
  at = 0;
  read = ([], refl);
  inside = omega arith;
  none = no_comment (40 ∷ 42 ∷ 10 ∷ 10 ∷ []) 0 4 refl (inside_end (40 ∷ 42 ∷ 10 ∷ 10 ∷ []) 2 2 refl refl) refl;
  error = OpenComment;
  wrong = inl (refl, inl (refl, refl, never_closed (40 ∷ 42 ∷ 10 ∷ 10 ∷ []) 2 2 (omega arith) refl));
  is_number = refl;
  is_line = refl;
}

-- one in another is reported in the line where the inner one opens
nested_in_line_2 : IsFirstError (40 ∷ 42 ∷ 10 ∷ 40 ∷ 42 ∷ 42 ∷ 41 ∷ []) 2 (at 3 2)
unfolding is_inside_for
nested_in_line_2 = record {
  before = [];
  at = 0;
  read = ([], refl);
  inside = omega arith;
  none = no_comment (40 ∷ 42 ∷ 10 ∷ 40 ∷ 42 ∷ 42 ∷ 41 ∷ []) 0 3 refl (inside_end (40 ∷ 42 ∷ 10 ∷ 40 ∷ 42 ∷ 42 ∷ 41 ∷ []) 2 1 refl refl) refl;
  error = OpenComment;
  wrong = inl (refl, inr (refl, inside_end (40 ∷ 42 ∷ 10 ∷ 40 ∷ 42 ∷ 42 ∷ 41 ∷ []) 2 1 refl refl, (5, omega arith, refl)));
  is_number = refl;
  is_line = refl;
}

-- the fault of a whole text, and of one that is too long
fault_of_text : IsFaultOfText (10 ∷ 64 ∷ []) (Fault 1 (at 1 2))
fault_of_text = inr (omega arith, in_line_2)

fault_of_long_text : (text : List ℕ) → 262144 < length text → IsFaultOfText text (Fault 6 the_start)
fault_of_long_text text long = inl (long, refl, refl)
