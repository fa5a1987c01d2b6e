-- A text that has no tokens has a first lexical error.
use Rattle.std.proofs.Common.{◌≡◌, ◌≢◌, ℕ, ℤ, pos, negsuc, zero, suc, ◌+◌, ◌-◌, ◌<◌, ◌≤◌, Bool, true, false, List, [], ◌∷◌, ◌++◌, length, arith, sym, ap, refl, subst, ◌∙◌, ◌⊎◌, inl, inr, cond, Option, Some, None}
use Rattle.std.specs.Prelude.{◌==◌, ◌||◌, ◌&&◌, not, if◌then◌else◌, slice_range, nat_abs, ◌≤ℤ◌, IsTrue, option_map, codes, bytes_eq}
use Rattle.std.specs.Char.{is_ascii_digit}
use Rattle.std.proofs.str.Laws.{order}
use Rattle.std.proofs.lemmas.Bool.{cases_eq, cases_order, cases_lt, cases_Bool}
use Rattle.std.proofs.lemmas.Int.{ints}
use Rattle.std.proofs.lemmas.Bool.Decides.{nat_tests}
use Rattle.il_syntax.specs.declared.token.Sign.{Sign}
use Rattle.il_syntax.specs.declared.token.Sign.TheVariants.{Assign, Arrow, Range, Colon, Semicolon, Comma, OpenParenthesis, CloseParenthesis, OpenBracket, CloseBracket, Dot, Ampersand}
use Rattle.il_syntax.specs.declared.token.Kind.{Kind}
use Rattle.il_syntax.specs.declared.token.Kind.TheVariants.{Word, Number, Typed, Sign as Signed, LineEnd}
use Rattle.il_syntax.specs.Text.{byte_at, opens_comment, closes_comment, IsComment, IsLexeme, sign_bytes, goes_on, after_minus, run_end, is_literal_byte, number_value, duration_value, entry_of, whole_type_words, duration_words, upper_case, IsTyped, begins_word, is_word_byte, hash, is_identifier, space, tab, line_at, AreTokens, HasNoTokens}
use Rattle.il_syntax.specs.declared.token.Token.{Token as Tok}
use Rattle.load_tokens.specs.declared.piece.Piece.{Piece}
use Rattle.load_tokens.specs.declared.piece.Piece.TheVariants.{Blank, Token}
use Rattle.load_tokens.specs.Pieces.{IsPiece, HasNoLexeme, HasNoPiece}
use Rattle.il_syntax.specs.declared.tree.Place.{Place}
use Rattle.load_tokens.specs.LexicalErrors.{is_inside_comment, IsNeverClosed, IsInsideEnd, IsCommentError, IsErrorAt, IsFirstError, AreTokensTo, lexeme_error, number_of_error, place_at}
use Rattle.load_tokens.specs.declared.error.LexicalError.{LexicalError}
use Rattle.load_tokens.specs.declared.error.LexicalError.TheVariants.{BadByte, OpenComment}
use Rattle.il_syntax.specs.declared.tree.Subrange.{Subrange}
use Rattle.il_syntax.specs.declared.tree.Elementary.{Elementary}
use Rattle.il_syntax.specs.declared.tree.Elementary.TheVariants.{Time as Duration}
use Rattle.il_syntax.specs.declared.tree.Literal.{Literal}
use Rattle.il_syntax.specs.declared.tree.Literal.TheVariants.{Truth, Bare, Whole, Time}
use Rattle.il_syntax.specs.ElementaryTypes.{LiesIn, limits, IsValueOf}
use Rattle.load_tokens.proofs.Literals.{no_whole_literal, no_duration, no_typed_lexeme}
use Rattle.load_tokens.proofs.Lexemes.{only_words, only_numbers, only_signs, lexeme_within}
use Rattle.load_tokens.proofs.Signs.{sign_from, sign_is}
use Rattle.std.proofs.lemmas.List.{get_or_past}
use Rattle.load_tokens.proofs.Places.{in_text, slice_one, slice_two}
use Rattle.load_tokens.proofs.Blanks.{opened, blank_within}
use Rattle.load_tokens.proofs.ErrorLaws.{no_piece_at_comment}
use Rattle.load_tokens.proofs.FirstError.{done_blank, done_token}

-- the first place at which a test fails, if there is one among n
first_failing : (test : ℕ → Bool) (n i : ℕ) → ((k : ℕ) → i ≤ k → k < i + n → test k ≡ true) ⊎ ((stop : ℕ) × (i ≤ stop) × ((k : ℕ) → i ≤ k → k < stop → test k ≡ true) × (test stop ≡ false))
first_failing test zero i = inl (λ k low high. absurd (omega arith))
first_failing test (suc n) i = here (test i) refl (first_failing test n (i + 1))
  where
    at_or_behind : (k : ℕ) → i ≤ k → (i ≡ k) ⊎ (i + 1 ≤ k)
    at_or_behind k low = elim (cases_eq i k) [
      | inl same ↦ inl same
      | inr other ↦ inr (omega arith)
    ]

    here : (b : Bool) → test i ≡ b → ((k : ℕ) → i + 1 ≤ k → k < i + 1 + n → test k ≡ true) ⊎ ((stop : ℕ) × (i + 1 ≤ stop) × ((k : ℕ) → i + 1 ≤ k → k < stop → test k ≡ true) × (test stop ≡ false))
        → ((k : ℕ) → i ≤ k → k < i + suc n → test k ≡ true) ⊎ ((stop : ℕ) × (i ≤ stop) × ((k : ℕ) → i ≤ k → k < stop → test k ≡ true) × (test stop ≡ false))
    here false h rest = inr (i, omega arith, λ k low high. absurd (omega arith), h)
    here true h (inl all) = inl (λ k low high. elim (at_or_behind k low) [
      | inl same ↦ subst (λ x. test x ≡ true) same h
      | inr more ↦ all k more (omega arith)
    ])
    here true h (inr s) = inr (
      s.0,
      omega (arith, s.1),
      λ k low high. elim (at_or_behind k low) [
        | inl same ↦ subst (λ x. test x ≡ true) same h
        | inr more ↦ s.2 k more high
      ],
      s.3,
    )

-- a byte of the text's end is none of a comment's inside, and closes none
pub past_inside : (text : List ℕ) (k : ℕ) → length text ≤ k → is_inside_comment text k ≡ false
past_inside text k past = rw (get_or_past text k 0 past) refl

pub past_closing : (text : List ℕ) (k : ℕ) → length text ≤ k → closes_comment text k ≡ false
past_closing text k past = rw (get_or_past text k 0 past) refl

no_more_of : (b : Bool) → not b ≡ true → b ≡ false
no_more_of true e = absurd cc
no_more_of false e = refl

some_of : (b : Bool) → not b ≡ false → b ≡ true
some_of true e = refl
some_of false e = absurd cc

-- whether a comment is closed from i on
closing : (text : List ℕ) (i : ℕ) → IsNeverClosed text i ⊎ ((k : ℕ) × (i ≤ k) × IsTrue (closes_comment text k))
closing text i = elim (first_failing (λ k. not (closes_comment text k)) (length text) i) [
  | inl all ↦ inl (λ k low. elim (order k (i + length text)) [
    | inl up ↦ no_more_of (closes_comment text k) (all k low (omega arith))
    | inr far ↦ past_closing text k (omega arith)
  ])
  | inr s ↦ inr (s.0, s.1, some_of (closes_comment text s.0) s.3)
]

-- where the inside of a comment ends
inside_end : (text : List ℕ) (i : ℕ) → i ≤ length text → (stop : ℕ) × IsInsideEnd text i stop
inside_end text i within = elim (first_failing (is_inside_comment text) (length text + 1) i) [
  | inl all ↦
      let bad : true ≡ false = sym (all (length text) within (omega arith)) ∙ past_inside text (length text) (omega arith) in
      absurd cc
  | inr s ↦ (s.0, (s.1, s.2, s.3))
]

both_false : (a b c : Bool) → (a && (not b && not c)) ≡ true → c ≡ false
both_false a b c h = grind arith

-- a comment ends where its inside does
pub ends_there : (text : List ℕ) (i stop e : ℕ) → IsInsideEnd text (i + 2) stop → IsComment text i e → closes_comment text stop ≡ true
ends_there text i stop e end h =
    let apart = h.apart in
    elim (cases_order (e - 2) stop) [
      | inl same ↦ subst (λ x. closes_comment text x ≡ true) same h.closing
      | inr (inl less) ↦ let bad : true ≡ false = sym h.closing ∙ both_false _ _ _ (end.1 (e - 2) (omega arith) less) in absurd cc
      | inr (inr more) ↦ let bad : true ≡ false = sym (h.inside stop end.0 (omega arith)) ∙ end.2 in absurd cc
    ]

-- a comment that opens: it is there, or it is wrong
comment_or_error : (text : List ℕ) (i : ℕ) → opens_comment text i ≡ true → ((e : ℕ) × IsComment text i e) ⊎ (((e : ℕ) → IsComment text i e → ⊥) × ((error : LexicalError) × ((place : ℕ) × IsCommentError text i error place)))
comment_or_error text i o = decide (closes_comment text stop.0) refl
  where
    within : i + 2 ≤ length text
    within = let inside = in_text text (i + 1) 42 (opened text i o).1 (λ e. omega (arith, e)) in omega arith

    stop : (stop : ℕ) × IsInsideEnd text (i + 2) stop
    stop = inside_end text (i + 2) within

    decide : (b : Bool) → closes_comment text stop.0 ≡ b → ((e : ℕ) × IsComment text i e) ⊎ (((e : ℕ) → IsComment text i e → ⊥) × ((error : LexicalError) × ((place : ℕ) × IsCommentError text i error place)))
    decide true closed_here =
        let back : stop.0 + 2 - 2 ≡ stop.0 = omega arith in
        let low = stop.1.0 in
        inl (stop.0 + 2, record { apart = omega arith; opening = o; inside = λ k from to. stop.1.1 k from (omega arith); closing = subst (λ x. closes_comment text x ≡ true) (sym back) closed_here })
    decide false open_here = inr (
      λ e h. let bad : true ≡ false = sym (ends_there text i stop.0 e stop.1 h) ∙ open_here in absurd cc,
      elim (closing text (i + 2)) [
        | inl never ↦ (OpenComment, (i, inl (refl, refl, never)))
        | inr some ↦ ((if opens_comment text stop.0 then OpenComment else BadByte), (stop.0, inr (refl, stop.1, some)))
      ],
    )

one_of : (t : Bool) (x s : Sign) (rest : Option Sign) → cond t (Some x) rest ≡ Some s → ((t ≡ true) × (x ≡ s)) ⊎ ((t ≡ false) × (rest ≡ Some s))
one_of true x s rest h = inl (refl, cc)
one_of false x s rest h = inr (refl, h)

-- a sign of one byte, and of two
short_lexeme : (text : List ℕ) (i a : ℕ) (s : Sign) → length (sign_bytes s) ≡ 1 → sign_bytes s ≡ a ∷ [] → byte_at text i ≡ a → a ≢ 0 → goes_on s (byte_at text (i + 1)) ≡ false → IsLexeme text (Signed s) i (i + 1)
short_lexeme text i a s long bytes is some next =
    let inside = in_text text i a is some in
    (omega arith, slice_one text i inside ∙ ap (λ x. x ∷ []) is ∙ sym bytes, next)

long_lexeme : (text : List ℕ) (i a b : ℕ) (s : Sign) → length (sign_bytes s) ≡ 2 → sign_bytes s ≡ a ∷ b ∷ [] → byte_at text i ≡ a → byte_at text (i + 1) ≡ b → b ≢ 0 → goes_on s (byte_at text (i + 2)) ≡ false → IsLexeme text (Signed s) i (i + 2)
long_lexeme text i a b s long bytes is second some next =
    let inside = in_text text (i + 1) b second some in
    (omega arith, slice_two text i inside ∙ ap (λ x. x ∷ byte_at text (i + 1) ∷ []) is ∙ ap (λ x. a ∷ x ∷ []) second ∙ sym bytes, next)

no_eq : (a n : ℕ) → (a ≡ n → ⊥) → (a == n) ≡ false
no_eq a n h = grind (arith, nat_tests)

abbrev MayBegin : List ℕ → ℕ → Type 0
MayBegin text i = ((s : Sign) × ((j : ℕ) × IsLexeme text (Signed s) i j)) ⊎ ((s : Sign) (j : ℕ) → IsLexeme text (Signed s) i j → ⊥)

no_sign : (text : List ℕ) (i : ℕ) → sign_from (byte_at text i) (byte_at text (i + 1)) ≡ None → MayBegin text i
no_sign text i none = inr (λ s j h. let e : None ≡ Some s = sym none ∙ sign_is text s i j h in cc)

-- whether a sign is there
sign_or : (text : List ℕ) (i : ℕ) → MayBegin text i
sign_or text i = elim (cases_eq (byte_at text i) 58) [
  | inl is ↦ elim (cases_eq (byte_at text (i + 1)) 61) [
    | inl second ↦ inl (Assign, (i + 2, long_lexeme text i 58 61 Assign refl refl is second (λ e. omega (arith, e)) refl))
    | inr other ↦ inl (Colon, (i + 1, short_lexeme text i 58 Colon refl refl is (λ e. omega (arith, e)) (no_eq (byte_at text (i + 1)) 61 other)))
  ]
  | inr n1 ↦ elim (cases_eq (byte_at text i) 61) [
    | inl is ↦ elim (cases_eq (byte_at text (i + 1)) 62) [
      | inl second ↦ inl (Arrow, (i + 2, long_lexeme text i 61 62 Arrow refl refl is second (λ e. omega (arith, e)) refl))
      | inr other ↦ no_sign text i (ap (λ x. sign_from x (byte_at text (i + 1))) is ∙ ap (λ t. cond t (Some Arrow) None) (no_eq (byte_at text (i + 1)) 62 other))
    ]
    | inr n2 ↦ elim (cases_eq (byte_at text i) 46) [
      | inl is ↦ elim (cases_eq (byte_at text (i + 1)) 46) [
        | inl second ↦ inl (Range, (i + 2, long_lexeme text i 46 46 Range refl refl is second (λ e. omega (arith, e)) refl))
        | inr other ↦ inl (Dot, (i + 1, short_lexeme text i 46 Dot refl refl is (λ e. omega (arith, e)) (no_eq (byte_at text (i + 1)) 46 other)))
      ]
      | inr n3 ↦ elim (cases_eq (byte_at text i) 40) [
        | inl is ↦ elim (cases_eq (byte_at text (i + 1)) 42) [
          | inl second ↦ no_sign text i (ap (λ x. sign_from x (byte_at text (i + 1))) is ∙ ap (λ x. sign_from 40 x) second)
          | inr other ↦ inl (OpenParenthesis, (i + 1, short_lexeme text i 40 OpenParenthesis refl refl is (λ e. omega (arith, e)) (no_eq (byte_at text (i + 1)) 42 other)))
        ]
        | inr n4 ↦ elim (cases_eq (byte_at text i) 59) [
          | inl is ↦ inl (Semicolon, (i + 1, short_lexeme text i 59 Semicolon refl refl is (λ e. omega (arith, e)) refl))
          | inr n5 ↦ elim (cases_eq (byte_at text i) 44) [
            | inl is ↦ inl (Comma, (i + 1, short_lexeme text i 44 Comma refl refl is (λ e. omega (arith, e)) refl))
            | inr n6 ↦ elim (cases_eq (byte_at text i) 41) [
              | inl is ↦ inl (CloseParenthesis, (i + 1, short_lexeme text i 41 CloseParenthesis refl refl is (λ e. omega (arith, e)) refl))
              | inr n7 ↦ elim (cases_eq (byte_at text i) 91) [
                | inl is ↦ inl (OpenBracket, (i + 1, short_lexeme text i 91 OpenBracket refl refl is (λ e. omega (arith, e)) refl))
                | inr n8 ↦ elim (cases_eq (byte_at text i) 93) [
                  | inl is ↦ inl (CloseBracket, (i + 1, short_lexeme text i 93 CloseBracket refl refl is (λ e. omega (arith, e)) refl))
                  | inr n9 ↦ elim (cases_eq (byte_at text i) 38) [
                    | inl is ↦ inl (Ampersand, (i + 1, short_lexeme text i 38 Ampersand refl refl is (λ e. omega (arith, e)) refl))
                    | inr n10 ↦ no_sign text i (rw (no_eq (byte_at text i) 58 n1, no_eq (byte_at text i) 61 n2, no_eq (byte_at text i) 46 n3, no_eq (byte_at text i) 40 n4, no_eq (byte_at text i) 59 n5, no_eq (byte_at text i) 44 n6, no_eq (byte_at text i) 41 n7, no_eq (byte_at text i) 91 n8, no_eq (byte_at text i) 93 n9, no_eq (byte_at text i) 38 n10) refl)
                  ]
                ]
              ]
            ]
          ]
        ]
      ]
    ]
  ]
]

line_end_or : (text : List ℕ) (i : ℕ) → ((j : ℕ) × IsLexeme text LineEnd i j) ⊎ ((j : ℕ) → IsLexeme text LineEnd i j → ⊥)
line_end_or text i = elim (cases_eq (byte_at text i) 10) [
  | inl is ↦ inl (i + 1, inl (refl, is))
  | inr other ↦ elim (cases_eq (byte_at text i) 13) [
    | inl is ↦ elim (cases_eq (byte_at text (i + 1)) 10) [
      | inl second ↦ inl (i + 2, inr (refl, is, second))
      | inr lone ↦ inr (λ j h. elim h [ inl one ↦ other one.1 | inr two ↦ lone two.2 ])
    ]
    | inr neither ↦ inr (λ j h. elim h [ inl one ↦ other one.1 | inr two ↦ neither two.1 ])
  ]
]

number_or : (text : List ℕ) (i : ℕ) → is_ascii_digit (byte_at text (after_minus text i)) ≡ true → ((v : ℤ) × ((j : ℕ) × IsLexeme text (Number v) i j)) ⊎ ((v : ℤ) (j : ℕ) → IsLexeme text (Number v) i j → ⊥)
number_or text i digit = go (number_value (slice_range text i (run_end is_literal_byte text (after_minus text i)))) refl
  where
    go : (o : Option ℤ) → number_value (slice_range text i (run_end is_literal_byte text (after_minus text i))) ≡ o → ((v : ℤ) × ((j : ℕ) × IsLexeme text (Number v) i j)) ⊎ ((v : ℤ) (j : ℕ) → IsLexeme text (Number v) i j → ⊥)
    go None none = inr (λ v j h. let e : None ≡ Some v = sym none ∙ ap (λ x. number_value (slice_range text i x)) (sym h.1) ∙ h.2 in cc)
    go (Some v) some = elim (cases_lt 4294967295 (nat_abs v)) [
      | inl large ↦ inr (λ w j h.
          let e : Some v ≡ Some w = sym some ∙ ap (λ x. number_value (slice_range text i x)) (sym h.1) ∙ h.2 in
          let same : v ≡ w = cc in
          omega (arith, ap nat_abs same, h.3))
      | inr small ↦ inl (v, (run_end is_literal_byte text (after_minus text i), (digit, refl, some, small)))
    ]

le_or : (a b : ℤ) → (a ≤ℤ b) ⊎ (a ≤ℤ b → ⊥)
le_or (pos m) (pos n) = elim (cases_lt n m) [ inl less ↦ inr (λ h. omega (arith, ints)) | inr more ↦ inl (omega (arith, ints)) ]
le_or (pos m) (negsuc n) = inr (λ h. omega (arith, ints))
le_or (negsuc m) (pos n) = inl (omega (arith, ints))
le_or (negsuc m) (negsuc n) = elim (cases_lt m n) [ inl less ↦ inr (λ h. omega (arith, ints)) | inr more ↦ inl (omega (arith, ints)) ]

lies_or : (s : Option Subrange) (v : ℤ) → LiesIn s v ⊎ (LiesIn s v → ⊥)
lies_or None v = inr (λ h. h)
lies_or (Some s) v = elim (le_or s.lower v) [
  | inl low ↦ elim (le_or v s.upper) [ inl high ↦ inl (low, high) | inr far ↦ inr (λ h. far h.1) ]
  | inr below ↦ inr (λ h. below h.0)
]

value_or : (e : Elementary) (v : ℤ) → IsValueOf e v ⊎ (IsValueOf e v → ⊥)
value_or e v = lies_or (limits e) v

-- a word before a duration
duration_word : (word : List ℕ) (x : Elementary) → entry_of duration_words word ≡ Some x → x ≡ Duration
unfolding entry_of
duration_word word x h = first (bytes_eq word (codes "T")) (bytes_eq word (codes "TIME")) h
  where
    first : (a b : Bool) → (if a then Some Duration else (if b then Some Duration else None)) ≡ Some x → x ≡ Duration
    first true b h = cc
    first false true h = cc
    first false false h = absurd cc

-- whether `#` after a word writes a literal
typed_or : (word bytes : List ℕ) → ((l : Literal) × IsTyped word bytes l) ⊎ ((l : Literal) → IsTyped word bytes l → ⊥)
typed_or word bytes = whole (entry_of whole_type_words word) refl (entry_of duration_words word) refl
  where
    value : (e : Elementary) → entry_of whole_type_words word ≡ Some e → (o : Option ℤ) → number_value bytes ≡ o → ((l : Literal) × IsTyped word bytes l) ⊎ ((l : Literal) → IsTyped word bytes l → ⊥)
    value e is None none = inr (no_whole_literal word bytes e is (λ v some good. let bad : None ≡ Some v = sym none ∙ some in cc))
    value e is (Some v) some = elim (value_or e v) [
      | inl good ↦ inl (Whole e v, (is, some, good))
      | inr bad ↦ inr (no_whole_literal word bytes e is (λ w other good. let e : Some v ≡ Some w = sym some ∙ other in let same : w ≡ v = cc in bad (subst (IsValueOf _) same good)))
    ]

    time : entry_of duration_words word ≡ Some Duration → (o : Option ℤ) → option_map pos (duration_value bytes) ≡ o → ((l : Literal) × IsTyped word bytes l) ⊎ ((l : Literal) → IsTyped word bytes l → ⊥)
    time is None none = inr (no_duration word bytes is (λ v some good. let bad : None ≡ Some v = sym none ∙ some in cc))
    time is (Some v) some = elim (value_or Duration v) [
      | inl good ↦ inl (Time v, (is, some, good))
      | inr bad ↦ inr (no_duration word bytes is (λ w other good.
          let e : Some v ≡ Some w = sym some ∙ other in let same : w ≡ v = cc in bad (subst (IsValueOf Duration) same good)))
    ]

    neither : entry_of whole_type_words word ≡ None → entry_of duration_words word ≡ None → (l : Literal) → IsTyped word bytes l → ⊥
    neither a b (Whole e v) h = let bad : None ≡ Some e = sym a ∙ h.0 in cc
    neither a b (Time v) h = let bad : None ≡ Some Duration = sym b ∙ h.0 in cc
    neither a b (Truth v) h = h
    neither a b (Bare v) h = h

    whole : (o : Option Elementary) → entry_of whole_type_words word ≡ o → (d : Option Elementary) → entry_of duration_words word ≡ d → ((l : Literal) × IsTyped word bytes l) ⊎ ((l : Literal) → IsTyped word bytes l → ⊥)
    whole (Some e) is d was = value e is (number_value bytes) refl
    whole None is (Some x) was = time (was ∙ ap Some (duration_word word x was)) (option_map pos (duration_value bytes)) refl
    whole None is None was = inr (neither is was)

is_hash : (b : ℕ) → (b == hash) ≡ true → b ≡ 35
is_hash b h = grind (arith, nat_tests)

pub nothing : (text : List ℕ) (i : ℕ) → opens_comment text i ≡ false → (byte_at text i == space || byte_at text i == tab) ≡ false → HasNoLexeme text i → HasNoPiece text i
nothing text i no_comment no_space none Blank j (inl h) = let e : (byte_at text i == space || byte_at text i == tab) ≡ true = h.1 in cc
nothing text i no_comment no_space none Blank j (inr h) = let e : opens_comment text i ≡ true = h.opening in cc
nothing text i no_comment no_space none (Token kind) j h = none kind j h

abbrev AToken : List ℕ → ℕ → Type 0
AToken text i = ((kind : Kind) × ((j : ℕ) × IsLexeme text kind i j)) ⊎ HasNoLexeme text i

-- whether a word or a typed literal is where one begins
word_or : (text : List ℕ) (i : ℕ) → begins_word (byte_at text i) ≡ true → AToken text i
word_or text i begins = go (cases_Bool (byte_at text (run_end is_word_byte text i) == hash))
  where
    typed_there : byte_at text (run_end is_word_byte text i) ≡ 35
        → ((l : Literal) × IsTyped (upper_case (slice_range text i (run_end is_word_byte text i))) (slice_range text (run_end is_word_byte text i + 1) (run_end is_literal_byte text (after_minus text (run_end is_word_byte text i + 1)))) l)
        ⊎ ((l : Literal) → IsTyped (upper_case (slice_range text i (run_end is_word_byte text i))) (slice_range text (run_end is_word_byte text i + 1) (run_end is_literal_byte text (after_minus text (run_end is_word_byte text i + 1)))) l → ⊥)
        → AToken text i
    typed_there hashed (inl l) = inl (Typed l.0, (run_end is_literal_byte text (after_minus text (run_end is_word_byte text i + 1)), (run_end is_word_byte text i, begins, refl, hashed, refl, l.1)))
    typed_there hashed (inr none) = inr (only_words text i begins
        (λ j h. let e : byte_at text j ≡ 35 = ap (byte_at text) h.1 ∙ hashed in let t : (byte_at text j == hash) ≡ true = ap (λ b. b == hash) e in let f : (byte_at text j == hash) ≡ false = h.2 in cc)
        (λ l m h. no_typed_lexeme text i (run_end is_word_byte text i) (run_end is_literal_byte text (after_minus text (run_end is_word_byte text i + 1))) refl refl
        none l m h))

    no_literal : (byte_at text (run_end is_word_byte text i) == hash) ≡ false → (l : Literal) (m : ℕ) → IsLexeme text (Typed l) i m → ⊥
    no_literal apart l m h = let e : (byte_at text (run_end is_word_byte text i) == hash) ≡ true = ap (λ x. byte_at text x == hash) (sym h.2) ∙ ap (λ b. b == hash) h.3 in cc

    plain : (byte_at text (run_end is_word_byte text i) == hash) ≡ false → AToken text i
    plain apart = elim (cases_Bool (is_identifier (slice_range text i (run_end is_word_byte text i)))) [
      | inl good ↦ elim (cases_lt (i + 32) (run_end is_word_byte text i)) [
        | inl long ↦ inr (only_words text i begins (λ j h. omega (arith, h.1, h.4)) (no_literal apart))
        | inr short ↦ inl (Word, (run_end is_word_byte text i, (begins, refl, apart, good, short)))
      ]
      | inr bad ↦ inr (only_words text i begins (λ j h. let e : is_identifier (slice_range text i (run_end is_word_byte text i)) ≡ true = ap (λ x. is_identifier (slice_range text i x)) (sym h.1) ∙ h.3 in cc) (no_literal apart))
    ]

    go : ((byte_at text (run_end is_word_byte text i) == hash) ≡ true) ⊎ ((byte_at text (run_end is_word_byte text i) == hash) ≡ false) → AToken text i
    go (inl yes_hash) = typed_there (is_hash _ yes_hash) (typed_or _ _)
    go (inr no_hash) = plain no_hash

-- whether a token is there
lexeme_or : (text : List ℕ) (i : ℕ) → AToken text i
lexeme_or text i = elim (cases_Bool (begins_word (byte_at text i))) [
  | inl word ↦ word_or text i word
  | inr no_word ↦ elim (cases_Bool (is_ascii_digit (byte_at text (after_minus text i)))) [
    | inl digit ↦ elim (number_or text i digit) [
      | inl number ↦ inl (Number number.0, number.1)
      | inr none ↦ inr (only_numbers text i digit none)
    ]
    | inr no_digit ↦ elim (sign_or text i) [
      | inl sign ↦ inl (Signed sign.0, sign.1)
      | inr none ↦ elim (line_end_or text i) [
        | inl end ↦ inl (LineEnd, end)
        | inr no_end ↦ inr (only_signs text i no_word no_digit none no_end)
      ]
    ]
  ]
]

-- whether a piece is there, and else what is wrong
piece_or : (text : List ℕ) (i : ℕ) → ((piece : Piece) × ((j : ℕ) × IsPiece text piece i j)) ⊎ (HasNoPiece text i × ((error : LexicalError) × ((place : ℕ) × IsErrorAt text i error place)))
piece_or text i = elim (cases_Bool (opens_comment text i)) [
  | inl opens ↦ elim (comment_or_error text i opens) [
    | inl comment ↦ inl (Blank, (comment.0, inr comment.1))
    | inr error ↦ inr (no_piece_at_comment text i opens error.0, (error.1.0, (error.1.1.0, inl (opens, error.1.1.1))))
  ]
  | inr no_comment ↦ elim (cases_Bool (byte_at text i == space || byte_at text i == tab)) [
    | inl blank ↦ inl (Blank, (i + 1, inl (refl, blank)))
    | inr no_space ↦ elim (lexeme_or text i) [
      | inl token ↦ inl (Token token.0, token.1)
      | inr none ↦ inr (nothing text i no_comment no_space none, (lexeme_error text i, (i, inr (no_comment, refl, refl))))
    ]
  ]
]

-- where tokens end the text
at_the_end : (text : List ℕ) (x : ℕ) (ts : List Tok) → AreTokensTo text x ts (length text) → AreTokens text x ts
at_the_end text x [] h = h
at_the_end text x (t ∷ ts) h = (h.0, at_the_end text t.end ts h.1)

abbrev IsCutOrError : List ℕ → Type 0
IsCutOrError text = ((ts : List Tok) × AreTokens text 0 ts) ⊎ ((number : ℕ) × ((place : Place) × IsFirstError text number place))

behind : (n : ℕ) (text : List ℕ) (out : List Tok) (at : ℕ) → length text ≤ at + suc n → AreTokensTo text 0 out at
    → ((us : List Tok) (j : ℕ) → length text ≤ j + n → j ≤ length text → AreTokensTo text 0 us j → IsCutOrError text) → (piece : Piece) (j : ℕ) → IsPiece text piece at j → IsCutOrError text
behind n text out at enough h next Blank j blank = let w = blank_within text at j blank in next out j (omega (arith, w.0)) w.1 (done_blank text at j out blank h)
behind n text out at enough h next (Token kind) j lexeme =
    let w = lexeme_within text kind at j lexeme in
    let t : Tok = record { kind = kind; start = at; end = j; line = line_at text at } in
    next (out ++ t ∷ []) j (omega (arith, w.0)) w.1 (done_token text t out lexeme refl h)

from_here : (n : ℕ) (text : List ℕ) (out : List Tok) (at : ℕ) → length text ≤ at + n → at ≤ length text → AreTokensTo text 0 out at → IsCutOrError text
from_here zero text out at enough within h = let e : at ≡ length text = omega arith in inl (out, at_the_end text 0 out (subst (λ x. AreTokensTo text 0 out x) e h))
from_here (suc n) text out at enough within h = elim (cases_lt at (length text)) [
  | inr past ↦ let e : at ≡ length text = omega arith in inl (out, at_the_end text 0 out (subst (λ x. AreTokensTo text 0 out x) e h))
  | inl inside ↦ elim (piece_or text at) [
    | inr bad ↦ inr (number_of_error bad.1.0, (place_at text bad.1.1.0, record { before = out; at = at; read = h; inside = inside; none = bad.0; error = bad.1.0; wrong = bad.1.1.1; is_number = refl; is_line = refl }))
    | inl good ↦ behind n text out at enough h (λ us j e w g. from_here n text us j e w g) good.0 good.1.0 good.1.1
  ]
]

-- a text has tokens or a first lexical error
pub cut_or_error : (text : List ℕ) → IsCutOrError text
cut_or_error text = from_here (length text) text [] 0 (omega arith) (omega arith) ([], refl)

-- a text that has no tokens has a first lexical error
pub some_first : (text : List ℕ) → HasNoTokens text → (number : ℕ) × ((place : Place) × IsFirstError text number place)
some_first text none = elim (cut_or_error text) [
  | inl cut ↦ absurd (none cut.0 cut.1)
  | inr wrong ↦ wrong
]
