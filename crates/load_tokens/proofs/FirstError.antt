-- The first lexical error of a text, as the lexer comes to it; and that there is one at most.
use Rattle.std.proofs.Common.{◌≡◌, ℕ, ◌+◌, ◌<◌, ◌≤◌, List, [], ◌∷◌, ◌++◌, length, arith, sym, ap, refl, subst, ◌∙◌, inl, inr, true, false}
use Rattle.std.specs.Prelude.{if◌then◌else◌, IsTrue}
use Rattle.std.proofs.lemmas.Bool.{cases_order}
use Rattle.il_syntax.specs.declared.token.Token.{Token as Tok}
use Rattle.il_syntax.specs.declared.tree.Place.{Place}
use Rattle.il_syntax.specs.declared.fault.Refusal.{Refusal}
use Rattle.il_syntax.specs.declared.fault.Refusal.TheVariants.{Fault, Memory}
use Rattle.il_syntax.proofs.Places.{place_is}
use Rattle.il_syntax.specs.Text.{IsBlank, AreBlanks, AreBlank, IsLexeme, IsToken, AreTokens, line_at, opens_comment, closes_comment}
use Rattle.load_tokens.specs.declared.error.LexicalError.{LexicalError}
use Rattle.load_tokens.specs.declared.error.LexicalError.TheVariants.{BadByte, OpenComment}
use Rattle.load_tokens.specs.declared.piece.Piece.TheVariants.{Blank, Token}
use Rattle.load_tokens.proofs.Cut.{gap_unique, token_unique}
use Rattle.load_tokens.proofs.Lexemes.{lexeme_within}
use Rattle.load_tokens.proofs.Blanks.{no_lexeme_at_blank, no_blank_at_end}
use Rattle.load_tokens.specs.Pieces.{HasNoPiece}
use Rattle.load_tokens.specs.LexicalErrors.{AreTokensTo, IsInsideEnd, IsNeverClosed, IsCommentError, IsErrorAt, IsFirstError, IsFaultOfText, number_of_error, place_at}

-- a blank more after blanks
blanks_on : (text es : List ℕ) (i j k : ℕ) → AreBlanks text es i j → IsBlank text j k → AreBlanks text (es ++ k ∷ []) i k
blanks_on text [] i j k h b = (subst (λ x. IsBlank text x k) (sym h) b, refl)
blanks_on text (e ∷ es) i j k h b = (h.0, blanks_on text es e j k h.1 b)

to_blank : (text : List ℕ) (at j k : ℕ) (ts : List Tok) → AreTokensTo text at ts j → IsBlank text j k → AreTokensTo text at ts k
to_blank text at j k [] h b = (h.0 ++ k ∷ [], blanks_on text h.0 at j k h.1 b)
to_blank text at j k (t ∷ ts) h b = (h.0, to_blank text t.end j k ts h.1 b)

to_token : (text : List ℕ) (at : ℕ) (t : Tok) (ts : List Tok) → AreTokensTo text at ts t.start → IsLexeme text t.kind t.start t.end → t.line ≡ line_at text t.start → AreTokensTo text at (ts ++ t ∷ []) t.end
to_token text at t [] h l e = (record { gap = h; lexeme = l; line = e }, ([], refl))
to_token text at t (u ∷ ts) h l e = (h.0, to_token text u.end t ts h.1 l e)

-- after a blank
pub done_blank : (text : List ℕ) (at k : ℕ) (out : List Tok) → IsBlank text at k → AreTokensTo text 0 out at → AreTokensTo text 0 out k
done_blank text at k out b h = to_blank text 0 at k out h b

-- after a token
pub done_token : (text : List ℕ) (t : Tok) (out : List Tok) → IsLexeme text t.kind t.start t.end → t.line ≡ line_at text t.start → AreTokensTo text 0 out t.start → AreTokensTo text 0 (out ++ t ∷ []) t.end
done_token text t out l e h = to_token text 0 t out h l e

-- the fault where the lexer stops
pub fault_is : (text : List ℕ) (out : List Tok) (at : ℕ) (error : LexicalError) (place : ℕ) (e : Refusal) → AreTokensTo text 0 out at → at < length text → length text ≤ 262144
    → HasNoPiece text at → IsErrorAt text at error place → e ≡ Fault (number_of_error error) (place_at text place) → IsFaultOfText text e
fault_is text out at error place e read inside short none wrong is =
    let first : IsFirstError text (number_of_error error) (place_at text place) = record { before = out; at = at; read = read; inside = inside; none = none; error = error; wrong = wrong; is_number = refl; is_line = refl } in
    subst (IsFaultOfText text) (sym is) (inr (short, first))

-- where nothing begins, no blank does
no_blank : (text : List ℕ) (i : ℕ) → HasNoPiece text i → (k : ℕ) → IsBlank text i k → ⊥
no_blank text i none k b = none Blank k b

-- at the end nothing begins
pub none_at_end : (text : List ℕ) → HasNoPiece text (length text)
none_at_end text Blank j h = no_blank_at_end text (length text) j (omega arith) h
none_at_end text (Token kind) j h = let within = lexeme_within text kind (length text) j h in omega arith

-- tokens and blanks reach up to one place only at which nothing begins
not_behind : (text : List ℕ) (x i : ℕ) (u : Tok) → AreBlank text x i → IsToken text x u → HasNoPiece text i → ⊥
not_behind text x i u h g none =
    let same = gap_unique text h.0 g.gap.0 x i u.start h.1 g.gap.1 (no_blank text i none) (λ k b. no_lexeme_at_blank text u.start k b u.kind u.end g.lexeme) in
    none (Token u.kind) u.end (subst (λ y. IsLexeme text u.kind y u.end) (sym same) g.lexeme)

pub stuck_once : (text : List ℕ) (x i j : ℕ) (ts us : List Tok) → AreTokensTo text x ts i → AreTokensTo text x us j → HasNoPiece text i → HasNoPiece text j → i ≡ j
stuck_once text x i j [] [] h g a b = gap_unique text h.0 g.0 x i j h.1 g.1 (no_blank text i a) (no_blank text j b)
stuck_once text x i j [] (u ∷ us) h g a b = absurd (not_behind text x i u h g.0 a)
stuck_once text x i j (t ∷ ts) [] h g a b = absurd (not_behind text x j t g h.0 b)
stuck_once text x i j (t ∷ ts) (u ∷ us) h g a b =
    let same = token_unique text x t u h.0 g.0 in
    stuck_once text t.end i j ts us h.1 (subst (λ (y : Tok). AreTokensTo text y.end us j) (sym same) g.1) a b

-- the inside of a comment ends at one place
end_once : (text : List ℕ) (i p q : ℕ) → IsInsideEnd text i p → IsInsideEnd text i q → p ≡ q
end_once text i p q h g = elim (cases_order p q) [
  | inl same ↦ same
  | inr (inl less) ↦ let e : true ≡ false = sym (g.1 p h.0 less) ∙ h.2 in absurd cc
  | inr (inr more) ↦ let e : true ≡ false = sym (h.1 q g.0 more) ∙ g.2 in absurd cc
]

never_and_once : (text : List ℕ) (i : ℕ) → IsNeverClosed text i → (k : ℕ) × (i ≤ k) × IsTrue (closes_comment text k) → ⊥
never_and_once text i never h = let e : true ≡ false = sym h.2 ∙ never h.0 h.1 in cc

comment_once : (text : List ℕ) (i p q : ℕ) (f g : LexicalError) → IsCommentError text i f p → IsCommentError text i g q → (f ≡ g) × (p ≡ q)
comment_once text i p q f g (inl h) (inl k) = (h.0 ∙ sym k.0, h.1 ∙ sym k.1)
comment_once text i p q f g (inl h) (inr k) = absurd (never_and_once text (i + 2) h.2 k.2)
comment_once text i p q f g (inr h) (inl k) = absurd (never_and_once text (i + 2) k.2 h.2)
comment_once text i p q f g (inr h) (inr k) =
    let same = end_once text (i + 2) p q h.1 k.1 in
    (h.0 ∙ ap (λ x. if opens_comment text x then OpenComment else BadByte) same ∙ sym k.0, same)

-- one thing is wrong at a place
error_once : (text : List ℕ) (i p q : ℕ) (f g : LexicalError) → IsErrorAt text i f p → IsErrorAt text i g q → (f ≡ g) × (p ≡ q)
error_once text i p q f g (inl h) (inl k) = comment_once text i p q f g h.1 k.1
error_once text i p q f g (inr h) (inr k) = (h.1 ∙ sym k.1, h.2 ∙ sym k.2)
error_once text i p q f g (inl h) (inr k) = let e : true ≡ false = sym h.0 ∙ k.0 in absurd cc
error_once text i p q f g (inr h) (inl k) = let e : true ≡ false = sym k.0 ∙ h.0 in absurd cc

-- a text has one first lexical error at most
pub one_first : (text : List ℕ) (m n : ℕ) (p q : Place) → IsFirstError text m p → IsFirstError text n q → (m ≡ n) × (p ≡ q)
one_first text m n p q h g =
    let same = stuck_once text 0 h.at g.at h.before g.before h.read g.read h.none g.none in
    let wrong = error_once text h.at p.offset q.offset h.error g.error h.wrong (subst (λ i. IsErrorAt text i g.error q.offset) (sym same) g.wrong) in
    (h.is_number ∙ ap number_of_error wrong.0 ∙ sym g.is_number, place_is p q wrong.1 (h.is_line ∙ ap (line_at text) wrong.1 ∙ sym g.is_line))

to_the_end : (text : List ℕ) (x : ℕ) (ts : List Tok) → AreTokens text x ts → AreTokensTo text x ts (length text)
to_the_end text x [] h = h
to_the_end text x (t ∷ ts) h = (h.0, to_the_end text t.end ts h.1)

-- a text that has tokens has none
pub no_first : (text : List ℕ) (ts : List Tok) (n : ℕ) (p : Place) → AreTokens text 0 ts → IsFirstError text n p → ⊥
no_first text ts n p h g =
    let same = stuck_once text 0 (length text) g.at ts g.before (to_the_end text 0 ts h) g.read (none_at_end text) g.none in
    let inside = g.inside in
    omega (arith, same)

-- a text has one fault of its bytes at most
pub one_fault : (text : List ℕ) (e f : Refusal) → IsFaultOfText text e → IsFaultOfText text f → e ≡ f
one_fault text (Fault m k) (Fault n l) (inl h) (inl g) = ap (λ x. Fault x k) (h.1 ∙ sym g.1) ∙ ap (Fault n) (h.2 ∙ sym g.2)
one_fault text (Fault m k) (Fault n l) (inl h) (inr g) = absurd (omega (arith, h.0, g.0))
one_fault text (Fault m k) (Fault n l) (inr h) (inl g) = absurd (omega (arith, h.0, g.0))
one_fault text (Fault m k) (Fault n l) (inr h) (inr g) = let same = one_first text m n k l h.1 g.1 in ap (λ x. Fault x k) same.0 ∙ ap (Fault n) same.1
one_fault text Memory f h g = absurd h
one_fault text (Fault m k) Memory h g = absurd g
