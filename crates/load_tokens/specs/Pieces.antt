-- The parts of a text that the lexer reads one by one.
use Rattle.std.specs.Prelude.{◌≡◌, ℕ, ◌==◌, IsFalse, List, [], ◌∷◌, count_by}
use Rattle.il_syntax.specs.declared.token.Kind.{Kind}
use Rattle.il_syntax.specs.declared.token.Kind.TheVariants.{LineEnd}
use Rattle.il_syntax.specs.declared.token.Sign.{Sign}
use Rattle.load_tokens.specs.declared.piece.Piece.{Piece}
use Rattle.load_tokens.specs.declared.piece.Piece.TheVariants.{Blank, Token}
use Rattle.il_syntax.specs.Text.{IsBlank, IsLexeme, sign_bytes, goes_on, line_feed}

-- a piece is from i up to j
abbrev pub IsPiece : List ℕ → Piece → ℕ → ℕ → Type 0
IsPiece text Blank i j = IsBlank text i j
IsPiece text (Token kind) i j = IsLexeme text kind i j

-- how many line feeds there are among these bytes
abbrev pub count_feeds : List ℕ → ℕ
count_feeds bytes = count_by (λ b. b == line_feed) bytes

-- how many line feeds are in a token
abbrev pub feeds_of : Kind → ℕ
feeds_of LineEnd = 1
feeds_of _ = 0

-- no token begins at i
abbrev pub HasNoLexeme : List ℕ → ℕ → Type 0
HasNoLexeme text i = (kind : Kind) (j : ℕ) → IsLexeme text kind i j → ⊥

-- no piece begins at i
abbrev pub HasNoPiece : List ℕ → ℕ → Type 0
HasNoPiece text i = (piece : Piece) (j : ℕ) → IsPiece text piece i j → ⊥

-- whether bytes begin with these two, where one of a sign's one byte is followed by one that makes it no other
abbrev pub AreSignBytes : List ℕ → ℕ → ℕ → Sign → Type 0
AreSignBytes [] first second sign = ⊥
AreSignBytes (a ∷ []) first second sign = (first ≡ a) × IsFalse (goes_on sign second)
AreSignBytes (a ∷ b ∷ rest) first second sign = (first ≡ a) × (second ≡ b)

-- a sign is where these two bytes do
abbrev pub StandsAt : ℕ → ℕ → Sign → Type 0
StandsAt first second sign = AreSignBytes (sign_bytes sign) first second sign
