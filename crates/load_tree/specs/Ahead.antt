-- What a reader promises that follows a part which looks ahead.
use Rattle.std.specs.Prelude.{◌≡◌, ℕ, List}
use Rattle.il_syntax.specs.declared.token.Token.{Token}
use Rattle.il_syntax.specs.Grammar.{Front, skip_line_ends}
use Rattle.il_syntax_laws.specs.Alike.{IsEndOf}
use Rattle.load_lines.specs.Reads.{IsFault, fault_at, turn, GoesOnNoMore, error_of}
use Rattle.load_lines.specs.declared.stop.SyntaxError.{SyntaxError}
use Rattle.load_lines.specs.declared.stop.Stop.{Stop}

-- A fault says that with the token at its place no P goes on, and that this is no line end at the front. A part that may be
-- missing looks after these line ends, and no further.
pub record RefusesAhead {A : Type 0} (P : List ℕ → A → Front) (text : List ℕ) (ts : List Token) (e : Stop) : Type 0 where
  pub fault : IsFault e → (error : SyntaxError) × (at : List Token) × (e ≡ fault_at error at) × IsEndOf at ts × IsEndOf (turn error text at) (skip_line_ends ts) × GoesOnNoMore P text ts (turn error text at)

-- The same, where the error of the fault says which rule goes on no more.
abbrev pub RefusesAheadBy : {A : Type 0} → (SyntaxError → List ℕ → A → Front) → List ℕ → List Token → Stop → Type 0
RefusesAheadBy P text ts e = RefusesAhead (P (error_of e)) text ts e

-- the same of a rule without a value
abbrev pub MissesAhead : (List ℕ → Front) → List ℕ → List Token → Stop → Type 0
MissesAhead F text ts e = RefusesAhead (λ text (u : Unit {0}). F text) text ts e
