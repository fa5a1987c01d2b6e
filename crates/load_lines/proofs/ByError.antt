-- Faults whose error says which rule they refuse.
use Rattle.std.proofs.Common.{◌≡◌, ℕ, Bool, false, List, [], ◌∷◌, refl, sym, ◌∙◌, subst, ap}
use Rattle.std.specs.Prelude.{Result, Ok, Err, IfErr, IsErrAnd}
use Rattle.il_syntax.specs.declared.token.Token.{Token}
use Rattle.il_syntax.specs.declared.token.Sign.TheVariants.{OpenParenthesis}
use Rattle.il_syntax.specs.declared.tree.Operator.{Operator}
use Rattle.il_syntax.specs.Grammar.{Front, TheSign}
use Rattle.load_lines.specs.declared.stop.SyntaxError.{SyntaxError}
use Rattle.load_lines.specs.declared.stop.SyntaxError.TheVariants.{TooDeep}
use Rattle.load_lines.specs.declared.stop.Stop.{Stop}
use Rattle.load_lines.specs.Reads.{fault_at, error_of, RefusesBy, room_by, SpellsWorkBy}
use Rattle.load_lines.proofs.Alternatives.{too_deep}

-- the error of a fault is the one that it was given
error_at : (error : SyntaxError) (ts : List Token) → error_of (fault_at error ts) ≡ error
unfolding fault_at
error_at error [] = refl
error_at error (t ∷ ts) = refl

pub error_is : (error : SyntaxError) (ts : List Token) (e : Stop) → e ≡ fault_at error ts → error_of e ≡ error
error_is error ts e here = ap error_of here ∙ error_at error ts

-- an error goes up as it is
pub up_by : {X A : Type 0} (P : SyntaxError → List ℕ → A → Front) {text : List ℕ} {ts : List Token} {e : Stop} (r : Result X Stop) → IsErrAnd r (λ y. y ≡ e) → RefusesBy P text ts e → IfErr r (λ y. RefusesBy P text ts y)
up_by P {text = text} {ts = ts} (Err y) same bad = subst (λ (z : Stop). RefusesBy P text ts z) (sym same) bad
up_by P (Ok x) same bad = tt

-- a parenthesis that opens after an operator has no room
pub deeper : (text : List ℕ) (room : Bool) (op : Operator) (ts m : List Token) (e : Stop) → TheSign OpenParenthesis ts m → room ≡ false → e ≡ fault_at TooDeep ts → RefusesBy (SpellsWorkBy room op) text ts e
deeper text room op ts m e there none here = too_deep text (room_by (error_of e) room) op ts m e there (ap (λ error. room_by error room) (error_is TooDeep ts e here) ∙ none) here
