-- The fault of a text that has tokens and spells no configuration within the limits.
use Rattle.std.specs.Prelude.{◌≡◌, ℕ, List}
use Rattle.il_syntax.specs.declared.fault.Refusal.{Refusal}
use Rattle.il_syntax.specs.declared.fault.Refusal.TheVariants.{Fault}
use Rattle.il_syntax.specs.declared.token.Token.{Token}
use Rattle.il_syntax.specs.declared.tree.Place.{Place}
use Rattle.load_tree.specs.Refused.{GoesOnNowhere, GoesOnBefore}
use Rattle.load_tree.specs.Late.{NoneTooMany}

-- This is a fault of the grammar and its limits: with the token that it names no text goes on, with those before it some text does, and nothing is too
-- many before an unexpected token (own rule).
pub record IsFaultOfGrammar (text : List ℕ) (ts : List Token) (e : Refusal) : Type 0 where
  pub fault : (number : ℕ) × ((place : Place) × (e ≡ Fault number place))
  pub nowhere : GoesOnNowhere text ts e
  pub before : GoesOnBefore text ts e
  pub early : NoneTooMany text ts e
