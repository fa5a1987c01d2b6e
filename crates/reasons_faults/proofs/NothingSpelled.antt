-- Texts that spell no configuration.
use Rattle.std.proofs.Common.{arith, ◌≡◌, ℕ, ◌≤◌, false, List, [], length, subst, sym}
use Rattle.il_syntax.specs.declared.token.Token.{Token}
use Rattle.il_syntax.specs.declared.tree.Place.{Place}
use Rattle.il_syntax.specs.Text.{AreTokens, HasNoTokens}
use Rattle.load_text.specs.Loading.{SpellsNone}
use Rattle.reasons_tokens.specs.TokenReasons.{AreToldOfToken}
use Rattle.reasons_faults.specs.Reasons.{IsReason, is_of_ranges, unexpected, unspelled}

-- nothing is reported where the text has no tokens
pub no_tokens : (text : List ℕ) (number : ℕ) (place : Place) (lines : List ℕ) → (Unit {0} → length text ≤ 262144 → HasNoTokens text) → is_of_ranges number ≡ false → number ≡ 10 → SpellsNone text → lines ≡ [] → IsReason text number place lines
no_tokens text number place lines refused other ten none empty = unspelled other (λ ten has. refused tt has.0 has.1.0 has.1.1) (λ one. omega (arith, one, ten)) (λ three. omega (arith, three, ten)) (λ many. omega (arith, many, ten)) none empty

-- what is reported of the unexpected token
pub token_told : (text : List ℕ) (number : ℕ) (place : Place) (lines : List ℕ) (tokens shown : List Token) → shown ≡ tokens → AreTokens text 0 tokens → number ≡ 10 → SpellsNone text
    → AreToldOfToken text shown place lines → IsReason text number place lines
token_told text number place lines tokens shown same are ten none told = unexpected ten none shown (subst (AreTokens text 0) (sym same) are) told
