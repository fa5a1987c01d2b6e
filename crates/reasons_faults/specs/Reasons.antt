-- What is reported of a refusal (own rules).
use Rattle.std.specs.Prelude.{◌≡◌, ℕ, ◌==◌, ◌||◌, if◌then◌else◌, Bool, true, false, List, [], ◌++◌}
use Rattle.il_syntax.specs.declared.tree.Config.{Config}
use Rattle.il_syntax.specs.declared.tree.Place.{Place}
use Rattle.il_syntax.specs.declared.token.Token.{Token}
use Rattle.il_syntax.specs.Text.{AreTokens}
use Rattle.il_syntax.specs.Grammar.{Spells}
use Rattle.load_text.specs.Loading.{SpellsNone, HasTokens}
use Rattle.reasons_faults.specs.ChainReasons.{AreToldOfChains}
use Rattle.reasons_faults.specs.CostReasons.{AreToldOfCosts}
use Rattle.reasons_ranges.specs.RangeReasons.{AreToldOfRanges}
use Rattle.reasons_tokens.specs.Fractions.{literal_lines}
use Rattle.reasons_tokens.specs.LeftOut.{stray_at, stray_lines, named_lines}
use Rattle.reasons_faults.specs.LimitReasons.{size_line}
use Rattle.reasons_tokens.specs.TokenReasons.{AreToldOfToken, token_at}
use Rattle.reasons_faults.specs.TreeReasons.{AreToldOfTree}

-- the numbers of faults of ranges, of chains of uses, and of costs
abbrev pub is_of_ranges : ℕ → Bool
is_of_ranges number = number == 40 || (number == 41 || (number == 42 || (number == 43 || number == 44)))

abbrev pub is_of_chains : ℕ → Bool
is_of_chains number = number == 36 || number == 46

abbrev pub is_of_costs : ℕ → Bool
is_of_costs number = number == 50

-- these lines are reported of a fault of a configuration with a number at a place: those of its kind
pub data AreTold (c : Config) (number : ℕ) (place : Place) (lines : List ℕ) : Type 0 where
  of_chains : is_of_chains number ≡ true → AreToldOfChains c number place lines → AreTold c number place lines
  of_costs : is_of_costs number ≡ true → AreToldOfCosts c place lines → AreTold c number place lines
  of_tree : is_of_chains number ≡ false → is_of_costs number ≡ false → AreToldOfTree c number place lines → AreTold c number place lines

-- of an unknown name (21) that is a type which the language leaves out, by the tokens of the text
abbrev pub left_out_of : List ℕ → List Token → ℕ → Place → List ℕ
left_out_of text tokens number place = if number == 21 then named_lines text (token_at place.offset tokens) else []

-- These lines are reported of a fault of a configuration that a text with these tokens spells: those of its kind, and what the language leaves out.
pub record AreToldOfText (text : List ℕ) (tokens : List Token) (c : Config) (number : ℕ) (place : Place) (lines : List ℕ) : Type 0 where
  pub told : List ℕ
  pub of_kind : AreTold c number place told
  pub are : lines ≡ told ++ left_out_of text tokens number place

-- These lines are reported of the refusal of a text: those of its ranges, or those of the configuration that it spells. Where it spells none, those of the
-- unexpected token (10), of the byte that has no place (1), of the literal that is not well formed (3) or of what is too many (12), and nothing of another fault or where
-- it has no tokens.
pub data IsReason (text : List ℕ) (number : ℕ) (place : Place) (lines : List ℕ) : Type 0 where
  of_ranges : is_of_ranges number ≡ true → AreToldOfRanges text number place lines → IsReason text number place lines
  unexpected : number ≡ 10 → SpellsNone text → (tokens : List Token) → AreTokens text 0 tokens → AreToldOfToken text tokens place lines → IsReason text number place lines
  of_byte : number ≡ 1 → SpellsNone text → lines ≡ stray_lines (stray_at text place.offset) → IsReason text number place lines
  of_literal : number ≡ 3 → SpellsNone text → lines ≡ literal_lines text place.offset → IsReason text number place lines
  too_many : number ≡ 12 → SpellsNone text → lines ≡ size_line → IsReason text number place lines
  unspelled : is_of_ranges number ≡ false → (number ≡ 10 → HasTokens text → ⊥) → (number ≡ 1 → ⊥) → (number ≡ 3 → ⊥) → (number ≡ 12 → ⊥) → SpellsNone text → lines ≡ [] → IsReason text number place lines
  spelled : is_of_ranges number ≡ false → (c : Config) → Spells text c → (tokens : List Token) → AreTokens text 0 tokens → AreToldOfText text tokens c number place lines → IsReason text number place lines
