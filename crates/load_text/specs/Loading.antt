-- Which texts are accepted (own rules).
use Rattle.std.specs.Prelude.{◌≡◌, ◌⊎◌, ℕ, ◌≤◌, List, length, Result, IsErrAnd}
use Rattle.il_syntax.specs.declared.fault.Refusal.{Refusal}
use Rattle.il_syntax.specs.declared.fault.Refusal.TheVariants.{Fault, Memory}
use Rattle.il_syntax.specs.declared.tree.Config.{Config}
use Rattle.il_syntax.specs.declared.tree.Place.{Place}
use Rattle.il_syntax.specs.declared.token.Token.{Token}
use Rattle.il_syntax.specs.Text.{AreTokens}
use Rattle.il_syntax.specs.Grammar.{Spells, IsWithinLimits}
use Rattle.load_tokens.specs.LexicalErrors.{IsFaultOfText}
use Rattle.il_fault_laws.specs.Faults.{IsFaultOfGrammar}
use Rattle.il_statics.specs.Faults.{IsRefusedBy, BreaksDeclarations, Typing, Ordering, HasNoFault, Broken}
use Rattle.il_semantics.specs.Annotation.{Annotated}
use Rattle.ranges_pass.specs.Lacking.{BreaksRanges}
use Rattle.load_budgets.specs.Costs.{IsTooLong}
use Rattle.il_syntax.specs.declared.limits.TheConstants.{LONGEST_TEXT}

-- The text spells the configuration within the limits.
pub record IsSpelled (text : List ℕ) (c : Config) : Type 0 where
  pub spelled : Spells text c
  pub limits : IsWithinLimits text c

-- And it spells no other.
pub record SpellsOnly (text : List ℕ) (c : Config) : Type 0 where
  pub spelled : IsSpelled text c
  pub only : (d : Config) → IsSpelled text d → d ≡ c

-- And none of its rules is broken, each instruction of its units has ranges, and none of its units costs too much.
pub record IsAccepted (text : List ℕ) (c : Config) : Type 0 where
  pub spelled : IsSpelled text c
  pub declared : HasNoFault (BreaksDeclarations c)
  pub typed : HasNoFault (Broken Typing c)
  pub ordered : HasNoFault (Broken Ordering c)
  pub annotated : Annotated c
  pub affordable : HasNoFault (IsTooLong c)

-- No rule of declarations, types and order is broken.
pub record IsUnbroken (c : Config) : Type 0 where
  pub declared : HasNoFault (BreaksDeclarations c)
  pub typed : HasNoFault (Broken Typing c)
  pub ordered : HasNoFault (Broken Ordering c)

-- The fault that is named: the first of declarations; where those break nothing, the first of types; then the first of order; where nothing of these is broken, the
-- earliest instruction without ranges; and then the first unit that costs too much.
pub data IsRefusedFor (c : Config) (refusal : Refusal) : Type 0 where
  by_declarations : IsRefusedBy (BreaksDeclarations c) refusal → IsRefusedFor c refusal
  by_types : HasNoFault (BreaksDeclarations c) → IsRefusedBy (Broken Typing c) refusal → IsRefusedFor c refusal
  by_order : HasNoFault (BreaksDeclarations c) → HasNoFault (Broken Typing c) → IsRefusedBy (Broken Ordering c) refusal → IsRefusedFor c refusal
  by_ranges : IsUnbroken c → IsRefusedBy (BreaksRanges c) refusal → IsRefusedFor c refusal
  by_budgets : IsUnbroken c → Annotated c → IsRefusedBy (IsTooLong c) refusal → IsRefusedFor c refusal

-- The text spells a configuration, and this is the fault of its declarations, types, order, ranges or budgets.
abbrev pub IsSpelledWith : List ℕ → Refusal → Type 0
IsSpelledWith text refusal = (c : Config) × IsSpelled text c × IsRefusedFor c refusal

-- the text spells no configuration within the limits
abbrev pub SpellsNone : List ℕ → Type 0
SpellsNone text = (c : Config) → IsSpelled text c → ⊥

-- the text is not too long, and it has tokens
abbrev pub HasTokens : List ℕ → Type 0
HasTokens text = (length text ≤ LONGEST_TEXT) × ((ts : List Token) × AreTokens text 0 ts)

-- the numbers of the faults of a text's bytes
abbrev pub IsNumberOfBytes : ℕ → Type 0
IsNumberOfBytes number = (1 ≤ number) × (number ≤ 6)

-- the numbers of what the grammar and its limits refuse
abbrev pub IsNumberOfGrammar : ℕ → Type 0
IsNumberOfGrammar number = (10 ≤ number) × (number ≤ 12)

-- The text is not too long and has tokens, and this is their fault of the grammar and its limits: with the token that it names no text goes on, and with
-- those before it some text does. There is one at most.
pub record HasFaultOfGrammar (text : List ℕ) (refusal : Refusal) : Type 0 where
  pub short : length text ≤ LONGEST_TEXT
  pub tokens : List Token
  pub cut : AreTokens text 0 tokens
  pub is : IsFaultOfGrammar text tokens refusal

-- What a fault says of the text: from 1 to 6 that it is the fault of the text's bytes, from 10 to 12 that it is the fault of the grammar of a text that
-- spells no configuration within the limits, both by number and place; and otherwise, from 12 on, that the text spells one whose fault this is.
pub data Explains (text : List ℕ) (number : ℕ) (place : Place) : Type 0 where
  of_bytes : IsNumberOfBytes number → IsFaultOfText text (Fault number place) → SpellsNone text → Explains text number place
  of_grammar : IsNumberOfGrammar number → HasFaultOfGrammar text (Fault number place) → SpellsNone text → Explains text number place
  of_tree : 12 ≤ number → IsSpelledWith text (Fault number place) → Explains text number place

-- the same of a refusal; out of memory says nothing
abbrev pub IsExplained : List ℕ → Refusal → Type 0
IsExplained text (Fault number place) = Explains text number place
IsExplained text Memory = Unit {0}

-- where the bytes of the text have a fault, the answer is this fault, or memory ran out
abbrev pub ReportsFaultOfText : {X : Type 0} → List ℕ → Result X Refusal → Type 0
ReportsFaultOfText text answer = (number : ℕ) (place : Place) → IsFaultOfText text (Fault number place) → IsErrAnd answer (λ e. (e ≡ Fault number place) ⊎ (e ≡ Memory))

-- where the text has a fault of the grammar, the answer is this fault, or memory ran out
abbrev pub ReportsFaultOfGrammar : {X : Type 0} → List ℕ → Result X Refusal → Type 0
ReportsFaultOfGrammar text answer = (number : ℕ) (place : Place) → HasFaultOfGrammar text (Fault number place) → IsErrAnd answer (λ e. (e ≡ Fault number place) ⊎ (e ≡ Memory))
