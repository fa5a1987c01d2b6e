-- What a reader promises of all texts that have the tokens before a fault, where its token is one with which no text goes on: what is too many follows
-- these tokens.
use Rattle.std.specs.Prelude.{◌≡◌, Bool, false, IsTrue, ℕ, List, [], Some, ⊤}
use Rattle.std.specs.List.{All, slice_get}
use Rattle.il_syntax.specs.declared.token.Token.{Token}
use Rattle.il_syntax.specs.declared.keyword.Keyword.{Keyword}
use Rattle.il_syntax.specs.declared.tree.Instruction.{Instruction}
use Rattle.il_syntax.specs.declared.tree.Body.{Body}
use Rattle.il_syntax.specs.declared.tree.Unit.{Unit as ProgramUnit}
use Rattle.il_syntax.specs.declared.tree.Config.{Config}
use Rattle.il_syntax.specs.declared.fault.Refusal.{Refusal}
use Rattle.il_syntax.specs.declared.fault.Refusal.TheVariants as refusal
use Rattle.il_syntax.specs.Grammar.{Front, AfterLines, SpellsInstruction, SpellsConfig}
use Rattle.il_syntax_laws.specs.Alike.{IsEndOf}
use Rattle.il_syntax_laws.specs.GoesOn.{IsCut}
use Rattle.load_lines.specs.declared.stop.SyntaxError.{SyntaxError}
use Rattle.load_lines.specs.declared.stop.SyntaxError.TheVariants.{Unexpected, TooDeep, TooMany}
use Rattle.load_lines.specs.declared.stop.Stop.{Stop}
use Rattle.load_lines.specs.Reads.{IsFault, fault_at, number_of}
use Rattle.load_tree.specs.Refused.{IsPlaceAt, StandsAmong, IsLateSurplus}
use Rattle.load_tree.specs.GoesOn.{SpellsFrom, AreBehind}
use Rattle.il_syntax.specs.declared.limits.TheConstants.{MOST_UNITS}

-- said of an unexpected token alone
abbrev pub WhereUnexpected : SyntaxError → Type 0 → Type 0
WhereUnexpected Unexpected P = P
WhereUnexpected TooDeep P = ⊤
WhereUnexpected TooMany P = ⊤

-- In every text that has the tokens of this one before `at`, and then `vs`, what is there is a C of these.
abbrev pub Leaves : {A : Type 0} → (List Token → A → Type 0) → (List ℕ → A → Front) → List ℕ → List Token → List Token → Type 0
Leaves {A = A} C P text ts at = (other : List ℕ) (us vs rest : List Token) → IsCut text other at ts us vs → (x : A) → P other x us rest → C vs x

-- The same before a fault of an unexpected token.
pub record LeavesLate {A : Type 0} (C : List Token → A → Type 0) (P : List ℕ → A → Front) (text : List ℕ) (ts : List Token) (e : Stop) : Type 0 where
  pub fault : IsFault e → (error : SyntaxError) × (at : List Token) × (e ≡ fault_at error at) × IsEndOf at ts × WhereUnexpected error (Leaves C P text ts at)

-- No instruction ends before a fault of an unexpected token. It is the first token where no instruction more may be.
pub record EndsNone (full : Bool) (text : List ℕ) (ts : List Token) (e : Stop) : Type 0 where
  pub fault : IsFault e → (error : SyntaxError) × (at : List Token) × (e ≡ fault_at error at) × IsEndOf at ts
      × WhereUnexpected error ((IsTrue full → at ≡ ts) × ((i : Instruction) (r : List Token) → SpellsInstruction text i ts r → IsEndOf at r → ⊥))

-- the rest of a body
abbrev pub LeavesRest : Keyword → ℕ → Bool → Bool → List ℕ → List Token → Stop → Type 0
LeavesRest last depth load full text ts e = LeavesLate (λ vs x. AreBehind full vs x.0) (λ text. SpellsFrom text last depth load) text ts e

-- all of a body after its first line end
abbrev pub LeavesSteps : Keyword → List ℕ → List Token → Stop → Type 0
LeavesSteps last text ts e = LeavesLate (λ vs x. IsLateSurplus vs x.0) (λ text. SpellsFrom text last 0 false) text ts e

-- what has a body
abbrev pub LeavesWith : {A : Type 0} → (A → Body) → (List ℕ → A → Front) → List ℕ → List Token → Stop → Type 0
LeavesWith body P text ts e = LeavesLate (λ vs x. IsLateSurplus vs (body x).steps) P text ts e

-- The 65th of these units, if there is one, is among these tokens, and so does the 4097th instruction of each.
abbrev pub AreLateUnits : List Token → List ProgramUnit → Type 0
AreLateUnits vs us = ((u : ProgramUnit) → slice_get us MOST_UNITS ≡ Some u → StandsAmong vs u.place) × All (λ (u : ProgramUnit). IsLateSurplus vs u.body.steps) us

-- Before a token with which no text goes on nothing is too many: in each text that has the tokens before the first of `at`, and then others, the 65th
-- unit and the 4097th instruction of a unit are among these others. So where something is too many, 12 is told, whatever follows it.
abbrev pub NoneTooMany : List ℕ → List Token → Refusal → Type 0
NoneTooMany text tokens (refusal.Fault number place) =
    (error : SyntaxError) × (at : List Token) × (number ≡ number_of error) × IsEndOf at tokens × IsPlaceAt text place at
    × WhereUnexpected error ((other : List ℕ) (others vs : List Token) → IsCut text other at tokens others vs → (c : Config) → AfterLines (SpellsConfig other c) others [] → AreLateUnits vs c.units)
NoneTooMany text tokens refusal.Memory = ⊤
