-- What a reader promises of the tokens before a fault, and of those with it where only a limit forbids it: what they begin. The rules have no limits, so
-- what is within one, or goes beyond it, is said besides.
use Rattle.std.specs.Prelude.{◌≡◌, ◌<◌, ◌≤◌, ℕ, Bool, false, IsTrue, List, [], ◌∷◌, length, ⊤}
use Rattle.std.specs.List.{All}
use Rattle.il_syntax.specs.declared.token.Token.{Token}
use Rattle.il_syntax.specs.declared.keyword.Keyword.{Keyword}
use Rattle.il_syntax.specs.declared.keyword.Keyword.TheVariants as word
use Rattle.il_syntax.specs.declared.tree.Place.{Place}
use Rattle.il_syntax.specs.declared.tree.Named.{Named}
use Rattle.il_syntax.specs.declared.tree.Scalar.{Scalar}
use Rattle.il_syntax.specs.declared.tree.Declaration.{Declaration}
use Rattle.il_syntax.specs.declared.tree.Instruction.{Instruction}
use Rattle.il_syntax.specs.declared.tree.Step.{Step}
use Rattle.il_syntax.specs.declared.tree.Body.{Body}
use Rattle.il_syntax.specs.declared.tree.Unit.{Unit as ProgramUnit}
use Rattle.il_syntax.specs.declared.tree.Config.{Config}
use Rattle.il_syntax.specs.Grammar.{Front, skip_line_ends, ◌⨾◌, ◌⋯◌, At, AfterLines, Repeats, TheWord, TheName, SpellsFilledList, SpellsInstruction, SpellsStep, SpellsLabelLine, SpellsBody, SpellsUnit, SpellsConfig, is_nested, greatest_depth, Gap, tight}
use Rattle.il_syntax_laws.specs.GoesOn.{Test, always, ended, BeginsBy, Begins}
use Rattle.load_lines.specs.declared.stop.SyntaxError.{SyntaxError}
use Rattle.load_lines.specs.declared.stop.SyntaxError.TheVariants.{Unexpected, TooDeep, TooMany}
use Rattle.load_lines.specs.declared.stop.Stop.{Stop}
use Rattle.load_lines.specs.Reads.{IsFault, fault_at, Further}
use Rattle.load_lines.specs.Settings.{PlacedWord}
use Rattle.load_tree.specs.Bodies.{bare}
use Rattle.load_tree.specs.Refused.{IsItsPlace, HasSurplus, GoesBeyond, StandsAmong, IsLateSurplus, KeepsBefore}
use Rattle.load_tree.specs.Lists.{SpellsFull}
use Rattle.load_tree.specs.Insides.{LacksList, SpellsVariables, SpellsSomeExternals}
use Rattle.load_tree.specs.Headings.{SpellsResultAt}
use Rattle.il_syntax.specs.declared.limits.TheConstants.{MOST_UNITS, MOST_OPEN}

-- A rule, and what its value keeps besides.
abbrev pub Within : {A : Type 0} → (A → Type 0) → (List ℕ → A → Front) → List ℕ → A → Front
Within K P text x ts rest = P text x ts rest × K x

-- A fault is where the tokens before its place are the beginning of a P that keeps K, with the tokens that complete it and all after. Where only a
-- limit forbids its token, it follows the gap, and with it others are the beginning of a P that goes beyond the limit as L says.
pub record BreaksOffBy {A : Type 0} (look : Gap) (test : Test) (K : List Token → A → Type 0) (L : SyntaxError → Token → A → Type 0) (P : List ℕ → A → Front) (text : List ℕ) (ts : List Token) (e : Stop) : Type 0 where
  pub fault : IsFault e → (error : SyntaxError) × (at : List Token) × (e ≡ fault_at error at) × BeginsBy test (λ vs. Within (K vs) P) text ts at
      × Further (λ error t back. (length back < length (look ts)) × Begins test (Within (L error t) P) text ts back) error at

-- with so many parentheses open, these instructions open at most 16 at once
abbrev pub StaysShallow : ℕ → List Step → Type 0
StaysShallow depth steps = greatest_depth depth steps ≤ MOST_OPEN

-- All of these instructions but the first are at these tokens, and so does the first where the body is full.
abbrev pub AreBehind : Bool → List Token → List Step → Type 0
AreBehind full vs [] = ⊤
AreBehind full vs (s ∷ steps) = (IsTrue full → StandsAmong vs s.place) × All (λ (s : Step). StandsAmong vs s.place) steps

-- what the rest of a body keeps
abbrev pub KeepsRest : ℕ → Bool → List Token → List Step → Type 0
KeepsRest depth full vs steps = StaysShallow depth steps × AreBehind full vs steps

-- what a body keeps
abbrev pub KeepsSteps : List Token → List Step → Type 0
KeepsSteps vs steps = StaysShallow 0 steps × IsLateSurplus vs steps

-- Where one instruction is too many, the first of these is, and is at the token of the fault, after its labels: the body is full.
abbrev pub BeginsSurplus : Bool → SyntaxError → Token → List Step → Type 0
BeginsSurplus full Unexpected t steps = ⊤
BeginsSurplus full TooDeep t steps = ⊤
BeginsSurplus full TooMany t [] = ⊥
BeginsSurplus full TooMany t (s ∷ steps) = IsTrue full × IsItsPlace t s.place

-- what has a body breaks off
abbrev pub BreaksWith : {A : Type 0} → Gap → (A → Body) → (List ℕ → A → Front) → List ℕ → List Token → Stop → Type 0
BreaksWith look body P text ts e = BreaksOffBy look always (λ vs x. KeepsSteps vs (body x).steps) (λ error t x. HasSurplus error t (body x).steps) P text ts e

-- instructions, and the end of the body with the labels that name it
abbrev pub Rest : Type 0
Rest = List Step × (List Named × Place)

abbrev pub SpellsRestLines : List ℕ → Keyword → Rest → Front
SpellsRestLines text last x = Repeats (SpellsStep text) x.0 (Repeats (SpellsLabelLine text) x.1.0 (At x.1.1 (TheWord text last)))

-- what is in a body where `depth` parentheses are open, and `load` says that a load has to follow
abbrev pub SpellsFrom : List ℕ → Keyword → ℕ → Bool → Rest → Front
SpellsFrom text last depth load x ts rest = IsTrue (is_nested depth load x.0) × SpellsRestLines text last x ts rest

-- the same, where an instruction without labels comes first
abbrev pub SpellsPlacedFrom : List ℕ → Keyword → ℕ → Bool → (Place × Instruction) × Rest → Front
SpellsPlacedFrom text last depth load x ts rest =
    IsTrue (is_nested depth load (bare x.0.0 x.0.1 ∷ x.1.0)) × (At x.0.0 (SpellsInstruction text x.0.1) ⋯ SpellsRestLines text last x.1) ts rest

-- all of its instructions
abbrev pub all_steps : (Place × Instruction) × Rest → List Step
all_steps x = bare x.0.0 x.0.1 ∷ x.1.0

-- such a body breaks off; `full` says that it has as many instructions as it may have
abbrev pub BreaksFrom : Keyword → ℕ → Bool → Bool → List ℕ → List Token → Stop → Type 0
BreaksFrom last depth load full text ts e = BreaksOffBy tight always (λ vs x. KeepsRest depth full vs x.0) (λ error t x. BeginsSurplus full error t x.0) (λ text. SpellsFrom text last depth load) text ts e

abbrev pub BreaksPlaced : Keyword → ℕ → Bool → Bool → List ℕ → List Token → Stop → Type 0
BreaksPlaced last depth load full text ts e =
    BreaksOffBy tight always (λ vs x. KeepsRest depth full vs (all_steps x)) (λ error t x. BeginsSurplus full error t (all_steps x)) (λ text. SpellsPlacedFrom text last depth load) text ts e

-- all of a body after its first line end
abbrev pub BreaksSteps : Keyword → List ℕ → List Token → Stop → Type 0
BreaksSteps last text ts e = BreaksOffBy tight always (λ vs x. KeepsSteps vs x.0) (λ error t x. HasSurplus error t x.0) (λ text. SpellsFrom text last 0 false) text ts e

-- what follows the heading of a unit
abbrev pub SpellsProgramRest : List ℕ → List Declaration × List Declaration × Body → Front
SpellsProgramRest text x = LacksList text word.VarInput ⨾ LacksList text word.VarOutput ⨾ SpellsVariables text x.0 ⨾ SpellsSomeExternals text x.1 ⨾ SpellsBody text word.EndProgram x.2

abbrev pub SpellsBlockRest : List ℕ → List Declaration × List Declaration × List Declaration × Body → Front
SpellsBlockRest text x =
    SpellsFilledList text word.VarInput x.0 ⨾ SpellsFilledList text word.VarOutput x.1 ⨾ SpellsVariables text x.2 ⨾ LacksList text word.VarExternal ⨾ SpellsBody text word.EndFunctionBlock x.3

abbrev pub SpellsFunctionRest : List ℕ → List Declaration × List Declaration × Body → Front
SpellsFunctionRest text x = SpellsFull text word.VarInput x.0 ⨾ LacksList text word.VarOutput ⨾ SpellsVariables text x.1 ⨾ LacksList text word.VarExternal ⨾ SpellsBody text word.EndFunction x.2

-- units
abbrev pub SpellsWholeProgram : List ℕ → Place × Named × (List Declaration × List Declaration × Body) → Front
SpellsWholeProgram text x = PlacedWord text word.Program x.0 ⋯ TheName text x.1 ⨾ SpellsProgramRest text x.2

abbrev pub SpellsWholeBlock : List ℕ → Place × Named × (List Declaration × List Declaration × List Declaration × Body) → Front
SpellsWholeBlock text x = PlacedWord text word.FunctionBlock x.0 ⋯ TheName text x.1 ⨾ SpellsBlockRest text x.2

abbrev pub SpellsWholeFunction : List ℕ → Place × Named × (Place × Scalar) × (List Declaration × List Declaration × Body) → Front
SpellsWholeFunction text x = PlacedWord text word.Function x.0 ⋯ TheName text x.1 ⨾ SpellsResultAt text x.2 ⨾ SpellsFunctionRest text x.3

-- units of any number, and CONFIGURATION
abbrev pub SpellsAllUnits : List ℕ → List ProgramUnit → Front
SpellsAllUnits text us = Repeats (SpellsUnit text) us (TheWord text word.Configuration)

-- neither this word nor a line end is there
abbrev pub stopped : Keyword → Test
stopped keyword other vs = ((rest : List Token) → TheWord other keyword vs rest → ⊥) × (skip_line_ends vs ≡ vs)

-- a whole text
abbrev pub SpellsAll : List ℕ → Config → Front
SpellsAll text c = AfterLines (SpellsConfig text c)

-- what units keep
abbrev pub KeepsUnits : List Token → List ProgramUnit → Type 0
KeepsUnits vs us = All (λ (u : ProgramUnit). greatest_depth 0 u.body.steps ≤ MOST_OPEN) us × (length us ≤ MOST_UNITS) × All (λ (u : ProgramUnit). IsLateSurplus vs u.body.steps) us

-- units, and a whole text, that break off
abbrev pub BreaksUnits : List ℕ → List Token → Stop → Type 0
BreaksUnits text ts e = BreaksOffBy tight always KeepsUnits GoesBeyond SpellsAllUnits text ts e

abbrev pub BreaksAll : List ℕ → List Token → Stop → Type 0
BreaksAll text ts e = BreaksOffBy tight ended KeepsBefore (λ error t c. GoesBeyond error t c.units) SpellsAll text ts e
