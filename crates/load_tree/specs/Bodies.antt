-- What a reader of a body promises.
use Rattle.std.specs.Prelude.{◌≡◌, ◌⊎◌, ℕ, ◌<◌, ◌≤◌, Bool, true, false, not, ◌&&◌, ◌||◌, ◌==◌, if◌then◌else◌, IsTrue, List, [], length, drop, Option, Some, None, ⊤}
use Rattle.il_syntax.specs.declared.token.Token.{Token}
use Rattle.il_syntax.specs.declared.token.Sign.TheVariants.{Ampersand, CloseParenthesis}
use Rattle.il_syntax.specs.declared.keyword.Keyword.{Keyword}
use Rattle.il_syntax.specs.declared.keyword.Keyword.TheVariants as word
use Rattle.il_syntax.specs.declared.tree.Place.{Place}
use Rattle.il_syntax.specs.declared.tree.Named.{Named}
use Rattle.il_syntax.specs.declared.tree.Instruction.{Instruction}
use Rattle.il_syntax.specs.declared.tree.Step.{Step}
use Rattle.il_syntax.specs.declared.tree.Body.{Body}
use Rattle.il_syntax.specs.Grammar.{Front, skip_line_ends, ◌⋯◌, At, Repeats, TheWord, TheLineEnd, SpellsInstruction, SpellsLabelled, SpellsStep, SpellsLabelLine, may_stand, depth_after, is_nested, greatest_depth}
use Rattle.il_syntax_laws.specs.Alike.{IsEndOf, AreAlike}
use Rattle.il_syntax_laws.specs.GoesOn.{IsCut}
use Rattle.load_lines.specs.Lead.{lead_at}
use Rattle.load_lines.specs.Reads.{IsFault, fault_at, turn, error_of, GoesOnNoMore}
use Rattle.load_lines.specs.declared.stop.SyntaxError.{SyntaxError}
use Rattle.load_lines.specs.declared.stop.SyntaxError.TheVariants.{Unexpected, TooDeep, TooMany}
use Rattle.load_lines.specs.declared.stop.Stop.{Stop}
use Rattle.load_lines.specs.declared.lead.Lead.{Lead}
use Rattle.load_lines.specs.declared.lead.Lead.TheVariants as lead
use Rattle.load_tree.specs.Refused.{StandsAmong}
use Rattle.load_tree.specs.declared.bodies.Entry.{Entry}
use Rattle.load_tree.specs.declared.bodies.Entry.TheVariants as entry
use Rattle.il_syntax.specs.declared.limits.TheConstants.{MOST_INSTRUCTIONS, MOST_OPEN}

-- whether a `)` begins so
abbrev pub closes_lead : Lead → Bool
closes_lead (lead.Sign CloseParenthesis) = true
closes_lead _ = false

-- whether an instruction that leaves the body begins so
abbrev pub leaves_lead : Lead → Bool
leaves_lead (lead.Reserved (word.Jump condition)) = true
leaves_lead (lead.Reserved (word.Return condition)) = true
leaves_lead (lead.Reserved (word.Call condition)) = true
leaves_lead _ = false

-- whether a word that ends a body begins so
abbrev pub ends_lead : Lead → Bool
ends_lead (lead.Reserved word.EndFunction) = true
ends_lead (lead.Reserved word.EndFunctionBlock) = true
ends_lead (lead.Reserved word.EndProgram) = true
ends_lead _ = false

-- whether a load begins so
abbrev pub loads_lead : Lead → Bool
loads_lead (lead.Reserved (word.Load negated)) = true
loads_lead _ = false

-- whether an instruction begins so
abbrev pub begins_lead : Lead → Bool
begins_lead lead.Name = true
begins_lead (lead.Sign Ampersand) = true
begins_lead (lead.Sign CloseParenthesis) = true
begins_lead (lead.Reserved (word.Load negated)) = true
begins_lead (lead.Reserved (word.Store store)) = true
begins_lead (lead.Reserved word.Not) = true
begins_lead (lead.Reserved (word.Operate op)) = true
begins_lead (lead.Reserved (word.Jump condition)) = true
begins_lead (lead.Reserved (word.Return condition)) = true
begins_lead (lead.Reserved (word.Call condition)) = true
begins_lead _ = false

-- whether what begins so may be where `depth` parentheses are open, and `load` says that a load has to follow
abbrev pub may_begin : ℕ → Bool → Lead → Bool
may_begin depth load l = if depth == 0 then not (closes_lead l) else (not (leaves_lead l) && (not load || loads_lead l))

-- an instruction without labels
abbrev pub bare : Place → Instruction → Step
bare place i = record { labels = []; place = place; instruction = i }

-- an instruction at its place, which may be there and opens no 17th parenthesis; none where the body is full
abbrev pub SpellsPlaced : List ℕ → ℕ → Bool → Bool → Place × Instruction → Front
SpellsPlaced text depth load full x ts rest =
    At x.0 (SpellsInstruction text x.1) ts rest × IsTrue (may_stand depth load (bare x.0 x.1)) × (depth_after depth x.1 ≤ MOST_OPEN) × IsTrue (not full)

-- whether an instruction keeps the limit that a fault is about
abbrev pub FitsBy : SyntaxError → ℕ → Bool → Instruction → Type 0
FitsBy Unexpected depth full i = ⊤
FitsBy TooDeep depth full i = depth_after depth i ≤ MOST_OPEN
FitsBy TooMany depth full i = IsTrue (not full)

-- an instruction at its place, which may be there, within the limit that a fault is about
abbrev pub SpellsPlacedBy : ℕ → Bool → Bool → SyntaxError → List ℕ → Place × Instruction → Front
SpellsPlacedBy depth load full error text x ts rest =
    At x.0 (SpellsInstruction text x.1) ts rest × IsTrue (may_stand depth load (bare x.0 x.1)) × FitsBy error depth full x.1

-- A fault says that with the token at its place no such instruction goes on. Outside parentheses it is not the name that an
-- instruction begins with: that may be a label, as the token after it tells.
pub record RefusesPlaced (text : List ℕ) (depth : ℕ) (load full : Bool) (ts : List Token) (e : Stop) : Type 0 where
  pub fault : IsFault e → (error : SyntaxError) × (at : List Token) × (e ≡ fault_at error at) × IsEndOf at ts
      × (depth ≡ 0 → lead_at text ts ≡ lead.Name → IsEndOf (turn error text at) (drop 1 ts)) × GoesOnNoMore (SpellsPlacedBy depth load full (error_of e)) text ts (turn error text at)

-- What labels were read: they name what follows them, in alike tokens too, and in cut ones no instruction comes before their end. Only where the last is alone on its line may
-- the body end there. Whether a name after them is a label more, the token after the name tells.
pub record HasLabels (text : List ℕ) (start : List Token) (ns : List Named) (alone : Bool) (ts : List Token) : Type 0 where
  pub inside : IsEndOf ts start
  pub names : (p : Place) (i : Instruction) (r : List Token) → At p (SpellsInstruction text i) ts r → SpellsLabelled text ns (At p (SpellsInstruction text i)) start r
  pub ends : IsTrue alone → (k : Keyword) (p : Place) (r : List Token) → At p (TheWord text k) ts r → Repeats (SpellsLabelLine text) ns (At p (TheWord text k)) start r
  pub left : (other : List ℕ) (back us : List Token) → AreAlike text other back start us → length back ≤ length ts → (lead_at text ts ≡ lead.Name → length back ≤ length (drop 1 ts))
      → (vs : List Token) × AreAlike text other back ts vs
      × ((p : Place) (i : Instruction) (ys : List Named) (r : List Token) → SpellsLabelled other ys (At p (SpellsInstruction other i)) us r → (ys ≡ ns) × At p (SpellsInstruction other i) vs r)
      × ((k : Keyword) (p : Place) (ys : List Named) (r : List Token) → Repeats (SpellsLabelLine other) ys (At p (TheWord other k)) us r → (ys ≡ ns) × At p (TheWord other k) vs r × IsTrue alone)
  pub gone : (other : List ℕ) (at us vs : List Token) → IsEndOf at ts → IsCut text other at start us vs → ((length at < length ts) ⊎ (skip_line_ends vs ≡ vs))
      → (n : List Token) × IsCut text other at ts n vs × ((p : Place) (i : Instruction) (r : List Token) → At p (SpellsInstruction other i) n r → SpellsLabelled other ns (At p (SpellsInstruction other i)) us r)
  pub past : (other : List ℕ) (us vs : List Token) → IsCut text other ts start us vs → (p : Place) (i : Instruction) (ys : List Named) (r : List Token) → SpellsLabelled other ys (At p (SpellsInstruction other i)) us r
      → StandsAmong vs p

-- the word that ends the body, which is taken where it may be, or isn't there
abbrev pub TakesEnd : List ℕ → Keyword → Bool → List Token → Option Place → List Token → Type 0
TakesEnd text last alone ts (Some p) rest = IsTrue alone × At p (TheWord text last) ts rest
TakesEnd text last alone ts None rest = (rest ≡ ts) × ((p : Place) (r : List Token) → At p (TheWord text last) ts r → IsTrue alone → ⊥)

-- an instruction with its labels, or the end of the body
abbrev pub SpellsEntry : List ℕ → Keyword → Entry → Front
SpellsEntry text last (entry.Step s) = SpellsStep text s
SpellsEntry text last (entry.End labels place) = Repeats (SpellsLabelLine text) labels (At place (TheWord text last))

-- whether it may come there
abbrev pub MayCome : ℕ → Bool → Bool → Entry → Type 0
MayCome depth load full (entry.Step s) = IsTrue (may_stand depth load s) × (depth_after depth s.instruction ≤ MOST_OPEN) × IsTrue (not full)
MayCome depth load full (entry.End labels place) = depth ≡ 0

abbrev pub SpellsNext : List ℕ → Keyword → ℕ → Bool → Bool → Entry → Front
SpellsNext text last depth load full x ts rest = SpellsEntry text last x ts rest × MayCome depth load full x

-- the same, within the limit that a fault is about
abbrev pub MayComeBy : SyntaxError → ℕ → Bool → Bool → Entry → Type 0
MayComeBy error depth load full (entry.Step s) = IsTrue (may_stand depth load s) × FitsBy error depth full s.instruction
MayComeBy error depth load full (entry.End labels place) = depth ≡ 0

abbrev pub SpellsNextBy : Keyword → ℕ → Bool → Bool → SyntaxError → List ℕ → Entry → Front
SpellsNextBy last depth load full error text x ts rest = SpellsEntry text last x ts rest × MayComeBy error depth load full x

-- it leaves fewer tokens if it is an instruction
abbrev pub ShortensByStep : List Token → Entry → List Token → Type 0
ShortensByStep ts (entry.Step s) rest = length rest < length ts
ShortensByStep ts (entry.End labels place) rest = ⊤

-- a word that ends a body
abbrev pub IsLast : Keyword → Type 0
IsLast word.EndFunction = ⊤
IsLast word.EndFunctionBlock = ⊤
IsLast word.EndProgram = ⊤
IsLast _ = ⊥

-- the instructions of a body and its end, within the limits
abbrev pub SpellsSteps : List ℕ → Keyword → Body → Front
SpellsSteps text last b ts rest =
    Repeats (SpellsStep text) b.steps (Repeats (SpellsLabelLine text) b.last_labels (At b.end (TheWord text last))) ts rest
    × IsTrue (is_nested 0 false b.steps) × (length b.steps ≤ MOST_INSTRUCTIONS) × (greatest_depth 0 b.steps ≤ MOST_OPEN)

-- whether a body keeps the limit that a fault is about
abbrev pub IsFewBy : SyntaxError → Body → Type 0
IsFewBy Unexpected b = ⊤
IsFewBy TooDeep b = greatest_depth 0 b.steps ≤ MOST_OPEN
IsFewBy TooMany b = length b.steps ≤ MOST_INSTRUCTIONS

-- the instructions of a body and its end, within the limit that a fault is about
abbrev pub SpellsStepsBy : Keyword → SyntaxError → List ℕ → Body → Front
SpellsStepsBy last error text b ts rest =
    Repeats (SpellsStep text) b.steps (Repeats (SpellsLabelLine text) b.last_labels (At b.end (TheWord text last))) ts rest × IsTrue (is_nested 0 false b.steps) × IsFewBy error b

-- a body within the limit that a fault is about
abbrev pub SpellsBodyBy : Keyword → SyntaxError → List ℕ → Body → Front
SpellsBodyBy last error text b = TheLineEnd ⋯ SpellsStepsBy last error text b

-- a body within the limits
abbrev pub SpellsSmallBody : List ℕ → Keyword → Body → Front
SpellsSmallBody text last b = TheLineEnd ⋯ SpellsSteps text last b
