-- How many operations a scan sets aside: no more than parentheses are open in the text (own rules).
use Rattle.std.specs.Prelude.{◌≡◌, ℕ, zero, suc, ◌≤◌, List, [], ◌∷◌, length, Some}
use Rattle.il_syntax.specs.declared.tree.Config.{Config}
use Rattle.il_syntax.specs.declared.tree.Step.{Step as BodyStep}
use Rattle.il_syntax.specs.declared.tree.Unit.{Unit as ProgramUnit}
use Rattle.il_syntax.specs.Grammar.{depth_after}
use Rattle.il_statics.specs.Names.{unit_named}
use Rattle.il_semantics.specs.State.{Frame}

-- how many parentheses are open before a place, where so many are open before the first (3.2.2)
abbrev pub open_at : ℕ → List BodyStep → ℕ → ℕ
open_at depth [] place = depth
open_at depth (s ∷ steps) zero = depth
open_at depth (s ∷ steps) (suc place) = open_at (depth_after depth s.instruction) steps place

-- a frame has set aside no more operations than parentheses are open at its place
abbrev pub IsNestedFrame : Config → Frame → Type 0
IsNestedFrame c f = (u : ProgramUnit) → unit_named c f.unit ≡ Some u → length f.deferred ≤ open_at 0 u.body.steps f.place

-- so have all frames
abbrev pub AreNested : Config → List Frame → Type 0
AreNested c [] = Unit {0}
AreNested c (f ∷ fs) = IsNestedFrame c f × AreNested c fs
