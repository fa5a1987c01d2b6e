-- What the laws of the table ask of a unit, and what they say of its paths (own rules).
use Rattle.std.specs.Prelude.{◌≡◌, ℕ, ◌<◌, true, false, List, ◌∷◌, map, Some, Contains}
use Rattle.il_syntax.specs.declared.tree.Named.{Named}
use Rattle.il_syntax.specs.declared.tree.Step.{Step}
use Rattle.il_syntax.specs.declared.tree.Unit.{Unit as ProgramUnit}
use Rattle.il_syntax.specs.declared.tree.Config.{Config}
use Rattle.il_statics.specs.Types.{label_place, JumpsAt}
use Rattle.il_semantics.specs.Step.{instruction_at}
use Rattle.il_semantics.specs.Paths.{Visit, visit, IsPath, IsLongest, callee, longest, longest_path}

-- each jump has its label, ahead of it (34, 35)
pub record IsForward (u : ProgramUnit) : Type 0 where
  pub ahead : (at : ℕ) (s : Step) (label : Named) → JumpsAt u.body at s label → (to : ℕ) × (label_place u.body label.name ≡ Some to) × (at < to)

-- what each unit costs that an instruction of this one runs is the greatest cost of a path of it (own rule)
abbrev pub CallsLongest : (ProgramUnit → ℕ) → Config → ProgramUnit → Type 0
CallsLongest longest c u = (place : ℕ) (v : ProgramUnit) → callee c u (instruction_at u.body place) ≡ Some v → IsLongest c v (longest v)

-- where a path acts, each path that doesn't act there costs less than some path that does (own rule)
abbrev pub ActsForMore : Config → ProgramUnit → Visit → Type 0
ActsForMore c u v =
    v.acts ≡ true → (others : List Visit) (other : ℕ) → IsPath c u v.place (visit v.place false ∷ others) other → (acting : List Visit) × (cost : ℕ) × IsPath c u v.place (visit v.place true ∷ acting) cost × (other < cost)

-- A path of this cost at these places: where both ways cost the same, it doesn't jump, return or call (own rule).
pub record IsPathAt (c : Config) (u : ProgramUnit) (cost : ℕ) (places : List ℕ) : Type 0 where
  pub visits : List Visit
  pub path : IsPath c u 0 visits cost
  pub at : map (λ v. v.place) visits ≡ places
  pub ties : (v : Visit) → Contains visits v → ActsForMore c u v

-- The cost that the table gives of a unit is the greatest of its paths, and the places that it gives are those of a path of that cost (own rule).
pub record HasLongest (c : Config) (u : ProgramUnit) : Type 0 where
  pub greatest : IsLongest c u (longest c u)
  pub path : IsPathAt c u (longest c u) (longest_path c u)
