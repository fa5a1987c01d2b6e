-- What is seen of a scan where it is (own rules).
use Rattle.std.specs.Prelude.{◌≡◌, ℕ, List, [], ◌∷◌}
use Rattle.il_syntax.specs.declared.tree.Config.{Config}
use Rattle.base_maps.specs.NameMap.{Text}
use Rattle.il_semantics.specs.State.{Frame}
use Rattle.scan_loop.specs.Framing.{path_over}
use Rattle.scan_task.specs.declared.looking.Standpoint.{Standpoint}

-- where a body is: the name of its unit, and the place
abbrev pub stand_of : Frame → Text × ℕ
stand_of f = (f.unit, f.place)

-- the same as it is shown
abbrev pub shown_stand : Standpoint → Text × ℕ
shown_stand s = (s.unit.now, s.place)

-- each body has the path of what the one below it runs
abbrev pub AreStacked : Config → List Frame → Type 0
AreStacked c [] = Unit {0}
AreStacked c (f ∷ fs) = (f.path ≡ path_over c fs) × AreStacked c fs
