-- Lists by name and manner (own rules).
use Rattle.std.specs.Prelude.{◌≡◌, ℕ, ◌&&◌, if◌then◌else◌, List, [], ◌++◌, map, bytes_eq}
use Rattle.il_syntax.specs.declared.tree.Step.{Step}
use Rattle.il_syntax.specs.declared.tree.Unit.{Unit as ProgramUnit}
use Rattle.il_statics.specs.Names.{Spelling}
use Rattle.show_names.specs.Uses.{is_manner}
use Rattle.show_names.specs.Xref.{UnitPlaces, placed, unit_places_shown, use_lines, global_places}
use Rattle.show_names.specs.Gathered.{IsSound, list_of}
use Rattle.show_names.specs.declared.uses.Manner.{Manner}
use Rattle.show_names.specs.declared.uses.Manner.TheVariants.{Read, Written, Called}
use Rattle.show_names.specs.declared.global_uses.UnitLines.{UnitLines}
use Rattle.show_names.specs.declared.lines.Lines.{Lines}

-- the list of a name in a manner
abbrev pub line_of : {T : Type 0} → Lines T → Spelling → Manner → List T
line_of l name Read = list_of l.read name
line_of l name Written = list_of l.written name
line_of l name Called = list_of l.called name

-- the lists of each manner are sound
pub record AreSound {T : Type 0} (l : Lines T) : Type 0 where
  pub read : IsSound l.read
  pub written : IsSound l.written
  pub called : IsSound l.called

-- what items that are pushed at one name and manner add to the list of another
abbrev pub items_for : {T : Type 0} → Manner → Spelling → List T → Spelling → Manner → List T
items_for manner name items other kind = if is_manner kind manner && bytes_eq name other then items else []

-- items were pushed
abbrev pub ArePushed : {T : Type 0} → Lines T → Lines T → Manner → Spelling → List T → Type 0
ArePushed before after manner name items = (other : Spelling) (kind : Manner) → line_of after other kind ≡ line_of before other kind ++ items_for manner name items other kind

-- the lists are the lines in which steps use each name
abbrev pub HaveUses : Lines ℕ → List Step → Type 0
HaveUses l steps = (name : Spelling) (manner : Manner) → line_of l name manner ≡ use_lines steps name manner

-- PLACES

-- the places of a name in a manner
abbrev pub places_in : Lines UnitLines → Spelling → Manner → List UnitPlaces
places_in l name manner = map unit_places_shown (line_of l name manner)

-- places were pushed
abbrev pub ArePlaced : Lines UnitLines → Lines UnitLines → Manner → Spelling → List UnitPlaces → Type 0
ArePlaced before after manner name places = (other : Spelling) (kind : Manner) → places_in after other kind ≡ places_in before other kind ++ items_for manner name places other kind

-- the lists are the places where units use each global
abbrev pub HavePlaces : Lines UnitLines → List ProgramUnit → Type 0
HavePlaces l units = (name : Spelling) (manner : Manner) → places_in l name manner ≡ global_places units name manner

-- the unit and the lines in which it uses a name, if it does
abbrev pub unit_lines : Manner → Spelling → ProgramUnit → List UnitPlaces
unit_lines manner name unit = placed unit.name.name (use_lines unit.body.steps name manner)

-- what the places of one name in a unit add to those of another
abbrev pub places_at : ProgramUnit → Spelling → Spelling → Manner → List UnitPlaces
places_at unit name other manner = if bytes_eq name other then unit_lines manner name unit else []
