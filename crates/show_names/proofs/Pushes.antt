-- Lists by name and manner: what is pushed in one manner leaves the others.
use Rattle.std.proofs.Common.{◌≡◌, ℕ, Bool, true, false, ◌&&◌, if◌then◌else◌, List, [], ◌∷◌, ◌++◌, flat_map, map, refl, sym, ap, ◌∙◌, subst, append_assoc, take, length, get_or, ◌+◌, ◌<◌}
use Rattle.std.proofs.lemmas.List.{append-nil, map-append, take_more}
use Rattle.std.proofs.lemmas.Grind.{flat_map-append}
use Rattle.std.specs.Prelude.{bytes_eq, is_some}
use Rattle.il_syntax.specs.declared.tree.Step.{Step}
use Rattle.il_syntax.specs.declared.tree.Unit.{Unit as ProgramUnit}
use Rattle.base_maps.specs.NameMap.{NameMap, get, insert}
use Rattle.il_statics.specs.Names.{Spelling}
use Rattle.show_names.specs.Names.{is_declared}
use Rattle.show_names.specs.Uses.{NameUse, is_manner, use_shown}
use Rattle.show_names.specs.Xref.{UnitPlaces, is_there, placed, unit_places_shown, use_line, use_lines, unit_places, global_places}
use Rattle.show_names.specs.Gathered.{list_of, items_at}
use Rattle.show_names.specs.Lines.{line_of, items_for, ArePushed, ArePlaced, HaveUses, places_in, unit_lines, places_at}
use Rattle.show_names.specs.declared.uses.Manner.{Manner}
use Rattle.show_names.specs.declared.uses.Manner.TheVariants.{Read, Written, Called}
use Rattle.show_names.specs.declared.uses.Use.{Use}
use Rattle.show_names.specs.declared.gathered.Gathered.{Gathered}
use Rattle.show_names.specs.declared.global_uses.UnitLines.{UnitLines}
use Rattle.show_names.specs.declared.lines.Lines.{Lines}
use Rattle.show_names.proofs.Bytes.{same_bytes, bytes_same}
use Rattle.show_names.proofs.Seen.{get_after-same, get_after-other}

-- PUSHES

module _ {T : Type 0} where
  kept : (before after : Lines T) (other : Spelling) (kind : Manner) → line_of after other kind ≡ line_of before other kind → line_of after other kind ≡ line_of before other kind ++ []
  kept before after other kind h = h ∙ sym (append-nil _)

  pub pushed_read : (before after : Lines T) (name : Spelling) (piece : List T) → after.written ≡ before.written → after.called ≡ before.called
      → ((other : Spelling) → list_of after.read other ≡ list_of before.read other ++ items_at name piece other) → ArePushed before after Read name piece
  pushed_read before after name piece written called h = go
    where
      go : ArePushed before after Read name piece
      go other Read = h other
      go other Written = kept before after other Written (ap (λ (t : Gathered T). list_of t other) written)
      go other Called = kept before after other Called (ap (λ (t : Gathered T). list_of t other) called)

  pub pushed_written : (before after : Lines T) (name : Spelling) (piece : List T) → after.read ≡ before.read → after.called ≡ before.called
      → ((other : Spelling) → list_of after.written other ≡ list_of before.written other ++ items_at name piece other) → ArePushed before after Written name piece
  pushed_written before after name piece read called h = go
    where
      go : ArePushed before after Written name piece
      go other Read = kept before after other Read (ap (λ (t : Gathered T). list_of t other) read)
      go other Written = h other
      go other Called = kept before after other Called (ap (λ (t : Gathered T). list_of t other) called)

  pub pushed_called : (before after : Lines T) (name : Spelling) (piece : List T) → after.read ≡ before.read → after.written ≡ before.written
      → ((other : Spelling) → list_of after.called other ≡ list_of before.called other ++ items_at name piece other) → ArePushed before after Called name piece
  pushed_called before after name piece read written h = go
    where
      go : ArePushed before after Called name piece
      go other Read = kept before after other Read (ap (λ (t : Gathered T). list_of t other) read)
      go other Written = kept before after other Written (ap (λ (t : Gathered T). list_of t other) written)
      go other Called = h other

-- USES OF A UNIT

-- the line of a use is pushed
pub use_pushed : (before after : Lines ℕ) (u : Use) → ArePushed before after u.manner u.name.now (u.line ∷ []) → (name : Spelling) (manner : Manner) → line_of after name manner ≡ line_of before name manner ++ use_line manner name (use_shown u)
use_pushed before after u h name manner = h name manner

-- the uses that are left are still to come
abbrev pub StillHave : Lines ℕ → List NameUse → List Step → Type 0
StillHave l left steps = (name : Spelling) (manner : Manner) → line_of l name manner ++ flat_map (use_line manner name) left ≡ use_lines steps name manner

pub uses_first : (l : Lines ℕ) (left : List NameUse) (steps : List Step) → ((name : Spelling) (manner : Manner) → line_of l name manner ≡ []) → ((name : Spelling) (manner : Manner) → flat_map (use_line manner name) left ≡ use_lines steps name manner) → StillHave l left steps
uses_first l left steps empty all name manner = ap (λ t. t ++ flat_map (use_line manner name) left) (empty name manner) ∙ all name manner

pub uses_next : (before after : Lines ℕ) (u : Use) (left rest : List NameUse) (steps : List Step) → left ≡ use_shown u ∷ rest
    → ((name : Spelling) (manner : Manner) → line_of after name manner ≡ line_of before name manner ++ use_line manner name (use_shown u))
    → StillHave before left steps → StillHave after rest steps
uses_next before after u left rest steps is added h name manner =
    ap (λ t. t ++ flat_map (use_line manner name) rest) (added name manner)
    ∙ append_assoc (line_of before name manner) (use_line manner name (use_shown u)) (flat_map (use_line manner name) rest)
    ∙ ap (λ us. line_of before name manner ++ flat_map (use_line manner name) us) (sym is) ∙ h name manner

pub uses_last : (l : Lines ℕ) (left : List NameUse) (steps : List Step) → left ≡ [] → StillHave l left steps → HaveUses l steps
uses_last l left steps none h name manner = sym (append-nil _) ∙ ap (λ us. line_of l name manner ++ flat_map (use_line manner name) us) (sym none) ∙ h name manner

-- GLOBALS

if_nothing : {T : Type 0} (b : Bool) → ◌≡◌ {A = List T} (if b then [] else []) []
if_nothing true = refl
if_nothing false = refl

map_if : {X Y : Type 0} (f : X → Y) (b : Bool) (xs : List X) → map f (if b then xs else []) ≡ (if b then map f xs else [])
map_if f true xs = refl
map_if f false xs = refl

-- what is pushed is placed
pub pushed_placed : (before after : Lines UnitLines) (manner : Manner) (name : Spelling) (items : List UnitLines) (places : List UnitPlaces) → map unit_places_shown items ≡ places → ArePushed before after manner name items → ArePlaced before after manner name places
pushed_placed before after manner name items places is h other kind =
    ap (map unit_places_shown) (h other kind) ∙ map-append unit_places_shown (line_of before other kind) (items_for manner name items other kind)
    ∙ ap (λ l. places_in before other kind ++ l) (map_if unit_places_shown (is_manner kind manner && bytes_eq name other) items ∙ ap (λ l. if is_manner kind manner && bytes_eq name other then l else []) is)

-- a unit that does not use the name adds nothing
pub nothing_pushed : (l : Lines UnitLines) (manner : Manner) (name : Spelling) (unit : ProgramUnit) → use_lines unit.body.steps name manner ≡ [] → ArePlaced l l manner name (unit_lines manner name unit)
nothing_pushed l manner name unit none other kind =
    sym (ap (λ p. places_in l other kind ++ items_for manner name (placed unit.name.name p) other kind) none
    ∙ ap (λ p. places_in l other kind ++ p) (if_nothing _) ∙ append-nil _)

-- the lines of a unit that uses the name
pub some_placed : (unit : Spelling) (lines : List ℕ) → is_there lines ≡ true → record { unit = unit; lines = lines } ∷ [] ≡ placed unit lines
some_placed unit [] none = cc
some_placed unit (line ∷ lines) some = refl

-- one name in all manners
pub all_pushed : (one two three four : Lines UnitLines) (name : Spelling) (unit : ProgramUnit) → ArePlaced one two Read name (unit_lines Read name unit)
    → ArePlaced two three Written name (unit_lines Written name unit) → ArePlaced three four Called name (unit_lines Called name unit)
    → (other : Spelling) (manner : Manner) → places_in four other manner ≡ places_in one other manner ++ places_at unit name other manner
all_pushed one two three four name unit read written called other Read =
    called other Read ∙ append-nil _ ∙ written other Read ∙ append-nil _ ∙ read other Read
all_pushed one two three four name unit read written called other Written =
    called other Written ∙ append-nil _ ∙ written other Written ∙ ap (λ t. t ++ places_at unit name other Written) (read other Written ∙ append-nil _)
all_pushed one two three four name unit read written called other Called =
    called other Called ∙ ap (λ t. t ++ places_at unit name other Called) (written other Called ∙ append-nil _ ∙ read other Called ∙ append-nil _)

-- the places of the names that were seen
abbrev pub HavePlacesOf : Lines UnitLines → Lines UnitLines → NameMap Bool → ProgramUnit → Type 0
HavePlacesOf first l seen unit = (name : Spelling) (manner : Manner) → places_in l name manner ≡ places_in first name manner ++ (if is_some (get seen name) then unit_lines manner name unit else [])

module _ (first before after : Lines UnitLines) (seen : NameMap Bool) (name : Spelling) (unit : ProgramUnit) (new : is_some (get seen name) ≡ false)
    (added : (other : Spelling) (manner : Manner) → places_in after other manner ≡ places_in before other manner ++ places_at unit name other manner) (h : HavePlacesOf first before seen unit) where
  here : (manner : Manner) → places_in after name manner ≡ places_in first name manner ++ unit_lines manner name unit
  here manner =
      added name manner ∙ ap (λ b. places_in before name manner ++ (if b then unit_lines manner name unit else [])) (bytes_same name)
      ∙ ap (λ t. t ++ unit_lines manner name unit) (h name manner ∙ ap (λ b. places_in first name manner ++ (if b then unit_lines manner name unit else [])) new ∙ append-nil _)

  places-case : (other : Spelling) (manner : Manner) (b : Bool) → bytes_eq name other ≡ b
      → places_in after other manner ≡ places_in first other manner ++ (if is_some (get (insert seen name true) other) then unit_lines manner other unit else [])
  places-case other manner true e =
      subst (λ o. places_in after o manner ≡ places_in first o manner ++ (if is_some (get (insert seen name true) o) then unit_lines manner o unit else [])) (same_bytes name other e)
      (here manner ∙ ap (λ o. places_in first name manner ++ (if is_some o then unit_lines manner name unit else [])) (sym (get_after-same seen name true name (bytes_same name))))
  places-case other manner false e =
      added other manner ∙ ap (λ b. places_in before other manner ++ (if b then unit_lines manner name unit else [])) e ∙ append-nil _ ∙ h other manner
      ∙ ap (λ o. places_in first other manner ++ (if is_some o then unit_lines manner other unit else [])) (sym (get_after-other seen name true other e))

pub places_next : (first before after : Lines UnitLines) (seen now : NameMap Bool) (name : Spelling) (unit : ProgramUnit) → is_some (get seen name) ≡ false
    → ((other : Spelling) (manner : Manner) → places_in after other manner ≡ places_in before other manner ++ places_at unit name other manner)
    → now ≡ insert seen name true → HavePlacesOf first before seen unit → HavePlacesOf first after now unit
places_next first before after seen now name unit new added put h other manner =
    places-case first before after seen name unit new added h other manner (bytes_eq name other) refl
    ∙ ap (λ m. places_in first other manner ++ (if is_some (get m other) then unit_lines manner other unit else [])) (sym put)

pub places_first : (l : Lines UnitLines) (seen : NameMap Bool) (unit : ProgramUnit) → ((name : Spelling) → is_some (get seen name) ≡ false) → HavePlacesOf l l seen unit
places_first l seen unit none name manner = sym (ap (λ b. places_in l name manner ++ (if b then unit_lines manner name unit else [])) (none name) ∙ append-nil _)

pub places_last : (first l : Lines UnitLines) (seen : NameMap Bool) (unit : ProgramUnit) → ((name : Spelling) → is_some (get seen name) ≡ is_declared unit.externals name) → HavePlacesOf first l seen unit
    → (name : Spelling) (manner : Manner) → places_in l name manner ≡ places_in first name manner ++ unit_places manner name unit
places_last first l seen unit all h name manner = h name manner ∙ ap (λ b. places_in first name manner ++ (if b then unit_lines manner name unit else [])) (all name)

-- the places of one more unit
pub units_next : (units : List ProgramUnit) (i : ℕ) (unit : ProgramUnit) (before after : Lines UnitLines) → i < length units → unit ≡ get_or units i unit
    → ((name : Spelling) (manner : Manner) → places_in after name manner ≡ places_in before name manner ++ unit_places manner name unit)
    → ((name : Spelling) (manner : Manner) → places_in before name manner ≡ global_places (take i units) name manner)
    → (name : Spelling) (manner : Manner) → places_in after name manner ≡ global_places (take (i + 1) units) name manner
units_next units i unit before after low is added h name manner =
    let places = unit_places manner name in
    let one : flat_map places (unit ∷ []) ≡ places unit = append-nil (places unit) in
    added name manner ∙ ap (λ t. t ++ places unit) (h name manner) ∙ ap (λ t. flat_map places (take i units) ++ t) (sym one)
    ∙ sym (flat_map-append places (take i units) (unit ∷ [])) ∙ ap (λ u. flat_map places (take i units ++ u ∷ [])) is ∙ ap (flat_map places) (sym (take_more units i unit low))
