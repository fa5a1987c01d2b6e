-- The parts of making flat code (own rules).
use Rattle.std.specs.Prelude.{ℕ, zero, suc, ◌+◌, Bool, true, false, ◌&&◌, if◌then◌else◌, List, [], ◌∷◌, ◌++◌, map, flat_map, slice_get, Option, Some, None, is_some, option_map, length, ◌<◌, ◌^◌}
use Rattle.il_syntax.specs.ElementaryTypes.{plain}
use Rattle.il_syntax.specs.declared.tree.Elementary.{Elementary}
use Rattle.il_syntax.specs.declared.tree.Literal.{Literal}
use Rattle.il_syntax.specs.declared.tree.Config.{Config}
use Rattle.il_syntax.specs.declared.tree.Unit.{Unit as ProgramUnit}
use Rattle.il_statics.specs.Names.{Spelling, is_seen_by, standard_words}
use Rattle.il_statics.specs.Faults.{HasNoFault, Broken, Declaring, Typing}
use Rattle.il_statics.specs.Written.{IsWritten}
use Rattle.base_maps.specs.NameMap.{NameMap, Text, get, insert, empty}
use Rattle.il_semantics.specs.Meaning.{Entity, own_entities, width}
use Rattle.load_scope.specs.declared.entry.VariableType.{VariableType}
use Rattle.load_scope.specs.declared.entry.VariableType.TheVariants.{Scalar, Array, Instance}
use Rattle.load_scope.specs.declared.entry.BlockType.{BlockType}
use Rattle.load_scope.specs.declared.entry.BlockType.TheVariants.{Standard, Own}
use Rattle.il_statics.specs.declared.names.StandardBlock.{StandardBlock}
use Rattle.il_statics.specs.declared.names.Role.{Role}
use Rattle.il_statics.specs.declared.names.Audience.{Audience}
use Rattle.il_statics.specs.declared.names.Audience.TheVariants.{Everybody, CarPrograms, GroupPrograms}
use Rattle.load_scope.specs.declared.entry.ImageName.{ImageName}
use Rattle.load_scope.specs.Images.{image_entries}
use Rattle.load_scope.specs.Views.{type_of}
use Rattle.load_scope.specs.Words.{is_name}
use Rattle.load_slots.specs.declared.variables.Variable.{Variable}
use Rattle.load_slots.specs.declared.variables.Part.{Part}
use Rattle.load_slots.specs.declared.variables.Part.TheVariants.{Common, OfRole}
use Rattle.load_slots.specs.declared.offsets.Offsets.{Offsets}
use Rattle.load_slots.specs.Places.{capped, unit_entities}

-- VARIABLES

-- a variable, by its parts
abbrev pub variable : Text → VariableType → Option Literal → Variable
variable name declared initial = record { name = name; declared = declared; initial = initial }

-- a variable of the tree
abbrev pub shown : Config → Entity → Variable
shown c e = variable e.name (type_of c e.form) e.initial

-- so many items more, one after another
abbrev pub added : {A : Type 0} → List A → List A → List A
added list [] = list
added list (x ∷ xs) = added (list ++ x ∷ []) xs

-- THE IMAGE

-- whether what is for an audience is in a part of the image
abbrev pub is_in_part : Part → Audience → Bool
is_in_part Common Everybody = true
is_in_part Common CarPrograms = false
is_in_part Common GroupPrograms = false
is_in_part OfRole Everybody = false
is_in_part OfRole CarPrograms = true
is_in_part OfRole GroupPrograms = true

-- what programs of a role see of an image name, in one part of the image
abbrev pub seen_entry : Option Role → Part → Spelling × ImageName → List Variable
seen_entry role part e = if is_in_part part e.1.audience && is_seen_by role e.1.audience then variable e.0 e.1.variable.declared None ∷ [] else []

-- what every program sees, and then the rest
abbrev pub with_image : List Variable → Config → Option Role → List Variable
with_image list c role = added (added list (flat_map (seen_entry role Common) (image_entries c))) (flat_map (seen_entry role OfRole) (image_entries c))

-- BLOCKS

-- a word of a standard block, as a variable
abbrev pub word_variable : Spelling × Elementary → Variable
word_variable w = variable w.0 (Scalar (plain w.1)) None

-- all words of a standard block, in the order of their slots (2.5.2.3)
abbrev pub all_words : StandardBlock → List (Spelling × Elementary)
all_words b = (standard_words b).inputs ++ (standard_words b).outputs ++ (standard_words b).inner

abbrev pub standard_list : StandardBlock → List Variable
standard_list b = map word_variable (all_words b)

-- the own variables of all units
abbrev pub block_lists : Config → List (List Variable)
block_lists c = map (λ u. map (shown c) (own_entities u)) c.units

-- the list of a number, or none
abbrev pub list_if : Option (List Variable) → List Variable
list_if None = []
list_if (Some vs) = vs

-- the variables of a block, by the lists of own ones
abbrev pub block_variables : List (List Variable) → Option BlockType → List Variable
block_variables lists None = []
block_variables lists (Some (Own k)) = list_if (slice_get lists k)
block_variables lists (Some (Standard b)) = standard_list b

-- SIZES

-- a size that is kept, or none
abbrev pub size_or_zero : Option ℕ → ℕ
size_or_zero None = 0
size_or_zero (Some n) = n

-- how many slots a block takes, if the sizes of own ones are known
abbrev pub block_size : Bool → List ℕ → Option BlockType → ℕ
block_size false sizes b = 0
block_size true sizes None = 0
block_size true sizes (Some (Own k)) = size_or_zero (slice_get sizes k)
block_size true sizes (Some (Standard b)) = capped (length (all_words b))

-- and a variable
abbrev pub variable_size : Bool → List ℕ → VariableType → ℕ
variable_size known sizes (Scalar s) = 1
variable_size known sizes (Array bounds element) = capped (width bounds)
variable_size known sizes (Instance b) = block_size known sizes b

-- and variables, with those before them
abbrev pub list_size : Bool → List ℕ → ℕ → List Variable → ℕ
list_size known sizes total [] = total
list_size known sizes total (v ∷ vs) = list_size known sizes (capped (total + variable_size known sizes v.declared)) vs

-- and each own block, so many deep
abbrev pub sizes_to : ℕ → List (List Variable) → List ℕ
sizes_to zero lists = map (λ vs. list_size false [] 0 vs) lists
sizes_to (suc n) lists = map (λ vs. list_size true (sizes_to n lists) 0 vs) lists

-- OFFSETS

-- the variables of a unit, or the words of a block, by their names: how far each is from the first
abbrev pub with_offset : Offsets → Text → ℕ → Offsets
with_offset o name size = record { table = if is_some (get o.table name) then o.table else insert o.table name o.total; total = capped (o.total + size) }

abbrev pub with_offsets : List ℕ → Offsets → List Variable → Offsets
with_offsets sizes o [] = o
with_offsets sizes o (v ∷ vs) = with_offsets sizes (with_offset o v.name (variable_size true sizes v.declared)) vs

abbrev pub no_offsets : Offsets
no_offsets = record { table = empty; total = 0 }

-- of a list
abbrev pub offsets_of : List ℕ → List Variable → NameMap ℕ
offsets_of sizes vs = (with_offsets sizes no_offsets vs).table

-- the sizes of a configuration's blocks
abbrev pub sizes_of : Config → List ℕ
sizes_of c = sizes_to 16 (block_lists c)

-- the offsets of all that names of a unit can mean
abbrev pub unit_offsets : Config → ProgramUnit → NameMap ℕ
unit_offsets c u = offsets_of (sizes_of c) (map (shown c) (unit_entities c u))

-- those of all units
abbrev pub all_offsets : Config → List (NameMap ℕ)
all_offsets c = map (unit_offsets c) c.units

-- where the first variable of a name is, where each takes one slot
abbrev pub place_from : ℕ → List Variable → Text → Option ℕ
place_from place [] name = None
place_from place (v ∷ vs) name = if is_name v.name name then Some place else place_from (place + 1) vs name

-- how far a word of a standard block is from the first (2.5.2.3)
abbrev pub standard_offset : StandardBlock → Text → Option ℕ
standard_offset block word = option_map capped (place_from 0 (standard_list block) word)

-- A configuration that a text spells, of which no rule of declarations and of types is broken.
pub record IsChecked (c : Config) : Type 0 where
  pub written : IsWritten c
  pub declared : HasNoFault (Broken Declaring c)
  pub typed : HasNoFault (Broken Typing c)
  pub few : length c.units < 2 ^ 63
