-- The cross reference: each name with where it is declared, read, written and called (own rules).
use Rattle.std.specs.Prelude.{ℕ, Bool, true, false, ◌||◌, ◌&&◌, if◌then◌else◌, List, [], ◌∷◌, ◌++◌, flat_map, map, codes, decimal}
use Rattle.json.specs.Token.{Token, number}
use Rattle.base_json.specs.declared.form.Form.{Form}
use Rattle.base_json.specs.Forms.{row_in}
use Rattle.base_json.specs.Objects.{list_member, number_member, object, text_member}
use Rattle.il_syntax.specs.declared.tree.Config.{Config}
use Rattle.il_syntax.specs.declared.tree.Unit.{Unit as ProgramUnit}
use Rattle.il_syntax.specs.declared.tree.Declaration.{Declaration}
use Rattle.il_syntax.specs.declared.tree.ProgramLine.{ProgramLine}
use Rattle.il_syntax.specs.declared.tree.Step.{Step}
use Rattle.il_statics.specs.Names.{Spelling, is_one_of}
use Rattle.show_names.specs.Names.{DeclaredName, declared_names, is_declared, declares}
use Rattle.show_names.specs.RangeLines.{heading_row}
use Rattle.show_names.specs.Uses.{NameUse, uses, is_use, is_used}
use Rattle.show_names.specs.declared.global_uses.UnitLines.{UnitLines}
use Rattle.show_names.specs.declared.uses.Manner.{Manner}
use Rattle.show_names.specs.declared.uses.Manner.TheVariants.{Read, Written, Called}

-- PARTS OF A LINE

-- whether a list has an item, or a text a byte
abbrev pub is_there : {T : Type 0} → List T → Bool
is_there [] = false
is_there (x ∷ xs) = true

-- a word and a text after it; nothing where there is no text
abbrev pub behind : List ℕ → List ℕ → List ℕ
behind word [] = []
behind word (b ∷ text) = word ++ (b ∷ text)

-- what comes before a part: a colon before the first of a line, a comma before the others
abbrev pub mark : Bool → List ℕ
mark false = codes ":"
mark true = codes ","

-- the parts that are there, each after its mark
abbrev pub parts_text : Bool → List (List ℕ) → List ℕ
parts_text begun [] = []
parts_text begun (part ∷ parts) = behind (mark begun) part ++ parts_text (begun || is_there part) parts

-- a name and its parts
abbrev pub name_line : Spelling → List (List ℕ) → List ℕ
name_line name parts = codes "  " ++ (name ++ (parts_text false parts ++ codes "\n"))

-- where a name is declared
abbrev pub declared_part : ℕ → List ℕ
declared_part line = codes " declared " ++ decimal line

-- the word of a manner
abbrev pub manner_word : Manner → List ℕ
manner_word Read = codes " read"
manner_word Written = codes " written"
manner_word Called = codes " called"

-- where a name is used in one manner
abbrev pub used_part : Manner → List ℕ → List ℕ
used_part manner places = behind (manner_word manner) places

-- where a name is used, by what tells the places of each manner
abbrev pub used_parts : (Manner → List ℕ) → List (List ℕ)
used_parts places = used_part Read (places Read) ∷ used_part Written (places Written) ∷ used_part Called (places Called) ∷ []

-- lines, each after a blank
abbrev pub lines_text : List ℕ → List ℕ
lines_text lines = flat_map (λ line. codes " " ++ decimal line) lines

-- THEIR MEMBERS

-- lines, each a number
abbrev pub line_tokens : List ℕ → List Token
line_tokens lines = map (λ line. number (decimal line)) lines

-- a list of lines, if there are any
abbrev pub lines_member : List ℕ → List ℕ → List Token
lines_member name [] = []
lines_member name (line ∷ lines) = list_member name (line_tokens (line ∷ lines))

-- where a name is declared
abbrev pub declared_members : Spelling → ℕ → List Token
declared_members name line = text_member (codes "name") name ++ list_member (codes "declared") (line_tokens (line ∷ []))

-- the name of a manner
abbrev pub manner_key : Manner → List ℕ
manner_key Read = codes "read"
manner_key Written = codes "written"
manner_key Called = codes "called"

-- where a name is used, by what tells the member of each manner
abbrev pub used_members : (Manner → List Token) → List Token
used_members member = member Read ++ (member Written ++ member Called)

-- NAMES OF A UNIT

-- the line of a use, if it is one of a name in a manner
abbrev pub use_line : Manner → Spelling → NameUse → List ℕ
use_line manner name u = if is_use manner name u then u.line ∷ [] else []

-- the lines in which steps use a name in a manner, in the order of the steps
abbrev pub use_lines : List Step → Spelling → Manner → List ℕ
use_lines steps name manner = flat_map (use_line manner name) (uses steps)

-- the same as a text, and as a member
abbrev pub use_text : List Step → Spelling → Manner → List ℕ
use_text steps name manner = lines_text (use_lines steps name manner)

abbrev pub use_member : List Step → Spelling → Manner → List Token
use_member steps name manner = lines_member (manner_key manner) (use_lines steps name manner)

-- a name that a unit declares
unfoldable pub declared_line : List Step → DeclaredName → List ℕ
declared_line steps n = name_line n.name (declared_part n.line ∷ used_parts (use_text steps n.name))

abbrev pub declared_row : Form → List Step → DeclaredName → List ℕ
declared_row form steps n = row_in form (declared_line steps n) (declared_members n.name n.line ++ used_members (use_member steps n.name))

-- a name that a unit uses and does not declare
unfoldable pub other_line : List Step → Spelling → List ℕ
other_line steps name = name_line name (used_parts (use_text steps name))

abbrev pub other_row : Form → List Step → Spelling → List ℕ
other_row form steps name = row_in form (other_line steps name) (text_member (codes "name") name ++ used_members (use_member steps name))

-- the names of uses that a unit does not declare and that were not seen, each once, in the order of first use
abbrev pub other_names : ProgramUnit → List Spelling → List NameUse → List Spelling
other_names unit seen [] = []
other_names unit seen (u ∷ us) =
    if declares unit u.name || is_one_of seen u.name then other_names unit seen us else u.name ∷ other_names unit (seen ++ u.name ∷ []) us

-- the names that declarations give, with their uses in steps
abbrev pub declared_rows : Form → List Step → List Declaration → List ℕ
declared_rows form steps declarations = flat_map (declared_row form steps) (declared_names declarations)

-- the other names that a unit uses: of the image, a function's own result, called functions
abbrev pub other_rows : Form → ProgramUnit → List ℕ
other_rows form unit = flat_map (other_row form unit.body.steps) (other_names unit [] (uses unit.body.steps))

-- a unit with its inputs, outputs, variables, externals, and the other names that it uses
abbrev pub unit_rows : Form → ProgramUnit → List ℕ
unit_rows form unit =
    heading_row form unit
    ++ (declared_rows form unit.body.steps unit.inputs
    ++ (declared_rows form unit.body.steps unit.outputs
    ++ (declared_rows form unit.body.steps unit.variables
    ++ (declared_rows form unit.body.steps unit.externals ++ other_rows form unit))))

-- GLOBALS

-- whether a unit lists a name as an external, and uses it in a manner
abbrev pub uses_global : Manner → Spelling → ProgramUnit → Bool
uses_global manner name unit = is_declared unit.externals name && is_used manner name unit.body.steps

-- a unit, and the lines in which it uses a global
pub record UnitPlaces : Type 0 where
  pub unit : Spelling
  pub lines : List ℕ

-- the same as the code has it
abbrev pub unit_places_shown : UnitLines → UnitPlaces
unit_places_shown u = record { unit = u.unit.now; lines = u.lines }

-- a unit that uses a global in these lines; none where there are none
abbrev pub placed : Spelling → List ℕ → List UnitPlaces
placed unit [] = []
placed unit (line ∷ lines) = record { unit = unit; lines = line ∷ lines } ∷ []

-- a unit and the lines in which it uses a global that it lists
abbrev pub unit_places : Manner → Spelling → ProgramUnit → List UnitPlaces
unit_places manner name unit = if is_declared unit.externals name then placed unit.name.name (use_lines unit.body.steps name manner) else []

-- where units use a global, in their order
abbrev pub global_places : List ProgramUnit → Spelling → Manner → List UnitPlaces
global_places units name manner = flat_map (unit_places manner name) units

-- the units' names, each after a blank and before its lines
abbrev pub place_text : UnitPlaces → List ℕ
place_text p = codes " " ++ (p.unit ++ lines_text p.lines)

abbrev pub places_text : List UnitPlaces → List ℕ
places_text places = flat_map place_text places

-- an object of a unit with its lines
abbrev pub place_tokens : UnitPlaces → List Token
place_tokens p = object (text_member (codes "unit") p.unit ++ list_member (codes "lines") (line_tokens p.lines))

-- a list of them, if there are any
abbrev pub places_member : List ℕ → List UnitPlaces → List Token
places_member name [] = []
places_member name (p ∷ places) = list_member name (flat_map place_tokens (p ∷ places))

-- where units use a global in a manner, as a text and as a member
abbrev pub global_text : List ProgramUnit → Spelling → Manner → List ℕ
global_text units name manner = places_text (global_places units name manner)

abbrev pub global_member : List ProgramUnit → Spelling → Manner → List Token
global_member units name manner = places_member (manner_key manner) (global_places units name manner)

-- a global: `G: declared 30, read COUNTS 4, written COUNTS 7 OTHER 9`
unfoldable pub global_line : List ProgramUnit → DeclaredName → List ℕ
global_line units n = name_line n.name (declared_part n.line ∷ used_parts (global_text units n.name))

abbrev pub global_row : Form → List ProgramUnit → DeclaredName → List ℕ
global_row form units n = row_in form (global_line units n) (declared_members n.name n.line ++ used_members (global_member units n.name))

-- the heading of the globals, or of the PROGRAM lines
abbrev pub title_row : Form → List ℕ → List ℕ
title_row form title = row_in form (title ++ codes "\n") (text_member (codes "kind") title)

-- the globals, if there are any
abbrev pub globals_rows : Form → List ProgramUnit → List Declaration → List ℕ
globals_rows form units [] = []
globals_rows form units (d ∷ ds) = title_row form (codes "GLOBALS") ++ flat_map (global_row form units) (declared_names (d ∷ ds))

-- PROGRAM LINES

-- a PROGRAM line: `P1 line 12: COUNTS with CAR1`
unfoldable pub program_line : ProgramLine → List ℕ
program_line l =
    codes "  " ++ (l.name.name ++ (codes " line " ++ (decimal l.place.line ++ (codes ": " ++ (l.program.name ++ (codes " with " ++ (l.task.name ++ codes "\n")))))))

-- its name and its line, and its unit with its task
unfoldable pub named_members : Spelling → ℕ → List Token
named_members name line = text_member (codes "program") name ++ number_member (codes "line") line

unfoldable pub driven_members : Spelling → Spelling → List Token
driven_members unit task = text_member (codes "unit") unit ++ text_member (codes "task") task

abbrev pub program_members : ProgramLine → List Token
program_members l = named_members l.name.name l.place.line ++ driven_members l.program.name l.task.name

abbrev pub program_row : Form → ProgramLine → List ℕ
program_row form l = row_in form (program_line l) (program_members l)

-- the PROGRAM lines, if there are any
abbrev pub programs_rows : Form → List ProgramLine → List ℕ
programs_rows form [] = []
programs_rows form (l ∷ ls) = title_row form (codes "PROGRAMS") ++ flat_map (program_row form) (l ∷ ls)

-- the cross reference in a form
abbrev pub xref_in : Form → Config → List ℕ
xref_in form config = flat_map (unit_rows form) config.units ++ (globals_rows form config.units config.globals ++ programs_rows form config.programs)
