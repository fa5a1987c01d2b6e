-- The bodies of a scan, and the values that they name (own rules).
use Rattle.std.specs.Prelude.{ℕ, true, false, List, [], ◌++◌, Option, Some, None, option_map, option_and_then, codes, string_bytes, slice_get}
use Rattle.std.specs.Fmt.{signed_decimal}
use Rattle.il_syntax.specs.declared.tree.Config.{Config}
use Rattle.il_syntax.specs.declared.tree.Index.{Index}
use Rattle.il_syntax.specs.declared.tree.Index.TheVariants.{Number, Variable as ByVariable}
use Rattle.il_syntax.specs.declared.tree.Reference.{Reference}
use Rattle.il_syntax.specs.declared.tree.Reference.TheVariants.{Literal, Variable, Element, Member}
use Rattle.il_syntax.specs.declared.tree.Step.{Step}
use Rattle.il_statics.specs.Names.{unit_named}
use Rattle.base_maps.specs.NameMap.{Text, get}
use Rattle.il_semantics.specs.declared.value.Value.{Value}
use Rattle.il_semantics.specs.declared.value.Value.TheVariants.{Boolean, Integer}
use Rattle.il_semantics.specs.declared.value.Content.{Content}
use Rattle.il_semantics.specs.State.{Values, Frame, State}
use Rattle.il_semantics.specs.Meaning.{under, element_path, member_path}
use Rattle.scan_loop.specs.Framing.{path_in}
use Rattle.show_scan.specs.declared.view.Stand.{Stand}

-- a body of a scan: the name of its unit, its path and the place at which it is
pub record StandOf : Type 0 where
  pub unit : Text
  pub path : Text
  pub place : ℕ

-- that of a frame
abbrev pub of_frame : Frame → StandOf
of_frame f = record { unit = f.unit; path = f.path; place = f.place }

-- the same as the code has it
abbrev pub of_stand : Stand → StandOf
of_stand s = record { unit = string_bytes s.unit; path = string_bytes s.path; place = s.place }

-- the body at a level of a state, the one that runs at 0
abbrev pub stand_at : State → ℕ → Option StandOf
stand_at s level = option_map of_frame (slice_get s.frames level)

-- the step of a unit at a place; none at the implicit RET
abbrev pub step_at : Config → Text → ℕ → Option Step
step_at c unit place = option_and_then (λ u. slice_get u.body.steps place) (unit_named c unit)

-- the path of what a step of a body at a path runs
abbrev pub path_of_step : Text → Option Step → Text
path_of_step path None = []
path_of_step path (Some s) = path_in path (Some s.instruction)

-- VALUES

-- a value, as it is shown
abbrev pub value_text : Option Value → List ℕ
value_text None = codes "none"
value_text (Some (Boolean true)) = codes "TRUE"
value_text (Some (Boolean false)) = codes "FALSE"
value_text (Some (Integer z)) = signed_decimal z

-- a current result
abbrev pub result_text : Option Content → List ℕ
result_text None = codes "none"
result_text (Some c) = value_text (Some c.value)

-- a path and its value
abbrev pub named_text : Values → Text → List ℕ
named_text values path = codes ", " ++ (path ++ (codes " " ++ value_text (get values path)))

-- a path and this value, if it has one, and nothing if it has none
abbrev pub there_by : Text → Option Value → List ℕ
there_by path None = []
there_by path (Some value) = codes ", " ++ (path ++ (codes " " ++ value_text (Some value)))

-- a path and its value among these, if it has one
abbrev pub there_text : Values → Text → List ℕ
there_text values path = there_by path (get values path)

-- an element of an array whose index is a variable
abbrev pub indexed_text : Values → Text → Option Value → List ℕ
indexed_text values path (Some (Integer z)) = named_text values (element_path path z)
indexed_text values path _ = []

-- an element of an array in a body at a path
abbrev pub element_text : Values → Text → Text → Index → List ℕ
element_text values path name (Number z) = named_text values (element_path (under path name) z)
element_text values path name (ByVariable variable) = indexed_text values (under path name) (get values (under path variable))

-- what an operand of a body at a path names
abbrev pub reference_text : Values → Text → Reference → List ℕ
reference_text values path (Literal l) = []
reference_text values path (Variable name) = named_text values (under path name)
reference_text values path (Element name index) = element_text values path name index
reference_text values path (Member instance word) = named_text values (member_path (under path instance) word)
