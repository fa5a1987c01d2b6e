-- What a line that comes in says (own rules).
use Rattle.std.specs.Prelude.{◌≡◌, ◌≢◌, ℕ, IsUtf8, Bool, ◌&&◌, not, ◌==◌, if◌then◌else◌, List, [], ◌∷◌, ◌++◌, map, flat_map, codes}
use Rattle.il_syntax.specs.declared.tree.Config.{Config}
use Rattle.group_spec.specs.declared.calls.Call.{Call}
use Rattle.group_spec.specs.declared.image.Fields.{Fields}
use Rattle.group_spec.specs.declared.image.Sizes.{Sizes}
use Rattle.group_spec.specs.declared.trace.TraceEvent.{TraceEvent}
use Rattle.group_spec.specs.declared.trace.TraceEvent.TheVariants as traced
use Rattle.group_spec.specs.Image.{sizes_of, is_floor, FieldsInRange}
use Rattle.trace_text.specs.declared.format.Format.TheVariants.{Two}
use Rattle.trace_text.specs.Text.{line_of, IsTraced}
use Rattle.group_journal.specs.Rounds.{floors_rising, tasks_in_order}
use Rattle.serve_lines.specs.declared.said.Said.{Said}
use Rattle.serve_lines.specs.declared.said.Said.TheVariants.{Round, Press, End}
use Rattle.serve_lines.specs.declared.said.WrongLine.{WrongLine}
use Rattle.serve_lines.specs.declared.said.WrongLine.TheVariants.{NoLine, OutOfRange}

-- it has numbers that a trace may have, and fields of as many cars as the group
abbrev pub IsSpelled : Config → Said → Type 0
IsSpelled c (Round fields) = IsTraced Two (sizes_of c).cars (traced.Refresh fields)
IsSpelled c (Press call) = IsTraced Two (sizes_of c).cars (traced.Press call)
IsSpelled c End = Unit {0}

-- the line that says it, without its line feed: that of the refresh or the press in a trace of format 2, or `E`
abbrev pub said_line : Said → List ℕ
said_line (Round fields) = line_of Two (traced.Refresh fields)
said_line (Press call) = line_of Two (traced.Press call)
said_line End = codes "E"

-- the fields of a round lie in their ranges
abbrev pub IsTaken : Config → Said → Type 0
IsTaken c (Round fields) = FieldsInRange (sizes_of c) fields
IsTaken c (Press call) = Unit {0}
IsTaken c End = Unit {0}

-- a line says this to the group
pub record Says (c : Config) (line : List ℕ) (said : Said) : Type 0 where
  pub numbers : IsSpelled c said
  pub spelled : line ≡ said_line said
  pub taken : IsTaken c said

-- A line says nothing to the group: it is none of the three, or the fields of its round are out of range.
abbrev pub SaysNothing : Config → List ℕ → WrongLine → Type 0
SaysNothing c line NoLine = (said : Said) → IsSpelled c said → line ≡ said_line said → ⊥
SaysNothing c line OutOfRange = (fields : Fields) × IsSpelled c (Round fields) × (line ≡ said_line (Round fields)) × (FieldsInRange (sizes_of c) fields → ⊥)

-- a line asks for another trace, of this name
pub record AsksFor (line name : List ℕ) : Type 0 where
  pub some : name ≢ []
  pub text : IsUtf8 name
  pub spelled : line ≡ codes "K " ++ name

-- THE BLACK BOX

-- whether a press is of two floors of the group; another is refused
abbrev pub is_call : Sizes → Call → Bool
is_call sizes call = is_floor sizes call.from && (is_floor sizes call.to && not (call.from == call.to))

-- the events of a whole scan of a task
abbrev pub scan_events : ℕ → List TraceEvent
scan_events t = traced.Start t ∷ traced.Commit t ∷ []

-- What is traced of it. In a round each floor is gathered, rising, the image is refreshed, and each task makes a whole scan, CAR1 to CARn and
-- then GROUP. Of a press that is refused nothing is traced.
abbrev pub events_of : Config → Said → List TraceEvent
events_of c (Round fields) = map traced.Gather (floors_rising c) ++ (traced.Refresh fields ∷ flat_map scan_events (tasks_in_order c))
events_of c (Press call) = if is_call (sizes_of c) call then traced.Press call ∷ [] else []
events_of c End = []
