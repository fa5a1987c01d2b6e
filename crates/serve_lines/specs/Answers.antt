-- What a line is answered (own rules).
use Rattle.std.specs.Prelude.{◌≡◌, ℕ, ◌+◌, ◌*◌, List, [], ◌∷◌, ◌++◌, flat_map, codes, decimal, Ok}
use Rattle.std.specs.Fmt.{signed_decimal}
use Rattle.il_syntax.specs.declared.tree.Config.{Config}
use Rattle.group_spec.specs.declared.calls.Call.{Call}
use Rattle.group_spec.specs.declared.event.Event.TheVariants as event
use Rattle.group_spec.specs.declared.image.CarOutputs.{CarOutputs}
use Rattle.group_spec.specs.declared.report.Denial.{Denial}
use Rattle.group_spec.specs.declared.report.EnteredCall.{EnteredCall}
use Rattle.group_spec.specs.EventFaults.{event_fault_number}
use Rattle.group_spec.specs.Limits.{most_cars}
use Rattle.group_spec.specs.Replies.{Reply, Started, More, End, Committed, Refreshed, New, Already, Gathered, Held, Refused}
use Rattle.group_spec.specs.Settle.{rule_number}
use Rattle.group_spec.specs.Snapshot.{motor_number}
use Rattle.group_spec.specs.World.{World, happens, opening_group}
use Rattle.trace_text.specs.Text.{flag}
use Rattle.group_rounds.specs.declared.notice.Notice.{Notice}
use Rattle.group_rounds.specs.declared.notice.TheConstants.{MOST_NOTICES}
use Rattle.group_rounds.specs.declared.notice.Notice.TheVariants.{Entered, Denied, Told, Served}
use Rattle.group_rounds.specs.Rounds.{IsRoundOf}
use Rattle.serve_lines.specs.declared.said.Said.{Said}
use Rattle.serve_lines.specs.declared.said.Said.TheVariants as said

-- LINES

-- `entered TICKET SLOT FROM TO`
unfoldable pub entered_line : EnteredCall → List ℕ
entered_line e = codes "entered " ++ (decimal e.ticket ++ (codes " " ++ (decimal e.slot ++ (codes " " ++ (decimal e.call.from ++ (codes " " ++ (decimal e.call.to ++ codes "\n")))))))

-- `denied CAR RULE`
unfoldable pub denied_line : Denial → List ℕ
denied_line d = codes "denied " ++ (decimal d.car ++ (codes " " ++ (decimal (rule_number d.rule) ++ codes "\n")))

-- `told TICKET CAR`
unfoldable pub told_line : ℕ → ℕ → List ℕ
told_line ticket car = codes "told " ++ (decimal ticket ++ (codes " " ++ (decimal car ++ codes "\n")))

-- `served TICKET CAR`
unfoldable pub served_line : ℕ → ℕ → List ℕ
served_line ticket car = codes "served " ++ (decimal ticket ++ (codes " " ++ (decimal car ++ codes "\n")))

-- a notice's line
abbrev pub notice_line : Notice → List ℕ
notice_line (Entered e) = entered_line e
notice_line (Denied d) = denied_line d
notice_line (Told ticket car) = told_line ticket car
notice_line (Served ticket car) = served_line ticket car

-- ` motor open`: 1 is up, -1 is down; 1 is an open command
unfoldable pub output_part : CarOutputs → List ℕ
output_part o = codes " " ++ (signed_decimal (motor_number o.motor) ++ (codes " " ++ (flag o.opens ∷ [])))

-- `outputs` and the outputs of all cars
abbrev pub outputs_line : List CarOutputs → List ℕ
outputs_line outputs = codes "outputs" ++ (flat_map output_part outputs ++ codes "\n")

-- the stop: every motor still and no open command, as the group opens
abbrev pub stop_line : Config → List ℕ
stop_line c = outputs_line (opening_group c).image.outputs

-- what a press is answered
abbrev pub press_word : Reply → List ℕ
press_word New = codes "new"
press_word Already = codes "already"
press_word (Refused fault) = codes "refused " ++ decimal (event_fault_number fault)
press_word Started = []
press_word More = []
press_word End = []
press_word (Committed r) = []
press_word (Refreshed r) = []
press_word (Gathered mask) = []
press_word Held = []

-- `press FROM TO new`, `press FROM TO already` or `press FROM TO refused NUMBER`
unfoldable pub press_line : Call → Reply → List ℕ
press_line call reply = codes "press " ++ (decimal call.from ++ (codes " " ++ (decimal call.to ++ (codes " " ++ (press_word reply ++ codes "\n")))))

-- an answer's greatest length, in bytes: notices of at most 41, and the outputs of all cars
abbrev pub greatest_answer : ℕ
greatest_answer = 41 * MOST_NOTICES + (5 * most_cars + 8)

-- WHAT IS ANSWERED

-- What is said leads from a world to another, and is answered so: a round by its notices, a line for each, and the outputs that it leaves, a press
-- by what became of it, and the end by the stop.
abbrev pub Acts : Config → Said → World → World → List ℕ → Type 0
Acts c (said.Round fields) w v text = (notices : List Notice) × IsRoundOf c fields w v notices × (text ≡ flat_map notice_line notices ++ outputs_line v.group.image.outputs)
Acts c (said.Press call) w v text = (reply : Reply) × (happens c w (event.Press call) ≡ Ok (v, reply)) × (text ≡ press_line call reply)
Acts c said.End w v text = (w ≡ v) × (text ≡ stop_line c)
