-- Codes of scans, groups and worlds, for the models whose values they are.
use Rattle.std.specs.Prelude.{ℕ, List, Option, refl}
use Rattle.std.specs.Coded.{Coded, code_by, coded×, coded_ℕ, coded_list, coded_option}
use Rattle.il_semantics.specs.declared.value.Content.{Content}
use Rattle.il_semantics.specs.contracts.value.Content as content
use Rattle.il_semantics.specs.declared.value.Deferred.{Deferred}
use Rattle.il_semantics.specs.contracts.value.Deferred as deferred
use Rattle.base_maps.specs.NameMap.{Text}
use Rattle.il_semantics.specs.State.{Values, values_code, Frame, State}
use Rattle.group_spec.specs.declared.image.Image.{Image}
use Rattle.group_spec.specs.contracts.image.Image as image
use Rattle.group_spec.specs.declared.calls.Call.{Call}
use Rattle.group_spec.specs.contracts.calls.Call as call
use Rattle.group_spec.specs.Calls.{Calls}
use Rattle.group_spec.specs.Codes.{calls_code}
use Rattle.group_spec.specs.World.{TaskState, Group, World}

-- the code of a text
abbrev text_code : Coded Text
text_code = coded_list coded_ℕ

-- the code of a frame
abbrev pub frame_code : Coded Frame
frame_code =
    code_by (Text × (Text × (ℕ × List Deferred))) (coded× text_code (coded× text_code (coded× coded_ℕ (coded_list deferred.the_row.coded)))) (λ f. (f.unit, (f.path, (f.place, f.deferred))))
    (λ c. record { unit = c.0; path = c.1.0; place = c.1.1.0; deferred = c.1.1.1 }) (λ _. refl)

-- the code of a scan's state
abbrev pub state_code : Coded State
state_code =
    code_by (Values × (List Frame × Option Content)) (coded× values_code (coded× (coded_list frame_code) (coded_option content.the_row.coded))) (λ s. (s.values, (s.frames, s.result)))
    (λ c. record { values = c.0; frames = c.1.0; result = c.1.1 }) (λ _. refl)

-- the code of a task
abbrev pub task_code : Coded TaskState
task_code = code_by (Values × Option (List (Option ℕ))) (coded× values_code (coded_option (coded_list (coded_option coded_ℕ)))) (λ t. (t.variables, t.tickets)) (λ c. record { variables = c.0; tickets = c.1 }) (λ _. refl)

-- the code of a group
abbrev pub group_code : Coded Group
group_code =
    code_by (Image × (Calls × (Values × List (Option TaskState)))) (coded× image.the_row.coded (coded× calls_code (coded× values_code (coded_list (coded_option task_code))))) (λ g. (g.image, (g.calls, (g.globals, g.tasks))))
    (λ c. record { image = c.0; calls = c.1.0; globals = c.1.1.0; tasks = c.1.1.1 }) (λ _. refl)

-- the code of a world
abbrev pub world_code : Coded World
world_code =
    code_by (Group × (List (Option State) × (List Call × List Call))) (coded× group_code (coded× (coded_list (coded_option state_code)) (coded× (coded_list call.the_row.coded) (coded_list call.the_row.coded)))) (λ w. (w.group, (w.scans, (w.desk, w.hand))))
    (λ c. record { group = c.0; scans = c.1.0; desk = c.1.1.0; hand = c.1.1.1 }) (λ _. refl)
