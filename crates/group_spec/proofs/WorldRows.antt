-- Worked examples of runs of the world, by computation.
use Rattle.std.specs.Prelude.{◌≡◌, ℕ, true, false, List, [], ◌∷◌, ◌++◌, Option, Some, None, option_map, Result, Ok, Err, codes, refl, pos}
use Rattle.std.specs.Fmt.{digits}
use Rattle.il_syntax.specs.declared.tree.Place.{Place}
use Rattle.il_syntax.specs.declared.tree.Named.{Named}
use Rattle.il_syntax.specs.declared.tree.Config.{Config}
use Rattle.il_syntax.specs.declared.tree.Size.{Size}
use Rattle.il_syntax.specs.declared.tree.Unit.{Unit as Organized}
use Rattle.il_syntax.specs.declared.tree.UnitKind.TheVariants.{Program}
use Rattle.il_syntax.specs.declared.tree.Step.{Step}
use Rattle.il_syntax.specs.declared.tree.ProgramLine.{ProgramLine}
use Rattle.il_syntax.specs.declared.tree.Declaration.{Declaration}
use Rattle.il_syntax.specs.declared.tree.Form.TheVariants.{Scalar as ScalarForm}
use Rattle.il_syntax.specs.declared.tree.Elementary.TheVariants.{Bool as BoolType}
use Rattle.il_syntax.specs.declared.tree.Instruction.{Instruction as Act}
use Rattle.il_syntax.specs.declared.tree.Instruction.TheVariants.{Load, Store, Not}
use Rattle.il_syntax.specs.declared.tree.Store.TheVariants.{Plain}
use Rattle.il_syntax.specs.declared.tree.Reference.{Reference}
use Rattle.il_syntax.specs.declared.tree.Reference.TheVariants.{Literal, Variable, Element}
use Rattle.il_syntax.specs.declared.tree.Index.TheVariants.{Number}
use Rattle.il_syntax.specs.declared.tree.Literal.{Literal as Written}
use Rattle.il_syntax.specs.declared.tree.Literal.TheVariants.{Bare, Truth}
use Rattle.il_syntax.specs.ElementaryTypes.{plain}
use Rattle.il_statics.specs.Names.{meaning, image_name, standard_function, standard_block}
use Rattle.il_statics.specs.Types.{label_place}
use Rattle.il_semantics.specs.declared.value.Value.{Value}
use Rattle.il_semantics.specs.declared.value.Value.TheVariants.{Boolean}
use Rattle.base_maps.specs.NameMap.{get, insert, empty}
use Rattle.il_semantics.specs.Step.{step}
use Rattle.il_semantics.specs.Scan.{begins, opening_variables, opening_globals, restricted}
use Rattle.group_spec.specs.declared.image.Motor.TheVariants.{Up, Still}
use Rattle.group_spec.specs.declared.image.CarOutputs.{CarOutputs}
use Rattle.group_spec.specs.declared.image.Fields.{Fields}
use Rattle.group_spec.specs.declared.image.Sizes.{Sizes}
use Rattle.group_spec.specs.declared.calls.Call.{Call}
use Rattle.group_spec.specs.declared.calls.Slot.TheVariants.{Waiting, Told}
use Rattle.group_spec.specs.declared.report.Report.{Report}
use Rattle.group_spec.specs.declared.report.Rule.TheVariants.{Crowded, NotLevel}
use Rattle.group_spec.specs.declared.event.Event.{Event}
use Rattle.group_spec.specs.declared.event.Event.TheVariants.{Start, Instruction, Commit, Refresh, Press, Gather}
use Rattle.group_spec.specs.Replies.{Reply}
use Rattle.group_spec.specs.declared.event.EventFault.TheVariants.{FieldOutOfRange, NoOpenScan, AlreadyOpen, NotAtEnd, NoSuchActor, SameFloor}
use Rattle.group_spec.specs.Replies.{Started, More, End, Committed, Refreshed, New, Already, Gathered, Held, Refused}
use Rattle.group_spec.specs.Image.{opening_outputs, opening_fields, opening_car}
use Rattle.group_spec.specs.Settle.{settled_car, settled_all}
use Rattle.group_spec.specs.Calls.{tell, serve}
use Rattle.group_spec.specs.Plant.{opening_plant, plant_after, fields_of_plant}
use Rattle.group_spec.specs.Snapshot.{wishes_of, assigned, scan_begins}
use Rattle.group_spec.specs.World.{World, Halt, task_at, opening, happens, run, refreshed_group, committed_group}

-- CONFIGURATIONS

abbrev here : Place
here = record { offset = 0; line = 1 }

abbrev named : List ℕ → Named
named name = record { place = here; name = name }

abbrev sized : ℕ → Size
sized n = record { place = here; value = pos n }

abbrev does : Act → Step
does act = record { labels = []; place = here; instruction = act }

abbrev loads : Reference → Step
loads from = does (Load false (record { place = here; reference = from }))

abbrev stores : Reference → Step
stores to = does (Store Plain (record { place = here; reference = to }))

-- a literal is stored
abbrev stores_one : Written → Reference → List Step
stores_one literal target = loads (Literal literal) ∷ stores target ∷ []

abbrev program : List ℕ → List Declaration → List Step → Organized
program name variables steps =
    record {
      place = here;
      kind = Program;
      name = named name;
      inputs = [];
      outputs = [];
      variables = variables;
      externals = [];
      body = record { steps = steps; last_labels = []; end = here };
    }

abbrev runs_in : List ℕ → List ℕ → ProgramLine
runs_in task unit = record { place = here; name = named (codes "P"); task = named task; program = named unit }

abbrev config : ℕ → ℕ → ℕ → List Organized → List ProgramLine → Config
config cars floors slots units programs =
    record {
      units = units;
      cars = sized cars;
      floors = sized floors;
      slots = sized slots;
      globals_place = None;
      globals = [];
      tasks = [];
      programs = programs;
      end_resource = here;
    }

-- one car, two floors, one slot
abbrev one_car : List Declaration → List Step → Config
one_car variables steps = config 1 2 1 (program (codes "C") variables steps ∷ []) (runs_in (codes "CAR1") (codes "C") ∷ [])

-- a body that does nothing
abbrev idle : Config
idle = one_car [] []

-- RUNS

abbrev replies_of : Result (World × List Reply) Halt → List Reply
replies_of (Ok n) = n.1
replies_of (Err halt) = []

abbrev replies : Config → List Event → List Reply
replies p events = replies_of (run p (opening p) [] events)

abbrev world_of : Config → Result (World × List Reply) Halt → World
world_of p (Ok n) = n.0
world_of p (Err halt) = opening p

abbrev world : Config → List Event → World
world p events = world_of p (run p (opening p) [] events)

-- the value of a task's variable
abbrev variable : World → ℕ → List ℕ → Option (Option Value)
variable w t path = option_map (λ task. get task.variables path) (task_at w.group t)

abbrev report : List CarOutputs → Report
report outputs = record { outputs = outputs; denials = []; answers = []; entered = [] }

abbrev open_door : CarOutputs
open_door = record { motor = Still; opens = true }

-- ONE CAR

-- an empty body: a commit changes no output
empty_body : replies idle (Start 1 ∷ Instruction 1 ∷ Commit 1 ∷ []) ≡ Started ∷ End ∷ Committed (report (opening_outputs ∷ [])) ∷ []
unfolding happens opening scan_begins begins step label_place opening_variables opening_globals committed_group settled_car wishes_of serve restricted get insert empty meaning image_name standard_function standard_block digits
empty_body = refl

-- refused events: an instruction and a commit without a scan, actors that aren't there, a second start, a commit before the end, an instruction after it
refusals :
    replies idle (Instruction 1 ∷ Commit 1 ∷ Start 5 ∷ Start 0 ∷ Start 1 ∷ Start 1 ∷ Commit 1 ∷ Instruction 1 ∷ Instruction 1 ∷ [])
    ≡ Refused NoOpenScan ∷ Refused NoOpenScan ∷ Refused NoSuchActor ∷ Refused NoSuchActor ∷ Started ∷ Refused AlreadyOpen ∷ Refused NotAtEnd ∷ End ∷ Refused NoOpenScan ∷ []
unfolding happens opening scan_begins begins step label_place opening_variables opening_globals get insert empty meaning image_name standard_function standard_block digits
refusals = refl

-- LD TRUE, ST OPEN: the door is asked to open at a level, and a refresh without LEVEL ends the command
abbrev opens : Config
opens = one_car [] (stores_one (Truth true) (Variable (codes "OPEN")))

abbrev leveled : Fields
leveled = fields_of_plant (plant_after (opening_plant 1 2) (opening_outputs ∷ []))

abbrev unleveled : Fields
unleveled = record leveled { cars = record opening_car { level = false; bottom = false } ∷ [] }

opens_at_level :
    replies opens (Refresh leveled ∷ Start 1 ∷ Instruction 1 ∷ Instruction 1 ∷ Instruction 1 ∷ Commit 1 ∷ Refresh unleveled ∷ [])
    ≡ Refreshed (report (opening_outputs ∷ [])) ∷ Started ∷ More ∷ More ∷ End ∷ Committed (report (open_door ∷ []))
    ∷ Refreshed (record { outputs = opening_outputs ∷ []; denials = record { car = 1; rule = NotLevel } ∷ []; answers = []; entered = [] }) ∷ []
unfolding happens opening scan_begins begins step label_place opening_variables opening_globals committed_group settled_car settled_all refreshed_group plant_after wishes_of serve restricted get insert empty meaning image_name standard_function standard_block digits
opens_at_level = refl

-- between floors the open wish is denied by rule 4
denied_between :
    replies opens (Refresh unleveled ∷ Start 1 ∷ Instruction 1 ∷ Instruction 1 ∷ Instruction 1 ∷ Commit 1 ∷ [])
    ≡ Refreshed (report (opening_outputs ∷ [])) ∷ Started ∷ More ∷ More ∷ End
    ∷ Committed (record { outputs = opening_outputs ∷ []; denials = record { car = 1; rule = NotLevel } ∷ []; answers = []; entered = [] }) ∷ []
unfolding happens opening scan_begins begins step label_place opening_variables opening_globals committed_group settled_car settled_all refreshed_group plant_after wishes_of serve restricted get insert empty meaning image_name standard_function standard_block digits
denied_between = refl

-- A : BOOL; LD A, NOT, ST A: a variable is kept from one scan to the next
abbrev flips : Config
flips = one_car (record { names = named (codes "A") ∷ []; declared = record { place = here; form = ScalarForm (plain BoolType) }; initial = None } ∷ []) (loads (Variable (codes "A")) ∷ does Not ∷ stores (Variable (codes "A")) ∷ [])

abbrev one_scan : List Event
one_scan = Start 1 ∷ Instruction 1 ∷ Instruction 1 ∷ Instruction 1 ∷ Instruction 1 ∷ Commit 1 ∷ []

flips_once : variable (world flips one_scan) 1 (codes "A") ≡ Some (Some (Boolean true))
unfolding happens opening scan_begins begins step label_place opening_variables opening_globals committed_group settled_car wishes_of serve restricted get insert empty meaning image_name standard_function standard_block digits
flips_once = refl

flips_twice : variable (world flips (one_scan ++ one_scan)) 1 (codes "A") ≡ Some (Some (Boolean false))
unfolding happens opening scan_begins begins step label_place opening_variables opening_globals committed_group settled_car wishes_of serve restricted get insert empty meaning image_name standard_function standard_block digits
flips_twice = refl

-- fields outside their ranges are refused, and nothing changes
abbrev bad_fields : ℕ → ℕ → Fields
bad_fields floor limit = record { time = 0; run_limit = limit; fire = false; cars = record opening_car { pos = floor } ∷ [] }

out_of_range : run idle (opening idle) [] (Refresh (bad_fields 3 1) ∷ Refresh (bad_fields 1 2) ∷ []) ≡ Ok (opening idle, Refused FieldOutOfRange ∷ Refused FieldOutOfRange ∷ [])
unfolding happens opening opening_variables opening_globals get insert empty digits
out_of_range = refl

-- CALLS

abbrev eight_floors : Config
eight_floors = config 1 8 1 (program (codes "C") [] [] ∷ []) (runs_in (codes "CAR1") (codes "C") ∷ [])

abbrev call : ℕ → ℕ → Call
call from to = record { from = from; to = to }

-- presses, gatherings and one refresh
calls_of_floor_3 :
    replies eight_floors
    (Press (call 3 3) ∷ Press (call 3 5) ∷ Press (call 3 5) ∷ Gather 3 ∷ Press (call 3 5) ∷ Gather 3 ∷ Refresh (opening_fields (record { cars = 1; floors = 8; slots = 1 })) ∷ Gather 3 ∷ Press (call 3 9) ∷ [])
    ≡ Refused SameFloor ∷ New ∷ Already ∷ Gathered 16 ∷ New ∷ Held
    ∷ Refreshed (record { outputs = opening_outputs ∷ []; denials = []; answers = []; entered = record { slot = 1; ticket = 1; call = call 3 5 } ∷ [] }) ∷ Gathered 16 ∷ Refused NoSuchActor ∷ []
unfolding happens opening opening_variables opening_globals settled_all refreshed_group get insert empty digits
calls_of_floor_3 = refl

-- two calls and one slot: the second stays in the hand
abbrev two_calls : World
two_calls = world idle (Press (call 1 2) ∷ Press (call 2 1) ∷ Gather 1 ∷ Gather 2 ∷ Refresh leveled ∷ [])

one_enters : two_calls.group.calls ≡ record { slots = Waiting 1 (call 1 2) ∷ []; last_ticket = 1 }
unfolding happens opening opening_variables opening_globals settled_all refreshed_group plant_after get insert empty digits
one_enters = refl

other_stays : two_calls.hand ≡ call 2 1 ∷ []
unfolding happens opening opening_variables opening_globals settled_all refreshed_group plant_after get insert empty digits
other_stays = refl

-- SEVERAL TASKS

-- two cars whose bodies store MOTOR 1, with RUNLIMIT 1: the first to commit runs, the other is denied by rule 5
abbrev two_sizes : Sizes
two_sizes = record { cars = 2; floors = 2; slots = 1 }

abbrev both : Config
both = config 2 2 1 (program (codes "C") [] (stores_one (Bare (pos 1)) (Variable (codes "MOTOR"))) ∷ []) (runs_in (codes "CAR1") (codes "C") ∷ runs_in (codes "CAR2") (codes "C") ∷ [])

abbrev second_runs : List CarOutputs
second_runs = opening_outputs ∷ record { motor = Up; opens = false } ∷ []

abbrev both_scans : List Event
both_scans = Start 1 ∷ Start 2 ∷ Instruction 1 ∷ Instruction 1 ∷ Instruction 1 ∷ Instruction 2 ∷ Instruction 2 ∷ Instruction 2 ∷ Commit 2 ∷ Commit 1 ∷ []

both_run :
    replies both (Refresh (record (opening_fields two_sizes) { run_limit = 1 }) ∷ both_scans)
    ≡ Refreshed (report (opening_outputs ∷ opening_outputs ∷ [])) ∷ Started ∷ Started ∷ More ∷ More ∷ End ∷ More ∷ More ∷ End ∷ Committed (report second_runs)
    ∷ Committed (record { outputs = second_runs; denials = record { car = 1; rule = Crowded } ∷ []; answers = []; entered = [] }) ∷ []
unfolding happens opening scan_begins begins step label_place opening_variables opening_globals committed_group settled_car settled_all refreshed_group wishes_of serve restricted get insert empty meaning image_name standard_function standard_block digits
both_run = refl

-- The group assigns slot 1 to car 1 under the ticket of its snapshot; meanwhile car 1 serves the slot and a new call enters it: the tell is stale.
abbrev dispatched : Config
dispatched =
    config 1 2 1
    (program (codes "C") [] (stores_one (Bare (pos 1)) (Variable (codes "SERVE"))) ∷ program (codes "G") [] (stores_one (Bare (pos 1)) (Element (codes "ASSIGN") (Number (pos 1)))) ∷ [])
    (runs_in (codes "CAR1") (codes "C") ∷ runs_in (codes "GROUP") (codes "G") ∷ [])

abbrev group_scan : List Event
group_scan = Instruction 0 ∷ Instruction 0 ∷ Instruction 0 ∷ Commit 0 ∷ []

abbrev car_scan : List Event
car_scan = Start 1 ∷ Instruction 1 ∷ Instruction 1 ∷ Instruction 1 ∷ Commit 1 ∷ []

abbrev told : World
told = world dispatched (Press (call 1 2) ∷ Gather 1 ∷ Refresh leveled ∷ Start 0 ∷ group_scan)

slot_is_told : told.group.calls ≡ record { slots = Told 1 (call 1 2) 1 ∷ []; last_ticket = 1 }
unfolding happens opening scan_begins begins step label_place opening_variables opening_globals committed_group assigned settled_all refreshed_group plant_after tell restricted get insert empty meaning image_name standard_function standard_block digits
slot_is_told = refl

abbrev overtaken : List Event
overtaken = Press (call 1 2) ∷ Gather 1 ∷ Refresh leveled ∷ Start 0 ∷ group_scan ++ Start 0 ∷ car_scan ++ Press (call 2 1) ∷ Gather 2 ∷ Refresh leveled ∷ group_scan

new_call_waits : (world dispatched overtaken).group.calls ≡ record { slots = Waiting 2 (call 2 1) ∷ []; last_ticket = 2 }
unfolding happens opening scan_begins begins step label_place opening_variables opening_globals committed_group assigned settled_car settled_all refreshed_group plant_after wishes_of tell serve restricted get insert empty meaning image_name standard_function standard_block digits
new_call_waits = refl
