-- Worked rows: journals of a group of one car, by computation.
use Rattle.std.specs.Prelude.{◌≡◌, ℕ, List, [], ◌∷◌, ◌++◌, None, Result, Ok, Err, codes, refl, pos}
use Rattle.il_syntax.specs.declared.tree.Place.{Place}
use Rattle.il_syntax.specs.declared.tree.Named.{Named}
use Rattle.il_syntax.specs.declared.tree.Config.{Config}
use Rattle.il_syntax.specs.declared.tree.Size.{Size}
use Rattle.il_syntax.specs.declared.tree.Unit.{Unit as Organized}
use Rattle.il_syntax.specs.declared.tree.UnitKind.TheVariants.{Program}
use Rattle.group_spec.specs.declared.calls.Call.{Call}
use Rattle.group_spec.specs.declared.event.Event.TheVariants.{Instruction, Commit, Refresh, Press, Gather}
use Rattle.group_spec.specs.declared.event.EventFault.TheVariants.{NoOpenScan}
use Rattle.group_spec.specs.declared.report.Report.{Report}
use Rattle.group_spec.specs.declared.report.EnteredCall.{EnteredCall}
use Rattle.group_spec.specs.Replies.{Reply, Started, End, Committed, Refreshed, New, Gathered, Refused}
use Rattle.group_spec.specs.Image.{sizes_of, opening_fields, opening_outputs}
use Rattle.std.specs.Fmt.{digits}
use Rattle.il_statics.specs.Names.{meaning, image_name, standard_function, standard_block}
use Rattle.il_statics.specs.Types.{label_place}
use Rattle.base_maps.specs.NameMap.{get, insert, empty}
use Rattle.il_semantics.specs.Scan.{begins, opening_variables, opening_globals, restricted}
use Rattle.group_spec.specs.Settle.{settled_car, settled_all}
use Rattle.group_spec.specs.Calls.{serve}
use Rattle.group_spec.specs.Snapshot.{scan_begins, wishes_of}
use Rattle.il_semantics.specs.Step.{step}
use Rattle.group_spec.specs.World.{World, Halt, opening, happens, run, refreshed_group, committed_group}
use Rattle.group_spec.specs.declared.journal.Entry.{Entry}
use Rattle.group_spec.specs.declared.journal.Entry.TheVariants as entry
use Rattle.group_journal.specs.Journal.{events_of, calls_entering, entries_by, calls_entered, refresher}

-- A CONFIGURATION

abbrev here : Place
here = record { offset = 0; line = 1 }

abbrev named : List ℕ → Named
named name = record { place = here; name = name }

abbrev sized : ℕ → Size
sized n = record { place = here; value = pos n }

-- a program that does nothing
abbrev nothing : Organized
nothing =
    record {
      place = here;
      kind = Program;
      name = named (codes "C");
      inputs = [];
      outputs = [];
      variables = [];
      externals = [];
      body = record { steps = []; last_labels = []; end = here };
    }

-- one car that does nothing, two floors, one slot
abbrev idle : Config
idle =
    record {
      units = nothing ∷ [];
      cars = sized 1;
      floors = sized 2;
      slots = sized 1;
      globals_place = None;
      globals = [];
      tasks = [];
      programs = record { place = here; name = named (codes "P"); task = named (codes "CAR1"); program = named (codes "C") } ∷ [];
      end_resource = here;
    }

-- ENTRIES

abbrev up : Call
up = record { from = 1; to = 2 }

abbrev down : Call
down = record { from = 2; to = 1 }

abbrev refreshes : List Call → Entry
refreshes entered = entry.Refresh (opening_fields (sizes_of idle)) entered

-- the calls that entered are pressed, their floors are gathered, and then the image is refreshed
refresh_events : events_of 0 (refreshes (up ∷ down ∷ [])) ≡ Press up ∷ Press down ∷ Gather 1 ∷ Gather 2 ∷ Refresh (opening_fields (sizes_of idle)) ∷ []
refresh_events = refl

-- two calls from one floor are gathered at once
one_gathering : events_of 0 (refreshes (up ∷ record { from = 1; to = 3 } ∷ [])) ≡ Press up ∷ Press (record { from = 1; to = 3 }) ∷ Gather 1 ∷ Refresh (opening_fields (sizes_of idle)) ∷ []
one_gathering = refl

-- a commit follows the instructions of its scan
commit_events : events_of 2 (entry.Commit 1) ≡ Instruction 1 ∷ Instruction 1 ∷ Commit 1 ∷ []
commit_events = refl

-- of two calls one enters the only slot
first_enters : calls_entering (opening idle).group.calls (up ∷ down ∷ []) ≡ up ∷ []
unfolding happens opening scan_begins begins step label_place opening_variables opening_globals committed_group settled_car settled_all refreshed_group wishes_of serve restricted get insert empty meaning image_name standard_function standard_block digits
first_enters = refl

-- RUNS

abbrev replies_of : Result (World × List Reply) Halt → List Reply
replies_of (Ok n) = n.1
replies_of (Err halt) = []

abbrev reports : List EnteredCall → Report
reports entered = record { outputs = opening_outputs ∷ []; denials = []; answers = []; entered = entered }

-- a refresh with a call, a start and a commit: the scan is one instruction, the return at the end of an empty body
whole_round : replies_of (run idle (opening idle) [] (events_of 0 (refreshes (up ∷ [])) ++ (events_of 0 (entry.Start 1) ++ events_of 1 (entry.Commit 1))))
    ≡ New ∷ Gathered 2 ∷ Refreshed (reports (record { slot = 1; ticket = 1; call = up } ∷ [])) ∷ Started ∷ End ∷ Committed (reports []) ∷ []
unfolding happens opening scan_begins begins step label_place opening_variables opening_globals committed_group settled_car settled_all refreshed_group wishes_of serve restricted get insert empty meaning image_name standard_function standard_block digits
whole_round = refl

-- with an instruction too many it is refused, and the entry's step isn't one
one_too_many : replies_of (run idle (opening idle) [] (events_of 0 (entry.Start 1) ++ events_of 2 (entry.Commit 1))) ≡ Started ∷ End ∷ Refused NoOpenScan ∷ Committed (reports []) ∷ []
unfolding happens opening scan_begins begins step label_place opening_variables opening_globals committed_group settled_car settled_all refreshed_group wishes_of serve restricted get insert empty meaning image_name standard_function standard_block digits
one_too_many = refl

-- COUNTS

abbrev two_rounds : List Entry
two_rounds = refreshes (up ∷ []) ∷ entry.Start 1 ∷ entry.Commit 1 ∷ refreshes [] ∷ entry.Start 1 ∷ []

car_makes_three : entries_by 1 two_rounds ≡ 3
car_makes_three = refl

refresher_makes_two : entries_by refresher two_rounds ≡ 2
refresher_makes_two = refl

one_call_entered : calls_entered two_rounds ≡ up ∷ []
one_call_entered = refl
