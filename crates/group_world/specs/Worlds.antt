-- A verified configuration with its world, and what events do to it (own rules).
use Rattle.std.specs.Prelude.{◌≡◌, ◌≢◌, ℕ, ◌≤◌, [], Option, Some, Ok, refl}
use Rattle.std.specs.Coded.{Coded, code_by, coded×}
use Rattle.il_syntax.specs.declared.tree.Config.{Config}
use Rattle.il_syntax.specs.declared.tree.Unit.{Unit as Organized}
use Rattle.il_semantics.specs.Scan.{Reaches}
use Rattle.il_semantics.specs.Step.{step, Next}
use Rattle.scan_task.specs.Listing.{TaskLine, task_line}
use Rattle.scan_task.specs.Scanning.{Program, verified_code}
use Rattle.scan_task.specs.Standing.{Standing, IsOf}
use Rattle.group_spec.specs.Replies.{Reply, Started, Committed}
use Rattle.group_spec.specs.World.{World, happens, run}
use Rattle.group_spec.specs.declared.event.Event.{Event}
use Rattle.group_spec.specs.declared.event.Event.TheVariants.{Start, Commit}
use Rattle.group_spec.specs.declared.report.Report.{Report}
use Rattle.group_spec.specs.WorldCodes.{world_code}
use Rattle.group_spec.specs.declared.event.Reply.{Reply as Answer}
use Rattle.group_spec.specs.declared.event.Reply.TheVariants as answer
use Rattle.group_laws.specs.Tasks.{IsTaskOf, budget_of}
use Rattle.group_world.specs.Running.{instructions, up_to_end}

-- a verified configuration, and its world
pub record WorldOf : Type 0 where
  pub program : Program
  pub world : World

-- its code
abbrev pub world_of_code : Coded WorldOf
world_of_code = code_by (Program × World) (coded× verified_code world_code) (λ w. (w.program, w.world)) (λ c. record { program = c.0; world = c.1 }) (λ _. refl)

-- an event leads from one world to another, and is answered so
abbrev pub Happens : WorldOf → Event → WorldOf → Reply → Type 0
Happens before event after reply = happens before.program.config before.world event ≡ Ok (after.world, reply)

-- each task of the group is printed, with the budget that no scan of it exceeds
abbrev pub PrintsEachBudget : Program → Type 0
PrintsEachBudget p = (task : ℕ) (u : Organized) → IsTaskOf p.config task u → (line : TaskLine) × (task_line p task ≡ Some line) × (line.budget ≡ budget_of p.config task)

-- WHAT A STEP LEAVES OF A STORE

-- one step of a task's scan, and its answer
pub record Steps (c : Config) (t : ℕ) (before : Standing) (after : Option Standing) (reply : Answer) : Type 0 where
  pub store : Standing
  pub is : after ≡ Some store
  pub of : IsOf c t store
  pub step : step c before.state ≡ Next store.state
  pub more : store.state.frames ≢ [] → reply ≡ answer.More
  pub end : store.state.frames ≡ [] → reply ≡ answer.End

-- so many steps to the end of a task's scan
pub record RunsOut (c : Config) (t : ℕ) (before : Standing) (after : Option Standing) (n : ℕ) : Type 0 where
  pub store : Standing
  pub is : after ≡ Some store
  pub of : IsOf c t store
  pub some : 1 ≤ n
  pub steps : Reaches c n before.state store.state
  pub ended : store.state.frames ≡ []

-- WHOLE SCANS

-- a whole scan of a task: its start, its instructions to the end, and its commit, which reports this
pub record IsWholeScan (c : Config) (t : ℕ) (w v : World) (report : Report) : Type 0 where
  pub begun : World
  pub start : happens c w (Start t) ≡ Ok (begun, Started)
  pub count : ℕ
  pub some : 1 ≤ count
  pub ended : World
  pub steps : run c begun [] (instructions t count) ≡ Ok (ended, up_to_end count)
  pub commit : happens c ended (Commit t) ≡ Ok (v, Committed report)
