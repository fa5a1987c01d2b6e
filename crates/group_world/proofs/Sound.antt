-- What the machine runs is sound, and what every world of a run keeps.
use Rattle.std.proofs.Common.{◌≡◌, ℕ, List, [], ◌∷◌, map, Option, Some, None, sym, ap, ◌∙◌, refl, inl, arith, Ok}
use Rattle.std.specs.Prelude.{Contains, find, bytes_eq}
use Rattle.il_syntax.specs.declared.tree.Config.{Config}
use Rattle.il_syntax.specs.declared.tree.ProgramLine.{ProgramLine}
use Rattle.il_syntax.specs.declared.tree.Unit.{Unit as Organized}
use Rattle.il_semantics.specs.Paths.{longest, IsLongest}
use Rattle.il_semantics.specs.Scan.{program_of as line_program}
use Rattle.group_spec.specs.declared.event.Event.{Event as Happening}
use Rattle.group_spec.specs.Replies.{Reply}
use Rattle.group_spec.specs.Snapshot.{task_name, program_of}
use Rattle.group_spec.specs.World.{World, run, opening, happens}
use Rattle.group_laws.specs.Tasks.{budget_of, budget_by}
use Rattle.group_laws.specs.Runs.{WorldWellFrom, IsReached}
use Rattle.group_laws.specs.Histories.{CallGoesWell}
use Rattle.group_laws.proofs.Histories.{accepted_calls_go_well, event_is_run, reached_well as reached_is_well}
use Rattle.group_laws.proofs.Following.{goes_on}
use Rattle.scan_task.specs.Scanning.{Program, IsRunnable}
use Rattle.load_budgets.specs.Costs.{cost_of}
use Rattle.scan_task.specs.Listing.{TaskLine, task_line}
use Rattle.scan_task.proofs.Lines.{prints_budgets}
use Rattle.scan_task.proofs.Shown.{lists_tasks}
use Rattle.scan_task.proofs.Scans.{sound_of}
use Rattle.il_semantics_laws.proofs.Accepted.{has_longest}
use Rattle.il_semantics_laws.proofs.Named.{found_unit}
use Rattle.il_semantics_laws.proofs.Meant.{program_is}
use Rattle.group_world.specs.Worlds.{PrintsEachBudget}

-- RUNS OF A WORLD

-- a call goes well, whatever history led to the world
pub call_goes_well : (c : Config) → IsRunnable c → (w : World) (events : List Happening) → CallGoesWell c w events
call_goes_well c runs w events = accepted_calls_go_well c (sound_of c runs) w events

-- the opening world has a history: nothing happened
pub opening_reached : (c : Config) (w : World) → w ≡ opening c → IsReached c w
opening_reached c w is = record { base = opening c; begins = inl refl; events = []; replies = []; is = ap (λ v. Ok (v, [])) (sym is) }

-- one event keeps a history
pub one_event : (c : Config) (w v : World) (e : Happening) (reply : Reply) → IsReached c w → happens c w e ≡ Ok (v, reply) → IsReached c v
one_event c w v e reply reached is = goes_on c w v [] (reply ∷ []) (e ∷ []) reached (event_is_run c w v e reply [] is)

-- and so does a run
pub many_events : (c : Config) (w v : World) (events : List Happening) (earlier replies : List Reply) → IsReached c w → run c w earlier events ≡ Ok (v, replies) → IsReached c v
many_events c w v events earlier replies reached is = goes_on c w v earlier replies events reached is

-- a world that was reached is well
pub reached_well : (c : Config) → IsRunnable c → (w : World) (r : IsReached c w) → WorldWellFrom c r.base r.events r.replies w
reached_well c runs w r = reached_is_well c (sound_of c runs) w r

-- BUDGETS

-- a unit has one greatest cost
one_longest : (c : Config) (u : Organized) (m n : ℕ) → IsLongest c u m → IsLongest c u n → m ≡ n
one_longest c u m n a b = let low = b.greatest a.attained.0 m a.attained.1 in let high = a.greatest b.attained.0 n b.attained.1 in omega (arith, low, high)

-- a task's program is a unit of the configuration
program_among : (c : Config) (t : ℕ) (u : Organized) → program_of c t ≡ Some u → Contains c.units u
program_among c t u e = by_line (find (λ l. bytes_eq (task_name t) l.task.name) c.programs) e
  where
    by_line : (o : Option ProgramLine) → line_program c o ≡ Some u → Contains c.units u
    by_line None f = cc
    by_line (Some l) f = found_unit c l.program.name u (program_is c l.program.name u f).0

-- the budget that is printed of a task is that of the law
pub printed_is : (p : Program) → IsRunnable p.config → p.costs ≡ map (cost_of p.config) p.config.units → (task : ℕ) (line : TaskLine) (u : Organized) → task_line p task ≡ Some line → program_of p.config task ≡ Some u → line.budget ≡ budget_of p.config task
printed_is p runs costs task line u shown program =
    let s = sound_of p.config runs in
    one_longest p.config u line.budget (longest p.config u) (prints_budgets p runs costs task line u shown program) (has_longest p.config s.declared s.typed s.ordered u (program_among p.config task u program)).greatest
    ∙ ap (budget_by p.config) (sym program)

-- and each task's line is there
pub prints_each : (p : Program) → IsRunnable p.config → p.costs ≡ map (cost_of p.config) p.config.units → PrintsEachBudget p
prints_each p runs costs task u is = let line = lists_tasks p runs costs task u is in (line.0, line.1, printed_is p runs costs task line.0 u line.1 is.program)
