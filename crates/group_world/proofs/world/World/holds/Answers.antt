use Rattle.std.proofs.Common.{◌≡◌, ℕ, Some, subst}
use Rattle.il_syntax.specs.declared.tree.Unit.{Unit as Organized}
use Rattle.scan_task.specs.Listing.{TaskLine, task_line}
use Rattle.scan_task.specs.Scanning.{IsRunnable}
use Rattle.group_spec.specs.Snapshot.{program_of}
use Rattle.group_laws.specs.Tasks.{budget_of}
use Rattle.group_laws.specs.Runs.{IsReached}
use Rattle.group_world.specs.Worlds.{WorldOf, PrintsEachBudget}
use Rattle.group_world.proofs.Sound.{call_goes_well, printed_is, prints_each}
use Rattle.group_world.proofs.world.World.holds.Goals as goal

pub returns-clause-well : goal.returns-clause-well
returns-clause-well c = λ events. call_goes_well c.args.self.now.program.config (subst (λ (w : WorldOf). IsRunnable w.program.config) c.self.view_is c.self.invariant.runnable) c.args.self.now.world events

pub returns-clause-reached : goal.returns-clause-reached
returns-clause-reached c = subst (λ (w : WorldOf). IsReached w.program.config w.world) c.self.view_is c.self.invariant.reached

pub returns-clause-printed : goal.returns-clause-printed
returns-clause-printed c =
    subst (λ (w : WorldOf). (task : ℕ) (line : TaskLine) (u : Organized) → task_line w.program task ≡ Some line → program_of w.program.config task ≡ Some u → line.budget ≡ budget_of w.program.config task) c.self.view_is
    (printed_is c.self.inside.verified c.self.invariant.runnable c.self.invariant.costs)

pub returns-clause-each : goal.returns-clause-each
returns-clause-each c = subst (λ (w : WorldOf). PrintsEachBudget w.program) c.self.view_is (prints_each c.self.inside.verified c.self.invariant.runnable c.self.invariant.costs)
