-- A whole scan of a task, whose task holds no tickets of it.
use Rattle.std.proofs.Common.{◌≡◌, ◌≢◌, ℕ, zero, suc, true, false, List, [], Option, Some, sym, ap, ◌∙◌}
use Rattle.il_syntax.specs.declared.tree.Config.{Config}
use Rattle.il_syntax.specs.declared.tree.Unit.{Unit as Organized}
use Rattle.il_semantics.specs.State.{State, Values}
use Rattle.il_semantics.specs.Scan.{has_ended, begins}
use Rattle.group_spec.specs.Snapshot.{Beginning, program_of, begins_by, scan_begins}
use Rattle.group_spec.specs.World.{Group, TaskState, started_group, committed_group}
use Rattle.group_laws.specs.Tasks.{IsTaskOf}
use Rattle.group_world.proofs.Views.{set_again}
use Rattle.group_world.proofs.Events.{ended_so}

-- where a task's scan begins it has not ended
has_begun : (c : Config) (t : ℕ) (u : Organized) (b : Beginning) → program_of c t ≡ Some u → has_ended (scan_begins c t b) ≡ false
unfolding scan_begins begins
has_begun c t u b is = ap (λ o. has_ended (begins_by c t b o)) is

pub begins_going : (c : Config) (t : ℕ) (u : Organized) (b : Beginning) (s : State) → IsTaskOf c t u → s ≡ scan_begins c t b → s.frames ≢ []
begins_going c t u b s is begun over = let bad : true ≡ false = sym (ended_so s over) ∙ ap has_ended begun ∙ has_begun c t u b is.program in cc

-- the commit reads of its task the variables alone, so that it is the same as of the task before its start
pub committed_again : (c : Config) (g : Group) (t : ℕ) (x : TaskState) (held : Option (List (Option ℕ))) (tickets : List (Option ℕ)) (values : Values)
    → committed_group c (started_group g t x) t (record { variables = x.variables; tickets = held }) tickets values ≡ committed_group c g t x tickets values
unfolding committed_group
committed_again c g zero x held tickets values =
    let left = committed_group c g zero x tickets values in
    ap (λ tasks. (record { image = left.0.image; calls = left.0.calls; globals = left.0.globals; tasks = tasks }, left.1)) (set_again g.tasks zero _ _)
committed_again c g (suc k) x held tickets values =
    let left = committed_group c g (suc k) x tickets values in
    ap (λ tasks. (record { image = left.0.image; calls = left.0.calls; globals = left.0.globals; tasks = tasks }, left.1)) (set_again g.tasks (suc k) _ _)
