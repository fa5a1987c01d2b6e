use Rattle.std.proofs.Common.{◌≡◌, ◌∷◌, ◌++◌, [], map, sym, ap, ap₂, ◌∙◌}
use Rattle.threads_station.specs.Passes.{TaskCount}
use Rattle.threads_station.proofs.Tasks.{map_more}
use Rattle.threads_workers.proofs.Counting.{all_more}
use Rattle.threads_workers.proofs.task.start_all.Goals as goal

pub passes-preserved : goal.passes-preserved
passes-preserved g c =
    let at = c.passes in
    let handle = c.in_ok-handle.handle in
    let told = c.in_ok-handle.ensures in
    let grown : c.add.new.items.items ≡ at.started.items ++ handle ∷ [] = c.in_ok-add.ensures in
    record {
      tasks = ap (map _) grown ∙ map_more _ at.started.items handle ∙ ap₂ (λ us u. us ++ u ∷ []) at.invariant.tasks told.0 ∙ sym (map_more (λ (p : TaskCount). p.task) at.yielded c.in-Some.pass);
      rounds = all_more c.add.new.items.items at.started.items handle grown (λ h. h.promise.rounds ≡ c.args.rounds) at.invariant.rounds told.1;
    }
