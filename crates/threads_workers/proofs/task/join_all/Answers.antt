use Rattle.std.proofs.Common.{◌≡◌, ◌+◌, ◌∷◌, ◌++◌, [], map, sym, ap, ap₂, ◌∙◌}
use Rattle.std.specs.Vec.Iter.{into_iter_items}
use Rattle.std.proofs.lemmas.List.Elements.{All-push}
use Rattle.threads_station.specs.Passes.{TaskCount}
use Rattle.threads_station.proofs.Tasks.{map_more}
use Rattle.threads_workers.proofs.Counting.{next_of}
use Rattle.threads_workers.proofs.task.join_all.Goals as goal

pub started-preserved : goal.started-preserved
started-preserved g c =
    let at = c.started in
    let x = c.in-Some.handle in
    let steps : into_iter_items at.handle-iterator ≡ x ∷ into_iter_items c.next.new.self = c.in-Some.ensures.steps.0 in
    let next = next_of (into_iter_items at.handle-iterator) (into_iter_items c.next.new.self) x steps (λ h. h.promise.rounds ≡ c.args.rounds) at.invariant.left in
    let told = c.in_ok-pass.ensures in
    let grown : c.add.new.items.items ≡ at.passes.items ++ c.in_ok-pass.pass ∷ [] = c.in_ok-add.ensures in
    record {
      tasks = ap (map (λ (p : TaskCount). p.task)) grown ∙ map_more (λ (p : TaskCount). p.task) at.passes.items c.in_ok-pass.pass ∙ ap₂ (λ us u. us ++ u ∷ []) at.invariant.tasks told.0 ∙ sym (map_more _ at.yielded x);
      counts = rw grown (All-push (λ (p : TaskCount). p.count ≡ c.args.rounds + c.args.rounds) at.passes.items c.in_ok-pass.pass at.invariant.counts (told.1 ∙ ap (λ n. n + n) next.0));
      left = next.1;
    }
