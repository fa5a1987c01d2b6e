use Rattle.std.proofs.Common.{◌++◌, ◌∷◌, [], sym, ap, ◌∙◌}
use Rattle.std.specs.Prelude.{filter}
use Rattle.threads_station.specs.Passes.{task_of, is_task}
use Rattle.threads_station.proofs.Tasks.{filter_more}
use Rattle.threads_station.proofs.station.passes_of.Goals as goal

pub loop-share-preserved : goal.loop-share-preserved
loop-share-preserved g c =
    let f = is_task g.G.Naming.program.config in
    record {
      tasks = c.in_ok-add_pass.ensures.tasks ∙ ap (λ l. l ++ filter f (task_of c.in-Some.share ∷ [])) c.loop-share.invariant.tasks ∙ sym (filter_more f (λ s. task_of s) c.loop-share.yielded c.in-Some.share);
      counts = c.in_ok-add_pass.ensures.counts c.loop-share.invariant.counts;
    }
