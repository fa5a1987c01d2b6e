use Rattle.std.proofs.Common.{refl, subst}
use Rattle.scan_task.specs.Standing.{Standing}
use Rattle.il_semantics.specs.Scan.{Reaches}
use Rattle.group_world.proofs.Views.{the_memory}
use Rattle.group_world.proofs.stores.run_out.Goals as goal

pub returns-clause-steps : goal.returns-clause-steps
returns-clause-steps c = λ s is.
    record {
      store = c.finish.new.store;
      is = refl;
      of = c.finish.ensures.of;
      some = c.finish.ensures.some;
      steps = subst (λ (x : Standing). Reaches c.args.verified.now.config c.finish.result x.state c.finish.new.store.state) (the_memory c.args.store.now c.in-Some.store s c.in-Some.is is) c.finish.ensures.steps;
      ended = c.finish.ensures.ended;
    }
