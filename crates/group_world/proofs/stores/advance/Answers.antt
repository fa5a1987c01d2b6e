use Rattle.std.proofs.Common.{◌≡◌, refl, sym, ap, ◌∙◌}
use Rattle.scan_task.specs.Standing.{Standing}
use Rattle.il_semantics.specs.Step.{step}
use Rattle.scan_task.specs.declared.scanning.Stepped.TheVariants as stepped
use Rattle.group_world.proofs.Views.{the_memory}
use Rattle.group_world.proofs.stores.advance.Goals as goal

pub returns-in-More-clause-step : goal.returns-in-More-clause-step
returns-in-More-clause-step c = λ s is going.
    record {
      store = c.step.new.store;
      is = refl;
      of = c.step.ensures.of;
      step = ap (λ (x : Standing). step c.args.verified.now.config x.state) (the_memory c.args.store.now s c.in-Some.store is c.in-Some.is) ∙ c.step.ensures.step;
      more = λ _. refl;
      end = λ over. (let bad : stepped.More ≡ stepped.End = sym c.in-More.is ∙ c.step.ensures.end.1 over in cc);
    }

pub returns-in-End-clause-step : goal.returns-in-End-clause-step
returns-in-End-clause-step c = λ s is going.
    record {
      store = c.step.new.store;
      is = refl;
      of = c.step.ensures.of;
      step = ap (λ (x : Standing). step c.args.verified.now.config x.state) (the_memory c.args.store.now s c.in-Some.store is c.in-Some.is) ∙ c.step.ensures.step;
      more = λ on. absurd (on (c.step.ensures.end.0 c.in-End.is));
      end = λ _. refl;
    }
