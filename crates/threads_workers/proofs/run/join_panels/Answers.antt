use Rattle.std.proofs.Common.{◌≡◌, ◌+◌, ◌≤◌, ◌∷◌, [], length, refl, ap, ◌∙◌, arith}
use Rattle.std.specs.Prelude.{sum_by}
use Rattle.std.proofs.lemmas.List.{length-append}
use Rattle.threads_desk.specs.Account.{times}
use Rattle.threads_desk.specs.Passes.{Panel}
use Rattle.threads_workers.specs.Panels.{IsIdle, at_panel}
use Rattle.threads_workers.proofs.Counting.{all_more}
use Rattle.threads_workers.proofs.Keeping.{idle_pressed, idle_news, own_pressed, own_news, made_more, sum_last, all_but_last}
use Rattle.threads_workers.proofs.run.join_panels.Goals as goal

pub pressed-init : goal.pressed-init
pressed-init g c =
    let table = c.args.desk.now.table in
    let idle = c.args.panels.idle.items in
    record {
      count = refl;
      pressed = c.requires.pressed;
      tables = λ k d low. (c.requires.idle k d low).0;
      made = λ call. omega (arith, idle_pressed table idle c.requires.idle call);
      news = λ call. omega (arith, idle_pressed table idle c.requires.idle call, idle_news table idle c.requires.idle call);
    }

pub pressed-preserved : goal.pressed-preserved
pressed-preserved g c =
    let at = c.pressed.invariant in
    let table = c.args.desk.now.table in
    let handle = c.in-Some.handle in
    let rest = c.pop.new.self.items in
    let was = c.pressed.passes.items in
    let pass = c.join.result in
    let split = c.in-Some.ensures.items in
    let grown = c.in_ok-push.ensures.items in
    let has = c.join.ensures in
    let parts = all_but_last c.pressed.pressed.items rest handle split (λ h. IsIdle table h.promise.before.value) at.pressed in
    record {
      count =
          (let more = ap length grown ∙ length-append was (pass ∷ []) in
          let fewer = ap length split ∙ length-append rest (handle ∷ []) in
          omega (arith, at.count, more, fewer));
      pressed = parts.0;
      tables = all_more c.push.new.self.items was pass grown (λ p. p.table ≡ table) at.tables (has.table ∙ parts.1.0);
      made = λ call.
          made_more was c.push.new.self.items pass (λ p. times call p.pressed) _ _ _ _ grown (at.made call) (sum_last c.pressed.pressed.items rest handle (λ h. at_panel call h.promise.presses.value.now h.promise.before.value) split)
          (own_pressed table handle.promise.before.value pass handle.promise.presses.value.now parts.1 has call);
      news = λ call.
          omega (
            arith,
            at.news call,
            own_news table handle.promise.before.value pass handle.promise.presses.value.now parts.1 has call,
            sum_last c.push.new.self.items was pass (λ p. times call p.news) grown,
            sum_last c.push.new.self.items was pass (λ p. times call p.pressed) grown,
          );
    }
