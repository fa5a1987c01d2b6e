use Rattle.std.proofs.Common.{◌≡◌, ◌+◌, ◌∷◌, [], length, sym, ap, ap₂, ◌∙◌, subst, arith}
use Rattle.std.specs.Prelude.{sum_by}
use Rattle.std.proofs.lemmas.List.{length-append}
use Rattle.threads_desk.specs.Account.{times}
use Rattle.threads_desk.specs.Passes.{Panel}
use Rattle.threads_workers.specs.Panels.{IsIdle, at_panel}
use Rattle.threads_workers.proofs.Counting.{all_more}
use Rattle.threads_workers.proofs.Keeping.{made_more, sum_last, all_but_last}
use Rattle.threads_workers.proofs.run.start_panels.Goals as goal

pub panels-preserved-in_ok-push : goal.panels-preserved-in_ok-push
panels-preserved-in_ok-push g c =
    let at = c.panels.invariant in
    let pass = c.in-Some.pass in
    let handle = c.in_ok-start.field-0 in
    let rest = c.pop.new.self.items in
    let table = c.args.desk.now.table in
    let split = c.in-Some.ensures.items in
    let grown = c.in_ok-push.ensures.items in
    let new = all_but_last c.panels.panels.items rest pass split (λ p. IsIdle table p) at.panels in
    record {
      count =
          (let more = ap length grown ∙ length-append c.panels.pressed.items (handle ∷ []) in
          let fewer = ap length split ∙ length-append rest (pass ∷ []) in
          omega (arith, at.count, more, fewer));
      panels = new.0;
      pressed = all_more c.push.new.self.items c.panels.pressed.items handle grown (λ h. IsIdle table h.promise.before.value) at.pressed (subst (IsIdle table) (sym c.in_ok-start.ensures.0) new.1);
      idle = at.idle;
      made = λ call.
          let f = λ (p : Panel). at_panel call c.args.presses.now p in
          made_more c.panels.pressed.items c.push.new.self.items handle (λ h. at_panel call h.promise.presses.value.now h.promise.before.value) (sum_by f rest) (f pass) (sum_by f c.panels.panels.items) (sum_by f c.args.panels.items)
          grown (at.made call) (sum_last c.panels.panels.items rest pass f split) (ap₂ (λ ps p. at_panel call ps p) c.in_ok-start.ensures.1 c.in_ok-start.ensures.0);
    }

pub panels-preserved : goal.panels-preserved
panels-preserved g c =
    let at = c.panels.invariant in
    let pass = c.in-Some.pass in
    let rest = c.pop.new.self.items in
    let table = c.args.desk.now.table in
    let split = c.in-Some.ensures.items in
    let grown = c.in_ok-push-2.ensures.items in
    let new = all_but_last c.panels.panels.items rest pass split (λ p. IsIdle table p) at.panels in
    record {
      count =
          (let more = ap length grown ∙ length-append c.panels.idle.items (pass ∷ []) in
          let fewer = ap length split ∙ length-append rest (pass ∷ []) in
          omega (arith, at.count, more, fewer));
      panels = new.0;
      pressed = at.pressed;
      idle = all_more c.push-else-is_pressed.new.self.items c.panels.idle.items pass grown (λ p. IsIdle table p) at.idle new.1;
      made = λ call.
          let f = λ (p : Panel). at_panel call c.args.presses.now p in
          let own : f pass ≡ 0 = ap (times call) (c.is_pressed.ensures c.if-is_pressed.false) in
          omega (arith, at.made call, sum_last c.panels.panels.items rest pass f split, own);
    }
