use Rattle.std.proofs.Common.{rules, ◌≡◌, Option, Some, MatchOption, subst, sym}
use Rattle.group_spec.specs.declared.calls.Call.{Call}
use Rattle.group_spec.specs.declared.event.Reply.{Reply as Answer}
use Rattle.group_world.specs.Worlds.{WorldOf}
use Rattle.liftplc_c.specs.Presses.{press_status, Presses}
use Rattle.liftplc_c.proofs.pressing.liftplc_press.Goals as goal

pub returns-clause-answered : goal.returns-clause-answered
returns-clause-answered c =
    let w = c.in-Some.rounds.value.world in
    let v = c.press-status.new.rounds.world in
    let call : Call = record { from = c.args.from; to = c.args.to } in
    let from : c.deref_mut.result.now.world ≡ w = search rules in
    let at : c.put.new.self.held.world ≡ Some v = search rules in
    let pressed = c.press-status.ensures.pressed in
    subst
    (λ (o : Option WorldOf).
    MatchOption o (c.press-status.result ≡ 4)
    (λ w. (answer : Answer) × (v : WorldOf) × (c.put.new.self.held.world ≡ Some v) × Presses call w v answer × (c.press-status.result ≡ press_status answer)))
    (sym c.in-Some.ensures.some) (pressed.0, v, at, subst (λ (x : WorldOf). Presses call x v pressed.0) from pressed.1, pressed.2)
