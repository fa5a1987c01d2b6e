use Rattle.std.proofs.Common.{◌∙◌, sym, ap, arith, drop, length}
use Rattle.group_spec.specs.Calls.{enter_all}
use Rattle.group_world.proofs.Sharing.{free_few, enters, stays, enters_free, first_of, none_left, room_more}
use Rattle.group_world.proofs.calling.enter_all.Goals as goal

pub calls-init : goal.calls-init
calls-init c =
    let few = free_few c.args.calls.now.slots in
    record {
      room = omega (arith, few, c.count-slots.ensures.few, ap length c.clear.ensures);
      rest = ap (λ done. enter_all c.args.calls.now done c.args.hand.now) (sym c.clear.ensures);
    }

pub returns-in_default-enter : goal.returns-in_default-enter
returns-in_default-enter c =
    let hand = first_of c.calls.hand c.in-Some.call (sym c.in-Some.is ∙ c.first.ensures.value) in
    c.calls.invariant.rest ∙ ap (enter_all c.calls.calls c.calls.done) hand
    ∙ stays c.calls.calls c.enter.new.self c.calls.done c.in-Some.call _ (c.enter.ensures.value ∙ ap (λ e. (c.enter.new.self, e)) c.in_default-enter.is)
    ∙ ap (λ h. record { calls = c.enter.new.self; hand = h; done = c.calls.done }) (sym hand)

pub push-requires : goal.push-requires
push-requires c =
    let fewer = enters_free c.calls.calls c.enter.new.self c.in-Some.call c.in-Done.slot c.in-Done.ticket (c.enter.ensures.value ∙ ap (λ e. (c.enter.new.self, e)) c.in-Done.is) in
    omega (arith, fewer, c.calls.invariant.room)

pub calls-preserved : goal.calls-preserved
calls-preserved c =
    let entered = c.enter.ensures.value ∙ ap (λ e. (c.enter.new.self, e)) c.in-Done.is in
    let fewer = enters_free c.calls.calls c.enter.new.self c.in-Some.call c.in-Done.slot c.in-Done.ticket entered in
    let hand = first_of c.calls.hand c.in-Some.call (sym c.in-Some.is ∙ c.first.ensures.value) in
    record {
      room = rw c.push.ensures (room_more c.calls.done _ _ _ c.calls.invariant.room fewer);
      rest =
          c.calls.invariant.rest ∙ ap (enter_all c.calls.calls c.calls.done) hand ∙ enters c.calls.calls c.enter.new.self c.calls.done c.in-Some.call _ c.in-Done.slot c.in-Done.ticket entered
          ∙ ap (λ done. enter_all c.enter.new.self done (drop 1 c.calls.hand)) (sym c.push.ensures) ∙ ap (enter_all c.enter.new.self c.push.new.self) (sym c.take_first.ensures.rest);
    }

pub returns : goal.returns
returns c =
    let hand = none_left c.calls.hand (sym c.in_default.is ∙ c.first.ensures.value) in
    c.calls.invariant.rest ∙ ap (enter_all c.calls.calls c.calls.done) hand ∙ ap (λ h. record { calls = c.calls.calls; hand = h; done = c.calls.done }) (sym hand)
