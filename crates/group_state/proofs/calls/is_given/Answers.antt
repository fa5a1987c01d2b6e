use Rattle.std.proofs.Common.{◌<◌, ◌∙◌, sym, false, arith, below_more, refl}
use Rattle.group_state.proofs.Words.{true_false}
use Rattle.group_state.proofs.Slots.{ticket_got, ticket_within}
use Rattle.group_state.proofs.calls.is_given.Goals as goal

pub returns-then-is_under : goal.returns-then-is_under
returns-then-is_under c = (
  λ no. absurd (true_false false no refl),
  λ given. absurd (given.fresh c.slots.slot-index (ticket_got c.args.earlier.now c.slots.slot-index ∙ c.is_under.ensures.0 c.if-is_under.true)),
)

pub slots-preserved : goal.slots-preserved
slots-preserved c =
    below_more _ _ c.slots.invariant (λ e. true_false c.is_under.result (c.is_under.ensures.1 (sym (ticket_got c.args.earlier.now c.slots.slot-index) ∙ e)) c.if-is_under.false)

pub returns : goal.returns
returns c = (
  λ yes. record {
    least = omega arith;
    most = omega arith;
    fresh = λ k e. let within = ticket_within c.args.earlier.now k c.args.ticket e in let low : k < c.slots.slot-index = omega (arith, within) in c.slots.invariant k low e;
  },
  λ given. refl,
)
