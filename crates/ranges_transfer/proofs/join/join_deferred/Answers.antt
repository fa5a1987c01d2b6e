use Rattle.std.proofs.Common.{◌≡◌, ◌<◌, length, ap, sym, ◌∙◌, arith}
use Rattle.ranges_transfer.proofs.Joins.{going_first, goes_on, goes_off, gone_over, no_join}
use Rattle.ranges_transfer.proofs.join.join_deferred.Goals as goal

pub returns-then-as_slice : goal.returns-then-as_slice
returns-then-as_slice c = no_join c.args.deferred.now c.args.other.now (λ e. c.if-as_slice.true (ap length c.as_slice.ensures ∙ e ∙ sym (ap length c.as_slice-2.ensures)))

pub loop-number-init : goal.loop-number-init
loop-number-init c = going_first c.args.deferred.now c.args.other.now (sym (ap length c.as_slice.ensures) ∙ c.if-as_slice.false ∙ ap length c.as_slice-2.ensures)

pub returns-in_default : goal.returns-in_default
returns-in_default c =
    let low : c.loop-number.number < length c.args.other.now = omega (arith, ap length c.as_slice-number-end.ensures) in
    goes_off c.loop-number.number c.args.deferred.now c.loop-number.deferred c.args.other.now c.as_slice-in-loop-number.result.now c.as_slice-in-loop-number-2.result.now _ c.one_join.result c.loop-number.invariant c.as_slice-in-loop-number.ensures c.as_slice-in-loop-number-2.ensures c.one_join.ensures c.in_default.is low

pub loop-number-preserved : goal.loop-number-preserved
loop-number-preserved c =
    let low : c.loop-number.number < length c.args.other.now = omega (arith, ap length c.as_slice-number-end.ensures) in
    goes_on c.loop-number.number c.args.deferred.now c.loop-number.deferred c.set.new.self c.args.other.now c.as_slice-in-loop-number.result.now c.as_slice-in-loop-number-2.result.now _ c.in-Some.joined c.one_join.result c.loop-number.invariant c.as_slice-in-loop-number.ensures c.as_slice-in-loop-number-2.ensures c.one_join.ensures c.in-Some.is c.set.ensures low

pub returns : goal.returns
returns c =
    let end : c.loop-number.number ≡ length c.args.other.now = omega (arith, ap length c.as_slice-number-end.ensures) in
    gone_over c.loop-number.number c.args.deferred.now c.loop-number.deferred c.args.other.now c.loop-number.invariant end
