use Rattle.std.proofs.Common.{◌≡◌, ◌+◌, ◌<◌, length, get_or, sym, ap, ap₂, ◌∙◌, refl, arith, rules, SFits, w32, pos}
use Rattle.std.proofs.lemmas.Int.{to_z-of_z}
use Rattle.std.specs.Prelude.{slice_set}
use Rattle.std.specs.Int.{int_min}
use Rattle.ranges_rows.proofs.Widened.{equal_joined}
use Rattle.ranges_rows.proofs.Pairs.{paired_to, paired_start, paired_length, paired_on, paired_end}
use Rattle.ranges_rows.proofs.joining.join_block.Goals as goal

pub returns-then-are_equal : goal.returns-then-are_equal
returns-then-are_equal c = equal_joined c.args.row.now c.args.other.now (c.are_equal.ensures c.if-are_equal.true)

pub loop-number-init : goal.loop-number-init
loop-number-init c = record { is = sym (paired_start int_min c.args.row.now c.args.other.now); long = c.requires; started = c.requires }

pub loop-number-preserved : goal.loop-number-preserved
loop-number-preserved c =
    let low : c.loop-number.number < length c.args.other.now = omega (arith, c.loop-number.invariant.long, c.loop-number.auto.number-end, c.loop-number-test.true) in
    let first : SFits w32 (get_or c.loop-number.row c.loop-number.number (pos 0)) = search rules in
    let second : SFits w32 (get_or c.args.other.now c.loop-number.number (pos 0)) = search rules in
    let least : SFits w32 c.min.result = search rules in
    let is = paired_on int_min c.loop-number.number c.loop-number.row _ c.args.row.now c.args.other.now _ _ c.min.result (pos 0)
    c.loop-number.invariant.is refl refl (c.min.ensures.value ∙ ap₂ int_min (to_z-of_z w32 _ first) (to_z-of_z w32 _ second)) (ap (λ z. slice_set c.loop-number.row c.loop-number.number z) (to_z-of_z w32 c.min.result least)) (omega (arith, c.requires, low)) low in
    record { is = is; long = ap length is ∙ paired_length int_min (c.loop-number.number + 1) c.args.row.now c.args.other.now ∙ c.requires; started = c.requires }

pub returns : goal.returns
returns c =
    let end : c.loop-number.number ≡ length c.args.other.now = omega (arith, c.loop-number.invariant.long, c.loop-number.auto.number-end, c.loop-number-test.false) in
    c.loop-number.invariant.is ∙ ap (λ n. paired_to int_min n c.args.row.now c.args.other.now) end ∙ paired_end int_min c.args.row.now c.args.other.now c.requires
