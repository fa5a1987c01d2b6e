use Rattle.std.proofs.Common.{◌≡◌, ◌+◌, ◌<◌, length, sym, ap, ◌∙◌, refl, arith}
use Rattle.ranges_interval.specs.Interval.{interval_join}
use Rattle.ranges_rows.specs.Ranges.{ranges_of}
use Rattle.ranges_rows.proofs.Pairs.{paired_to, paired_start, paired_length, paired_on, paired_end}
use Rattle.ranges_rows.proofs.wide.join_wide.Goals as goal

pub loop-number-init : goal.loop-number-init
loop-number-init c = record { is = sym (paired_start interval_join c.args.row.now (ranges_of c.args.words.now c.args.wide.now)); long = c.requires; started = c.requires }

pub loop-number-preserved : goal.loop-number-preserved
loop-number-preserved c =
    let low : c.loop-number.number < length (ranges_of c.args.words.now c.args.wide.now) = omega (arith, c.loop-number.invariant.long, c.loop-number.auto.number-end, c.loop-number-test.true) in
    let is = paired_on interval_join c.loop-number.number c.loop-number.row _ c.args.row.now (ranges_of c.args.words.now c.args.wide.now) _ c.range_at.result c.hull.result _
    c.loop-number.invariant.is refl (c.range_at.ensures _) c.hull.ensures refl (omega (arith, c.requires, low)) low in
    record { is = is; long = ap length is ∙ paired_length interval_join (c.loop-number.number + 1) c.args.row.now (ranges_of c.args.words.now c.args.wide.now) ∙ c.requires; started = c.requires }

pub returns : goal.returns
returns c =
    let end : c.loop-number.number ≡ length (ranges_of c.args.words.now c.args.wide.now) = omega (arith, c.loop-number.invariant.long, c.loop-number.auto.number-end, c.loop-number-test.false) in
    c.loop-number.invariant.is ∙ ap (λ n. paired_to interval_join n c.args.row.now (ranges_of c.args.words.now c.args.wide.now)) end ∙ paired_end interval_join c.args.row.now (ranges_of c.args.words.now c.args.wide.now) c.requires
