use Rattle.std.proofs.Common.{◌≡◌, ◌∙◌, ap, arith, length, map}
use Rattle.il_syntax.specs.declared.tree.Config.{Config}
use Rattle.load_slots.specs.Making.{unit_offsets}
use Rattle.load_slots.proofs.Counted.{next_made}
use Rattle.load_slots.proofs.tables.units_offsets.Goals as goal

pub loop-at-preserved : goal.loop-at-preserved
loop-at-preserved c =
    let count : length c.as_slice-units.result.now ≡ length c.args.names.now.units = ap length (c.as_slice-units.ensures ∙ ap (λ (x : Config). x.units) c.config.ensures) in
    next_made (unit_offsets c.args.names.now) c.args.names.now.units c.loop-at.at c.loop-at.tables c.in_ok-table_at.field-0 c.push.new.self (map (unit_offsets c.args.names.now) c.args.names.now.units)
    (omega (arith, count, c.loop-at-test.true)) c.in_ok-table_at.ensures c.in_ok-push.ensures.ok c.loop-at.invariant
