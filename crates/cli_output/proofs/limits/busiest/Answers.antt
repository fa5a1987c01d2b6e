use Rattle.std.proofs.Common.{◌≡◌, map, subst, sym}
use Rattle.std.specs.Prelude.{None, option_map}
use Rattle.il_syntax.specs.declared.tree.Config.{Config}
use Rattle.il_work_laws.specs.Work.{most_work}
use Rattle.load_work.specs.Sizes.{capped}
use Rattle.cli_output.specs.Limits.{most_of, work_use, use_shown}
use Rattle.cli_output.proofs.Busiest.{one_more}
use Rattle.cli_output.proofs.limits.busiest.Goals as goal

pub units-preserved : goal.units-preserved
units-preserved c =
    let config : Config = c.args.config.now in
    one_more config c.as_slice-units.result.now c.args.works.now (subst (λ us. c.args.works.now ≡ map (λ u. capped (most_work config u)) us) (sym c.as_slice-units.ensures) c.requires)
    c.units.at c.index-units-at.result (option_map use_shown c.units.best) (use_shown c.with_more.result) c.as_str.result.now c.number_at.result (most_of None (map (work_use config) c.as_slice-units.result.now))
    c.units-test.true c.index-units-at.is c.as_str.ensures c.number_at.ensures c.with_more.ensures c.units.invariant
