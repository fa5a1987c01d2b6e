use Rattle.std.proofs.Common.{◌≡◌, List, ◌++◌, map, flat_map, drop, string_bytes, append-nil, subst, sym, ap, ◌∙◌}
use Rattle.std.proofs.lemmas.List.{drop_all}
use Rattle.il_syntax.specs.declared.tree.Config.{Config}
use Rattle.il_syntax.specs.declared.tree.Unit.{Unit as ProgramUnit}
use Rattle.il_work_laws.specs.Work.{most_work}
use Rattle.load_work.specs.Sizes.{capped}
use Rattle.cli_output.specs.Busy.{busy_text}
use Rattle.cli_output.proofs.Busiest.{busy_more}
use Rattle.cli_output.proofs.busy.put_units.Goals as goal

pub units-preserved : goal.units-preserved
units-preserved c =
    let config : Config = c.args.config.now in
    busy_more config c.as_slice-units.result.now c.args.works.now (subst (λ us. c.args.works.now ≡ map (λ u. capped (most_work config u)) us) (sym c.as_slice-units.ensures) c.requires)
    c.units.at c.index-units-at.result c.number_at.result (string_bytes c.units.text) (string_bytes c.put_unit.new.text) _
    c.units-test.true c.index-units-at.is c.number_at.ensures c.in_ok-put_unit.ensures c.units.invariant

pub returns : goal.returns
returns c =
    sym (append-nil (string_bytes c.units.text)) ∙ ap (λ (us : List ProgramUnit). string_bytes c.units.text ++ flat_map (busy_text c.args.config.now) us) (sym (drop_all c.units.at c.as_slice-units.result.now c.units-test.false)) ∙ c.units.invariant
    ∙ ap (λ (us : List ProgramUnit). string_bytes c.args.text.now ++ flat_map (busy_text c.args.config.now) us) c.as_slice-units.ensures
