use Rattle.std.proofs.Common.{◌++◌, ap, ◌∙◌}
use Rattle.il_syntax.specs.declared.tree.Declaration.{Declaration}
use Rattle.reasons_names.specs.NameSpots.{shown}
use Rattle.reasons_names.proofs.TypeTexts.{read_more}
use Rattle.reasons_names.proofs.names_spots.push_declared.Goals as goal

pub declarations-preserved : goal.declarations-preserved
declarations-preserved c =
    read_more (λ (d : Declaration). d.names) c.args.declarations.now c.declarations.declaration-index c.declaration-item.result (shown c.args.spots.now.items) (shown c.declarations.spots.items) (shown c.push_named.new.spots.items)
    c.declarations-test.true c.declaration-item.is c.declarations.invariant (c.in_ok-push_named.ensures ∙ ap (λ n. shown c.declarations.spots.items ++ n) c.as_slice.ensures)
