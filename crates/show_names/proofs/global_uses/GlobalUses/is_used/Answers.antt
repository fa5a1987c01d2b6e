use Rattle.std.proofs.Common.{ap, sym, ◌∙◌}
use Rattle.show_names.specs.Xref.{is_there, unit_places_shown}
use Rattle.show_names.proofs.Told.{is_there-global_places, is_there-map, not_empty}
use Rattle.show_names.proofs.global_uses.GlobalUses.is_used.Goals as goal

pub returns : goal.returns
returns c =
    not_empty c.is_empty.result c.places.result.now c.is_empty.ensures ∙ sym (is_there-map unit_places_shown c.places.result.now) ∙ ap is_there c.places.ensures
    ∙ is_there-global_places c.args.self.now.units.now c.args.name.now c.args.manner
