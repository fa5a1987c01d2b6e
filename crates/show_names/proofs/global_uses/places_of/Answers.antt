use Rattle.std.proofs.Common.{ap, ◌∙◌, arith}
use Rattle.show_names.specs.Xref.{global_places}
use Rattle.std.proofs.lemmas.List.{take_all}
use Rattle.show_names.proofs.Pushes.{units_next}
use Rattle.show_names.proofs.global_uses.places_of.Goals as goal

pub units-preserved : goal.units-preserved
units-preserved c = (
  c.in_ok-add_unit.ensures.sound,
  units_next c.args.units.now c.units.unit-index c.unit-item.result c.units.lines c.add_unit.new.lines (omega arith) c.unit-item.is c.in_ok-add_unit.ensures.lines c.units.invariant.1,
)

pub returns : goal.returns
returns c = λ name manner. c.units.invariant.1 name manner ∙ ap (λ us. global_places us name manner) (take_all c.units.unit-index c.args.units.now (omega arith))
