use Rattle.std.proofs.Common.{◌≡◌, Some, subst, sym, ap, ◌∙◌}
use Rattle.base_maps.specs.NameMap as table
use Rattle.load_scope.specs.Units.{scalar_of}
use Rattle.ranges_laws.specs.Facts.{Names}
use Rattle.ranges_transfer.specs.Scopes.{form_in}
use Rattle.ranges_pass.proofs.Unranged.{has_none}
use Rattle.ranges_pass.proofs.numbered_unit.NumberedUnit.number_of.Goals as goal

pub returns-in-None : goal.returns-in-None
returns-in-None c =
    let name = c.args.name.now in
    let form = subst (λ (n : Names). scalar_of (form_in n name) ≡ Some c.args.scalar) (sym c.self.view_is) c.requires in
    let none = has_none c.self.inside.unit.now c.self.inside.numbering.now.numbers name c.args.scalar c.self.invariant.1 form (sym c.range.ensures ∙ c.in-None.is) in
    sym none ∙ ap (λ (n : Names). table.get n.numbers name) c.self.view_is
