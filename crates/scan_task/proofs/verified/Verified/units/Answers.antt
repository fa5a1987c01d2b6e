use Rattle.std.proofs.Common.{ap, sym, ◌∙◌, map}
use Rattle.il_syntax.specs.declared.tree.Config.{Config}
use Rattle.load_budgets.specs.Costs.{path_of}
use Rattle.scan_task.specs.Scanning.{Program}
use Rattle.scan_task.specs.Listing.{unit_lines}
use Rattle.scan_task.proofs.Lines.{shown_as}
use Rattle.scan_task.proofs.verified.Verified.units.Goals as goal

pub returns : goal.returns
returns c =
    let config = c.args.self.now.config in
    let units = c.as_slice.ensures ∙ ap (λ (k : Config). k.units) c.config.ensures.same in
    let paths = c.as_slice-2.ensures ∙ c.self.invariant.1 ∙ ap (λ (p : Program). map (path_of p.config) p.config.units) c.self.view_is in
    rw (units, c.unit_costs.ensures, paths) (shown_as config config.units ∙ sym (ap (unit_lines config.units) c.config.ensures.costs))
