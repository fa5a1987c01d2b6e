use Rattle.std.proofs.Common.{ap, ◌∙◌, map}
use Rattle.il_semantics.specs.Paths.{longest}
use Rattle.scan_task.specs.Scanning.{Program}
use Rattle.scan_task.proofs.verified.Verified.unit_costs.Goals as goal

pub returns : goal.returns
returns c = c.as_slice.ensures ∙ c.self.invariant.0 ∙ ap (λ (p : Program). map (longest p.config) p.config.units) c.self.view_is
