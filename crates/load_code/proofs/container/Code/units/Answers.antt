use Rattle.std.proofs.Common.{◌∙◌}
use Rattle.load_code.proofs.Contained.{units_along}
use Rattle.load_code.proofs.container.Code.units.Goals as goal

pub returns : goal.returns
returns c = c.as_slice.ensures ∙ units_along c.self.inside.ordered c.args.self.now c.self.view_is c.self.inside.parts.units c.self.inside.parts.tasks c.self.invariant.0
