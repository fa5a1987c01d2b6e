use Rattle.std.proofs.Common.{◌∙◌, ap}
use Rattle.il_statics.proofs.Least.{least_both}
use Rattle.load_declarations.specs.Sizes.{sizes_found}
use Rattle.load_declarations.proofs.SizeLaws.{least_sizes}
use Rattle.load_declarations.proofs.whole.units_and_sizes_fault.Goals as goal

pub returns : goal.returns
returns c = least_both _ _ c.sizes_fault.result c.in_ok-units.units c.earlier.result c.earlier.ensures (least_sizes c.args.names.now c.sizes_fault.result (c.sizes_fault.ensures ∙ ap sizes_found c.config.ensures)) c.in_ok-units.ensures
