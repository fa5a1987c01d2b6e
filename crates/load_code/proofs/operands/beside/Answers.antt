use Rattle.std.proofs.Common.{◌∙◌, ap}
use Rattle.load_slots.specs.Flattened.{untyped}
use Rattle.load_code.specs.Resolving.{by_resolved}
use Rattle.load_code.proofs.Resolve.{resolved_is}
use Rattle.load_code.proofs.operands.beside.Goals as goal

pub returns : goal.returns
returns c = let h = c.args.here.now in c.untyped_by.ensures ∙ ap (by_resolved untyped) c.resolve.ensures ∙ resolved_is h.scope.config h.checked h.scope.unit h.there untyped c.args.from.now
