use Rattle.std.proofs.Common.{◌∙◌, ap}
use Rattle.il_semantics.specs.Meaning.{natural, Constant}
use Rattle.load_slots.specs.Flattened.{typed}
use Rattle.load_code.specs.Resolving.{by_resolved}
use Rattle.load_code.proofs.Resolve.{resolved_is}
use Rattle.load_code.proofs.operands.loaded.Goals as goal

pub returns : goal.returns
returns c =
    let h = c.args.here.now in
    c.loaded_by.ensures ∙ ap (by_resolved (λ l. typed (natural (Constant l)) l)) c.resolve.ensures ∙ resolved_is h.scope.config h.checked h.scope.unit h.there (λ l. typed (natural (Constant l)) l) c.args.from.now
