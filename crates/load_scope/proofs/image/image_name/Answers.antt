use Rattle.std.proofs.Common.{Some, option_map, ap, sym, ◌∙◌}
use Rattle.load_scope.specs.Images.{image_in}
use Rattle.load_scope.proofs.Known.{image_is}
use Rattle.load_scope.proofs.image.image_name.Goals as goal

pub returns-in-Some : goal.returns-in-Some
returns-in-Some c =
    ap Some c.image_in.ensures
    ∙ sym (ap (λ o. option_map (image_in c.args.config.now) (option_map (λ r. r.now) o)) c.in-Some.is)
    ∙ ap (option_map (image_in c.args.config.now)) c.row_named.ensures
    ∙ image_is c.args.config.now c.image_rows.result.now c.args.name.now (c.image_rows.ensures c.args.config.now)

pub returns-in-None : goal.returns-in-None
returns-in-None c =
    sym (ap (λ o. option_map (image_in c.args.config.now) (option_map (λ r. r.now) o)) c.in-None.is)
    ∙ ap (option_map (image_in c.args.config.now)) c.row_named.ensures
    ∙ image_is c.args.config.now c.image_rows.result.now c.args.name.now (c.image_rows.ensures c.args.config.now)
