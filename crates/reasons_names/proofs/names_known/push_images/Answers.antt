use Rattle.std.proofs.Common.{ap, ◌∙◌, ◌++◌, map}
use Rattle.std.proofs.lemmas.Result.{on_ok_weaker}
use Rattle.reasons_names.specs.NamesNear.{candidate_shown}
use Rattle.reasons_names.proofs.Known.{images_of_rows}
use Rattle.reasons_names.proofs.names_known.push_images.Goals as goal

pub returns : goal.returns
returns c =
    on_ok_weaker c.push_rows.result (λ e. e ∙ ap (λ l. map candidate_shown c.args.candidates.now.items ++ l) (images_of_rows c.args.here.now.config c.args.here.now.unit c.image_rows.result.now (c.image_rows.ensures c.args.here.now.config))) c.push_rows.ensures
