use Rattle.std.proofs.Common.{◌∙◌}
use Rattle.reasons_tokens.specs.ExpectedKinds.{kind_of}
use Rattle.reasons_names.proofs.Pieces.{if_ok}
use Rattle.reasons_tokens.proofs.Standing.{stands}
use Rattle.reasons_tokens.proofs.unexpected.spells_with.Goals as goal

pub returns : goal.returns
returns c =
    if_ok c.is_of_language.result _ _
    (λ is spelled yes. stands c.args.text.now c.args.offset (kind_of c.args.kind.now) c.args.rest.now c.deref.result.now (c.deref.ensures.value ∙ c.in_ok-whole.ensures) c.requires (spelled yes))
    c.is_of_language.ensures
