use Rattle.std.proofs.Common.{ap, ◌∙◌}
use Rattle.il_statics.specs.Names.{meaning}
use Rattle.load_declarations.specs.Mentions.{called_of}
use Rattle.load_declarations.proofs.MentionLaws.{called_is}
use Rattle.reasons_types.specs.KindReasons.{is_other_kind}
use Rattle.reasons_types.proofs.types_kinds.names_no_instance.Goals as goal

pub returns : goal.returns
returns c =
    let s = c.args.scope.now in
    c.is_no_instance.ensures ∙ ap (λ b. is_other_kind (called_of b)) c.meaning.ensures ∙ ap is_other_kind (called_is s.config (meaning s.config s.unit c.args.name.now))
