use Rattle.std.proofs.Common.{ap, ◌∙◌}
use Rattle.il_statics.specs.Names.{meaning}
use Rattle.load_declarations.specs.Mentions.{array_of}
use Rattle.load_declarations.proofs.MentionLaws.{array_is}
use Rattle.reasons_types.specs.KindReasons.{is_other_kind}
use Rattle.reasons_types.proofs.types_kinds.names_no_array.Goals as goal

pub returns : goal.returns
returns c =
    let s = c.args.scope.now in
    c.is_no_array.ensures ∙ ap (λ b. is_other_kind (array_of b)) c.meaning.ensures ∙ ap is_other_kind (array_is s.config (meaning s.config s.unit c.args.name.now))
